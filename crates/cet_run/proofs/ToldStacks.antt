-- What holds of all shadow stacks told holds of those that one record, or one thread, tells of.
use Rattle.std.proofs.Common.{◌≡◌, ℕ, true, ◌+◌, ◌<◌, ◌≤◌, List, [], ◌∷◌, length, take, get_or, refl, ap, sym, ◌∙◌, subst, arith, lit≤}
use Rattle.std.specs.Prelude.{All, map}
use Rattle.std.specs.List.{flat_map}
use Rattle.std.proofs.lemmas.List.Concat.{get_or-flat_map}
use Rattle.std.proofs.lemmas.List.Elements.{All-tail}
use Rattle.std.proofs.lemmas.List.Folds.{flat_map-map, length-flat_map-take}
use Rattle.std.proofs.lemmas.List.Sorted.{All-permutation}
use Rattle.cet_words.specs.Layout.{page_up}
use Rattle.cet_isa.specs.declared.threads.Record.{Record}
use Rattle.cet_isa.specs.declared.threads.What.{What}
use Rattle.cet_isa.specs.declared.threads.What.TheVariants as what
use Rattle.cet_book.specs.View.{IsSpan, Span, no_span}
use Rattle.cet_book.proofs.Readable.{readable, rise}
use Rattle.cet_page.specs.Machine.{Thread}
use Rattle.cet_own.specs.Told.{first_span, in_order, told, told_in, told_spans}
use Rattle.cet_run.specs.Outcome.{thread_out}
use Rattle.cet_run.specs.Shown.{told_by}
use Rattle.cet_run.specs.declared.outcomes.ThreadOut.{ThreadOut}
use Rattle.cet_run.proofs.InOrder.{order_moves}

-- a claim's stack ends below the last page of the shadow area
pub claim_ends : (r : Record) (w : What) → w ≡ what.Claim → All IsSpan (told r w) → r.a + page_up r.b ≤ 0x2003ff000
claim_ends r w e h = (let spans = subst (λ x. All IsSpan (told r x)) e h in (spans 0 no_span (lit≤ tt)).high)

all_in : {X A : Type 0} (P : A → Type 0) (f : X → List A) (xs : List X) (i : ℕ) (e : X) → i < length xs → All P (flat_map f xs) → All P (f (get_or xs i e))
all_in P f xs i e l h k d below =
    let at : length (flat_map f (take i xs)) + k < length (flat_map f xs) = (let room = length-flat_map-take f xs i e l in omega arith) in
    subst P (get_or-flat_map f xs i k e d l below) (h (length (flat_map f (take i xs)) + k) d at)

pub told_here : (records : List Record) (i : ℕ) (d : Record) → i < length records → All IsSpan (told_in records) → All IsSpan (told (get_or records i d) (get_or records i d).what)
told_here records i d l h = all_in IsSpan (λ (x : Record). told x x.what) records i d l h

pub told_of : (outs : List ThreadOut) (i : ℕ) (out : ThreadOut) → i < length outs → out ≡ get_or outs i out → All IsSpan (told_by outs) → All IsSpan (told_in out.records)
told_of outs i out l here h =
    let f : ThreadOut → List Span = λ out. told_in out.records in
    let spans = flat_map f outs in
    let each = All-tail IsSpan first_span spans (All-permutation IsSpan (told_by outs) (first_span ∷ spans) (order_moves (first_span ∷ spans)) h) in
    subst (λ (x : ThreadOut). All IsSpan (told_in x.records)) (sym here) (all_in IsSpan f outs i out l each)

-- the stacks told by an outcome's threads are those of the threads
pub told_same : (threads : List Thread) (outs : List ThreadOut) → outs ≡ map thread_out threads → told_by outs ≡ told_spans threads
told_same threads outs e =
    ap told_by e
    ∙ ap (λ l. in_order (first_span ∷ l)) (flat_map-map (λ (out : ThreadOut). told_in out.records) thread_out threads)

-- a test that computes, by which stacks may be told
pub spans_by : (l : List Span) → rise 0 (in_order l) ≡ true → All IsSpan l
spans_by l e = All-permutation IsSpan (in_order l) l (order_moves l) (readable (in_order l) [] e refl).each
