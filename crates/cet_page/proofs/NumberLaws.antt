-- What an access keeps of the numbers of threads, and that accesses run out. Source: own.
use Rattle.std.proofs.Common.{arith, ap, sym, subst, ◌∙◌, inl, inr, length-append, length-set, get_or-set_same, get_or-set_other}
use Rattle.std.proofs.lemmas.Bool.{cases_lt}
use Rattle.std.proofs.lemmas.Bool.Decides.{eqb_tells}
use Rattle.std.proofs.lemmas.List.{get_or_append_left}
use Rattle.std.proofs.Math.Seq.{get_or-append_seam}
use Rattle.std.proofs.lemmas.Option.{slice_get_past, slice_get_within, slice_get-get_or}
use Rattle.std.specs.Prelude.{◌≡◌, ◌≢◌, ℕ, ◌+◌, ◌*◌, ◌<◌, ◌≤◌, List, [], ◌∷◌, ◌++◌, length, Option, Some, None, refl, slice_get, slice_set}
use Rattle.cet_words.specs.Access.{answer}
use Rattle.cet_words.specs.Job.{JobData}
use Rattle.cet_words.specs.declared.accesses.Access.{Access}
use Rattle.cet_isa.specs.declared.threads.Arch.{Arch}
use Rattle.cet_isa.specs.declared.threads.End.{End}
use Rattle.cet_page.specs.Core.{Core, row_played, next_access, core_by, answered, taken}
use Rattle.cet_page.specs.Left.{left_of}
use Rattle.cet_page.specs.Machine.{Machine, Thread, thread_after, with_child, act, step, step_by}
use Rattle.cet_page.specs.Numbered.{AccessesRunOut, IsThere, NumbersStay}
use Rattle.cet_page.specs.Script.{Played, Completed, Faulted, Wants}
use Rattle.cet_page.specs.ValsData.{ValsData}
use Rattle.cet_page.specs.Within.{IsCore}
use Rattle.cet_page.proofs.LeftLaws.{falls}
use Rattle.cet_page.proofs.WithinLaws.{waiting}
use Rattle.cet_page.specs.declared.finishes.Finish.{Finish}
use Rattle.cet_page.specs.declared.finishes.Finish.TheVariants.{Noted, Posted, Exited, Stopped}

-- ---- the list of threads

pub get_other : (threads : List Thread) (t y : ℕ) (x : Thread) → y ≢ t → slice_get (slice_set threads t x) y ≡ slice_get threads y
get_other threads t y x n = elim (cases_lt y (length threads)) [
  | inl l ↦
      let l' : y < length (slice_set threads t x) = omega (arith, length-set threads t x) in
      slice_get-get_or (slice_set threads t x) y x l' ∙ ap Some (get_or-set_other threads t y x x n) ∙ sym (slice_get-get_or threads y x l)
  | inr g ↦
      let g' : length (slice_set threads t x) ≤ y = omega (arith, length-set threads t x) in
      slice_get_past (slice_set threads t x) y g' ∙ sym (slice_get_past threads y g)
]

pub get_same : (threads : List Thread) (t : ℕ) (x : Thread) → t < length threads → slice_get (slice_set threads t x) t ≡ Some x
get_same threads t x l =
    let l' : t < length (slice_set threads t x) = omega (arith, length-set threads t x) in
    slice_get-get_or (slice_set threads t x) t x l' ∙ ap Some (get_or-set_same threads t x x l)

pub get_low : (threads : List Thread) (x : Thread) (y : ℕ) → y < length threads → slice_get (threads ++ x ∷ []) y ≡ slice_get threads y
get_low threads x y l =
    let more = length-append threads (x ∷ []) in
    slice_get-get_or (threads ++ x ∷ []) y x (omega arith) ∙ ap Some (get_or_append_left threads (x ∷ []) x y l) ∙ sym (slice_get-get_or threads y x l)

pub get_last : (threads : List Thread) (x : Thread) → slice_get (threads ++ x ∷ []) (length threads) ≡ Some x
get_last threads x =
    let more = length-append threads (x ∷ []) in
    slice_get-get_or (threads ++ x ∷ []) (length threads) x (omega arith) ∙ ap Some (get_or-append_seam threads x [] x)

-- a birth leaves all that were there
pub get_born : (threads : List Thread) (k : ℕ) (x : Thread) (child : Option Core) → slice_get threads k ≡ Some x → slice_get (with_child threads child) k ≡ Some x
get_born threads k x None e = e
get_born threads k x (Some core) e = get_low threads (record { core = core; trace = [] }) k (slice_get_within threads k x e) ∙ e

-- ---- numbers

number_by : (job : JobData) (arch : Arch) (held : Option ℕ) (seen : ValsData) (c : Played Finish) → (core_by job arch held seen c).arch.number ≡ arch.number
number_by job arch held seen (Wants a changes) = refl
number_by job arch held seen (Faulted e) = refl
number_by job arch held seen (Completed (Noted next noted) left values) = refl
number_by job arch held seen (Completed (Posted next) left values) = refl
number_by job arch held seen (Completed (Exited next noted status) left values) = refl
number_by job arch held seen (Completed Stopped left values) = refl

number_answered : (job : JobData) (core : Core) (answer : ℕ) (c : Played Finish) → (answered job core answer c).core.arch.number ≡ core.arch.number
number_answered job core answer (Wants a changes) = number_by job core.arch _ _ (row_played job core.arch _)
number_answered job core answer (Faulted e) = refl
number_answered job core answer (Completed x left values) = refl

pub number_taken : (job : JobData) (core : Core) (answer : ℕ) → (taken job core answer).core.arch.number ≡ core.arch.number
unfolding taken
number_taken job core answer = number_answered job core answer (row_played job core.arch core.vals)

-- a thread has moved on, and kept its number
set_there : (threads : List Thread) (t k : ℕ) (was x thread : Thread) (child : Option Core) → slice_get threads t ≡ Some was → x.core.arch.number ≡ was.core.arch.number →
    slice_get threads k ≡ Some thread → IsThere (with_child (slice_set threads t x) child) k thread.core.arch.number
set_there threads t k was x thread child at same e = elim (eqb_tells k t) [
  | inl u ↦
      let old : slice_get threads t ≡ Some thread = subst (λ n. slice_get threads n ≡ Some thread) u.1 e in
      let is : was ≡ thread = cc in
      record {
        thread = x;
        found = get_born (slice_set threads t x) k x child (subst (λ n. slice_get (slice_set threads t x) n ≡ Some x) (sym u.1) (get_same threads t x (slice_get_within threads t was at)));
        number = same ∙ ap (λ (y : Thread). y.core.arch.number) is;
      }
  | inr u ↦ record {
    thread = thread;
    found = get_born (slice_set threads t x) k thread child (get_other threads t k x u.1 ∙ e);
    number = refl;
  }
]

acted_there : (job : JobData) (m : Machine) (t k : ℕ) (thread y : Thread) (a : Option Access) → slice_get m.threads t ≡ Some thread → slice_get m.threads k ≡ Some y → IsThere (act job m t thread a).threads k y.core.arch.number
acted_there job m t k thread y None at e = record { thread = y; found = e; number = refl }
acted_there job m t k thread y (Some a) at e =
    let left = taken job thread.core (answer m.words a) in
    set_there m.threads t k thread (thread_after thread left) y left.child at (number_taken job thread.core (answer m.words a)) e

stepped_there : (job : JobData) (m : Machine) (t k : ℕ) (y : Thread) (o : Option Thread) → slice_get m.threads t ≡ o → slice_get m.threads k ≡ Some y → IsThere (step_by job m t o).threads k y.core.arch.number
stepped_there job m t k y None at e = record { thread = y; found = e; number = refl }
stepped_there job m t k y (Some thread) at e = acted_there job m t k thread y (next_access job thread.core) at e

turn_there : (job : JobData) (m : Machine) (t k : ℕ) (y : Thread) → slice_get m.threads k ≡ Some y → IsThere (step job m t).threads k y.core.arch.number
unfolding step
turn_there job m t k y e = stepped_there job m t k y (slice_get m.threads t) refl e

pub numbers_stay : NumbersStay
numbers_stay = record { taken = number_taken; turn = turn_there }

-- ---- accesses

left_most : (job : JobData) (core : Core) (over : Option End) → left_of job core over ≤ 4096 * (job.limit + length job.signals + 1)
left_most job core (Some e) = omega arith
left_most job core None = omega arith

left_some : (job : JobData) (core : Core) → IsCore job core → core.over ≡ None → 0 < left_of job core core.over
left_some job core h e =
    let below = (waiting job core h e).count in
    subst (λ o. 0 < left_of job core o) (sym e) (omega arith)

pub accesses_run_out : AccessesRunOut
accesses_run_out = record {
  falls = λ job core answer h e. falls job core answer (waiting job core h e) e;
  goes = left_some;
  ended = λ job core end e. ap (left_of job core) e;
  most = λ job core. left_most job core core.over;
}
