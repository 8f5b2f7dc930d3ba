-- A test that computes, by which regions that rise and the pointers into them may be given to the reader of words. Source: own.
use Rattle.std.proofs.Common.{◌≡◌, ℕ, zero, suc, ◌%◌, ◌<◌, Bool, true, false, List, [], ◌∷◌, length, get_or, refl, ap, arith}
use Rattle.std.specs.Prelude.{◌&&◌, ◌==◌, nat_le, nat_lt, if◌then◌else◌}
use Rattle.std.specs.List.{AllByRecursion}
use Rattle.std.proofs.lemmas.Bool.{false≢true}
use Rattle.std.proofs.lemmas.Bool.Decides.{nat_tests}
use Rattle.std.proofs.lemmas.List.Elements.{All-from_recursion}
use Rattle.cet_words.specs.Layout.{first_region_start, last_region_end}
use Rattle.cet_book.specs.Marks.{has}
use Rattle.cet_book.specs.View.{Span, no_span, Has, IsSpan, IsReadable}
use Rattle.cet_book.proofs.Cases.{and_true}

abbrev is_next : (low : ℕ) → Span → Bool
is_next low r =
    nat_lt low r.start && nat_le first_region_start r.start && nat_le r.start r.end && nat_le r.end last_region_end && r.start % 4096 == 0 && r.end % 4096 == 0

abbrev pub rise : (low : ℕ) → List Span → Bool
rise low [] = true
rise low (r ∷ rs) = is_next low r && rise r.end rs

abbrev lies_in : ℕ → List Span → Bool
lies_in a [] = false
lies_in a (r ∷ rs) = if has a r then true else lies_in a rs

abbrev pub point : List Span → List (ℕ × ℕ) → Bool
point rs [] = true
point rs (p ∷ ps) = (lies_in p.1 rs && p.1 % 8 == 0) && point rs ps

next_low : (low : ℕ) (r : Span) → is_next low r ≡ true → low < r.start
next_low low r e = grind (arith, nat_tests)

next_span : (low : ℕ) (r : Span) → is_next low r ≡ true → IsSpan r
next_span low r e = record {
  low = grind (arith, nat_tests);
  order = grind (arith, nat_tests);
  high = grind (arith, nat_tests);
  first = grind (arith, nat_tests);
  last = grind (arith, nat_tests);
}

all_spans : (low : ℕ) (rs : List Span) → rise low rs ≡ true → AllByRecursion IsSpan rs
all_spans low [] e = tt
all_spans low (r ∷ rs) e = let b = and_true (is_next low r) (rise r.end rs) e in (next_span low r b.0, all_spans r.end rs b.1)

above : (low : ℕ) (rs : List Span) → rise low rs ≡ true → (i a : ℕ) → i < length rs → Has a (get_or rs i no_span) → low < a
above low [] e i a l h = absurd (omega arith)
above low (r ∷ rs) e zero a l h =
    let b = and_true (is_next low r) (rise r.end rs) e in
    let n = next_low low r b.0 in
    let m = h.low in
    omega arith
above low (r ∷ rs) e (suc i) a l h =
    let b = and_true (is_next low r) (rise r.end rs) e in
    let n = next_low low r b.0 in
    let o = (next_span low r b.0).order in
    let m = above r.end rs b.1 i a (omega arith) h in
    omega arith

apart : (low : ℕ) (rs : List Span) → rise low rs ≡ true → (i j a : ℕ) → i < length rs → j < length rs → Has a (get_or rs i no_span) → Has a (get_or rs j no_span) → i ≡ j
apart low [] e i j a l m g h = absurd (omega arith)
apart low (r ∷ rs) e zero zero a l m g h = refl
apart low (r ∷ rs) e zero (suc j) a l m g h =
    let b = and_true (is_next low r) (rise r.end rs) e in
    let n = above r.end rs b.1 j a (omega arith) h in
    let o = g.high in
    absurd (omega arith)
apart low (r ∷ rs) e (suc i) zero a l m g h =
    let b = and_true (is_next low r) (rise r.end rs) e in
    let n = above r.end rs b.1 i a (omega arith) g in
    let o = h.high in
    absurd (omega arith)
apart low (r ∷ rs) e (suc i) (suc j) a l m g h =
    let b = and_true (is_next low r) (rise r.end rs) e in
    ap suc (apart r.end rs b.1 i j a (omega arith) (omega arith) g h)

by_first : (a : ℕ) (r : Span) (rs : List Span) (c : Bool) → has a r ≡ c → (if c then true else lies_in a rs) ≡ true → (lies_in a rs ≡ true → (i : ℕ) × (i < length rs) × Has a (get_or rs i no_span)) →
    (i : ℕ) × (i < length (r ∷ rs)) × Has a (get_or (r ∷ rs) i no_span)
by_first a r rs true h e rest = (0, omega arith, record { low = grind (arith, nat_tests); high = grind (arith, nat_tests) })
by_first a r rs false h e rest = let f = rest e in (suc f.0, (let l = f.1 in omega arith), f.2)

in_one : (a : ℕ) (rs : List Span) → lies_in a rs ≡ true → (i : ℕ) × (i < length rs) × Has a (get_or rs i no_span)
in_one a [] e = absurd (false≢true e)
in_one a (r ∷ rs) e = by_first a r rs (has a r) refl e (in_one a rs)

pointed : (rs : List Span) (ps : List (ℕ × ℕ)) → point rs ps ≡ true → (k : ℕ) → k < length ps → (lies_in (get_or ps k (0, 0)).1 rs && (get_or ps k (0, 0)).1 % 8 == 0) ≡ true
pointed rs [] e k l = absurd (omega arith)
pointed rs (p ∷ ps) e zero l = (and_true (lies_in p.1 rs && p.1 % 8 == 0) (point rs ps) e).0
pointed rs (p ∷ ps) e (suc k) l = pointed rs ps (and_true (lies_in p.1 rs && p.1 % 8 == 0) (point rs ps) e).1 k (omega arith)

pub readable : (rs : List Span) (ssps : List (ℕ × ℕ)) → rise 0 rs ≡ true → point rs ssps ≡ true → IsReadable rs ssps
readable rs ssps e f = record {
  each = All-from_recursion IsSpan rs (all_spans 0 rs e);
  apart = apart 0 rs e;
  pointers = λ k l. in_one (get_or ssps k (0, 0)).1 rs (and_true (lies_in (get_or ssps k (0, 0)).1 rs) ((get_or ssps k (0, 0)).1 % 8 == 0) (pointed rs ssps f k l)).0;
  aligned = λ k l. (let b = (and_true (lies_in (get_or ssps k (0, 0)).1 rs) ((get_or ssps k (0, 0)).1 % 8 == 0) (pointed rs ssps f k l)).1 in grind (arith, nat_tests));
}
