-- What is known where a change has a book after it. Source: own.
use Rattle.std.proofs.Common.{◌≡◌, ℕ, ◌+◌, ◌*◌, ◌%◌, ◌<◌, ◌≤◌, Bool, true, false, ◌&&◌, length, Option, Some, None, refl, ap, cond, arith}
use Rattle.std.specs.Prelude.{nat_lt}
use Rattle.std.proofs.lemmas.Bool.{false≢true}
use Rattle.std.proofs.lemmas.Bool.Decides.{nat_tests}
use Rattle.cet_book.specs.declared.entries.Holder.{Holder}
use Rattle.cet_book.specs.declared.entries.Holder.TheVariants.{Maker, Current, Parked, Left, Lost}
use Rattle.cet_book.specs.Book.{Region, Book, region, capacity, is_maker, current_of, with_current, can_claim, last_end}
use Rattle.cet_book.specs.Facts.{Bounds}
use Rattle.cet_words.specs.Layout.{last_region_end}

-- a test that passed, and what follows it
pub if_some : (c : Bool) (o : Option Book) (next : Book) → cond c o None ≡ Some next → (c ≡ true) × (o ≡ Some next)
if_some true o next e = (refl, e)
if_some false o next e = cc

pub and_true : (c d : Bool) → (c && d) ≡ true → (c ≡ true) × (d ≡ true)
and_true true d e = (refl, e)
and_true false d e = absurd (false≢true e)

pub with_current_some : (t : ℕ) (b next : Book) (f : ℕ → Region → Option Book) → with_current t b f ≡ Some next → (current_of t b < length b.regions) × (f (current_of t b) (region b (current_of t b)) ≡ Some next)
with_current_some t b next f e =
    let c = if_some (nat_lt (current_of t b) (length b.regions)) (f (current_of t b) (region b (current_of t b))) next e in
    let passed : nat_lt (current_of t b) (length b.regions) ≡ true = c.0 in
    (grind (arith, nat_tests), c.1)

-- room for one more entry than n
pub room_for : (r : Region) (n : ℕ) → Bounds r.start r.end → n < capacity r → r.start + 8 * n + 8 ≤ r.end
room_for r n bounds l = let f = bounds.full in omega arith

pub maker_true : (t : ℕ) (h : Holder) → is_maker t h ≡ true → h ≡ Maker t
maker_true t (Maker x) e = ap Maker (grind (arith, nat_tests))
maker_true t (Current x) e = absurd (false≢true e)
maker_true t Parked e = absurd (false≢true e)
maker_true t (Left x) e = absurd (false≢true e)
maker_true t Lost e = absurd (false≢true e)

-- what a claim asks
pub record CanClaim (start pages : ℕ) (b : Book) : Type 0 where
  pub least : 1 ≤ pages
  pub most : pages ≤ 1022
  pub aligned : start % 4096 ≡ 0
  pub above : last_end b + 4096 ≤ start
  pub high : start + 4096 * pages ≤ last_region_end

pub can_claim_true : (start pages : ℕ) (b : Book) → can_claim start pages b ≡ true → CanClaim start pages b
can_claim_true start pages b e = record {
  least = grind (arith, nat_tests);
  most = grind (arith, nat_tests);
  aligned = grind (arith, nat_tests);
  above = grind (arith, nat_tests);
  high = grind (arith, nat_tests);
}
