-- The reads of a source, one after another.
use Rattle.std.proofs.Common.{ℕ, ◌+◌, ◌<◌, ◌≤◌, ◌≡◌, Bool, false, true, nat_lt, List, [], ◌++◌, length, take, Option, Some, None, Ok, Err, refl, sym, ◌∙◌, ap, subst, arith}
use Rattle.std.specs.Prelude.{IfSome}
use Rattle.std.proofs.Math.Bool.{and-false}
use Rattle.std.proofs.lemmas.Bool.{lt-ltb, ne_eqb}
use Rattle.std.proofs.lemmas.List.{append-nil, length-append, length-take-le}
use Rattle.std.specs.Io.KnownBytes.{Consumes, IsAtEnd}
use Rattle.cet_top.proofs.Known.{Consumes-more, rose_later, rose_more, rose_none}
use Rattle.cet_io.specs.Stream.{CountsFaults, Rose, RoseBy, Tally, TakesUpTo, added, counted, is_end, raised, tallied}
use Rattle.cet_top.specs.Reading.{SourceState, TakesAll, CountsBy, TalliesBy, NoneFailed, ReadToEnd, ReadUntilFault, ReadTooMuch, ReadSome}
use Rattle.cet_top.specs.Serves.{Takes, TakesSome}

-- reads gave these bytes so far; none failed or found the end
pub record Reading (src src' : SourceState) (bytes : List ℕ) : Type 0 where
  pub taken : Consumes src.left src'.left bytes
  pub reads : TalliesBy (length bytes) 0 src.tally src'.tally
  pub calm : NoneFailed src src'

-- a read that gave some bytes found no end
not_ended : (room n : ℕ) → ¬ (n ≡ 0) → is_end room n ≡ false
not_ended room n some = rw (ne_eqb n 0 some) (and-false (nat_lt 0 room))

with_room : (room : ℕ) → 0 < room → is_end room 0 ≡ true
with_room room some = rw (lt-ltb 0 room some) refl

-- a tally after m bytes, one read later
module _ (E : Type 0) where
  more_counts : (t u : Tally) (m room n : ℕ) → ¬ (n ≡ 0) → CountsBy m 0 t u → CountsBy (m + n) 0 t (counted {E = E} u room (Ok n))
  more_counts t u m room n some c = rw (not_ended room n some) (record { given = rose_more t.given u.given m n c.given; ends = c.ends })

  more_tallies : (a b : Option Tally) (m room n : ℕ) → ¬ (n ≡ 0) → TalliesBy m 0 a b → TalliesBy (m + n) 0 a (tallied {E = E} b room (Ok n))
  more_tallies None b m room n some c = tt
  more_tallies (Some t) None m room n some c = absurd c
  more_tallies (Some t) (Some u) m room n some c = more_counts t u m room n some c

  end_counts : (t u : Tally) (m room : ℕ) → 0 < room → CountsBy m 0 t u → CountsBy m 1 t (counted {E = E} u room (Ok 0))
  end_counts t u m room some c =
      let g : RoseBy m t.given (added u.given 0) = subst (λ (k : ℕ). RoseBy k t.given (added u.given 0)) (omega arith) (rose_more t.given u.given m 0 c.given) in
      rw (with_room room some) (record { given = g; ends = rose_more t.ends u.ends 0 1 c.ends })

  end_tallies : (a b : Option Tally) (m room : ℕ) → 0 < room → TalliesBy m 0 a b → TalliesBy m 1 a (tallied {E = E} b room (Ok 0))
  end_tallies None b m room some c = tt
  end_tallies (Some t) None m room some c = absurd c
  end_tallies (Some t) (Some u) m room some c = end_counts t u m room some c

  fault_tallies : (a b : Option Tally) (m room : ℕ) (e : E) → TalliesBy m 0 a b → TalliesBy m 0 a (tallied {E = E} b room (Err e))
  fault_tallies None b m room e c = tt
  fault_tallies (Some t) None m room e c = absurd c
  fault_tallies (Some t) (Some u) m room e c = c

  -- the count of faults after one more read that didn't fail, and after one that did
  still_calm : (a b : Option Tally) (m n before mid now : ℕ) → TalliesBy m 0 a b → IfSome a (λ t. mid ≡ before) → CountsFaults {T = ℕ} {E = E} b mid now (Ok n) → IfSome a (λ t. now ≡ before)
  still_calm None b m n before mid now c calm steady = tt
  still_calm (Some t) None m n before mid now c calm steady = absurd c
  still_calm (Some t) (Some u) m n before mid now c calm steady = steady ∙ calm

  once_failed : (a b : Option Tally) (m before mid now : ℕ) (e : E) → TalliesBy m 0 a b → IfSome a (λ t. mid ≡ before) → CountsFaults {T = ℕ} {E = E} b mid now (Err e) → IfSome a (λ t. now ≡ raised before)
  once_failed None b m before mid now e c calm steady = tt
  once_failed (Some t) None m before mid now e c calm steady = absurd c
  once_failed (Some t) (Some u) m before mid now e c calm steady = steady ∙ ap raised calm

-- nothing was read yet
none_tallies : (a : Option Tally) → TalliesBy 0 0 a a
none_tallies None = tt
none_tallies (Some t) = record { given = rose_none t.given; ends = rose_none t.ends }

none_failed : (a : Option Tally) (faults : ℕ) → IfSome a (λ t. faults ≡ faults)
none_failed None faults = tt
none_failed (Some t) faults = refl

none_taken : (a : Option (List ℕ)) → Consumes a a []
none_taken None = tt
none_taken (Some xs) = refl

pub reading_none : (src : SourceState) → Reading src src []
reading_none src = record { taken = none_taken src.left; reads = none_tallies src.tally; calm = none_failed src.tally src.faults }

-- one more read gave some bytes
pub reading_more : (E : Type 0) (src mid src' : SourceState) (xs buf : List ℕ) (n : ℕ) → Reading src mid xs → ¬ (n ≡ 0) → n ≤ length buf →
    Consumes mid.left src'.left (take n buf) → src'.tally ≡ tallied {E = E} mid.tally (length buf) (Ok n) → CountsFaults {T = ℕ} {E = E} mid.tally mid.faults src'.faults (Ok n) → Reading src src' (xs ++ take n buf)
reading_more E src mid src' xs buf n so_far some within moved counts steady =
    let size : length (xs ++ take n buf) ≡ length xs + n = length-append xs (take n buf) ∙ ap (λ (k : ℕ). length xs + k) (length-take-le n buf within) in
    record {
      taken = Consumes-more src.left mid.left src'.left xs (take n buf) so_far.taken moved;
      reads = rw size (rw counts (more_tallies E src.tally mid.tally (length xs) (length buf) n some so_far.reads));
      calm = still_calm E src.tally mid.tally (length xs) n src.faults mid.faults src'.faults so_far.reads so_far.calm steady;
    }

-- the same, after a few bytes
pub reading_some : (E : Type 0) (src mid src' : SourceState) (xs buf : List ℕ) (n : ℕ) → Reading src mid xs → ¬ (n ≡ 0) → n ≤ length buf →
    Consumes mid.left src'.left (take n buf) → src'.tally ≡ tallied {E = E} mid.tally (length buf) (Ok n) → CountsFaults {T = ℕ} {E = E} mid.tally mid.faults src'.faults (Ok n) → ReadSome src src'
reading_some E src mid src' xs buf n so_far some within moved counts steady =
    let r = reading_more E src mid src' xs buf n so_far some within moved counts steady in
    record { bytes = xs ++ take n buf; taken = r.taken; ends = 0; once = omega arith; reads = r.reads; calm = r.calm }

pub reading_too_much : (src src' : SourceState) (bytes : List ℕ) → Reading src src' bytes → 8388608 < length bytes → ReadTooMuch src src'
reading_too_much src src' bytes r long = record { bytes = bytes; taken = r.taken; long = long; reads = r.reads; calm = r.calm }

-- a read that failed, after these bytes
pub reading_failed : (E : Type 0) (src mid src' : SourceState) (bytes : List ℕ) (room : ℕ) (e : E) → Reading src mid bytes → length bytes ≤ 8388608 →
    TakesUpTo room mid.left src'.left → src.faults ≤ mid.faults → Rose mid.faults src'.faults → src'.tally ≡ tallied mid.tally room (Err e) →
    CountsFaults {T = ℕ} {E = E} mid.tally mid.faults src'.faults (Err e) → ReadUntilFault src src'
reading_failed E src mid src' bytes room e r short lost later cause counts steady = record {
  bytes = bytes;
  lost = lost.0;
  taken = Consumes-more src.left mid.left src'.left bytes lost.0 r.taken lost.2;
  short = short;
  reads = rw counts (fault_tallies E src.tally mid.tally (length bytes) room e r.reads);
  once = once_failed E src.tally mid.tally (length bytes) src.faults mid.faults src'.faults e r.reads r.calm steady;
  cause = rose_later src.faults mid.faults src'.faults later cause;
}

-- a read that gave nothing found the end, and all was taken
all_taken : (a b c : Option (List ℕ)) (xs : List ℕ) → Consumes a b xs → Consumes b c [] → IsAtEnd c → TakesAll a c xs
all_taken None b c xs before last end = tt
all_taken (Some p) None c xs before last end = absurd before
all_taken (Some p) (Some q) None xs before last end = absurd last
all_taken (Some p) (Some q) (Some r) xs before last end =
    (sym (before ∙ ap (λ (l : List ℕ). xs ++ l) (last ∙ end) ∙ append-nil xs), end)

pub reading_ended : (E : Type 0) (src mid src' : SourceState) (bytes : List ℕ) (room : ℕ) → Reading src mid bytes → length bytes ≤ 8388608 → 0 < room →
    Consumes mid.left src'.left [] → IsAtEnd src'.left → src'.tally ≡ tallied {E = E} mid.tally room (Ok 0) → CountsFaults {T = ℕ} {E = E} mid.tally mid.faults src'.faults (Ok 0) → ReadToEnd src src' bytes
reading_ended E src mid src' bytes room r short some moved end counts steady = record {
  all = all_taken src.left mid.left src'.left bytes r.taken moved end;
  short = short;
  reads = rw counts (end_tallies E src.tally mid.tally (length bytes) room some r.reads);
  calm = still_calm E src.tally mid.tally (length bytes) 0 src.faults mid.faults src'.faults r.reads r.calm steady;
}

taken_all : (a b : Option (List ℕ)) (xs : List ℕ) → TakesAll a b xs → Consumes a b xs
taken_all None b xs all = tt
taken_all (Some p) None xs all = absurd all
taken_all (Some p) (Some q) xs all = sym all.0 ∙ sym (append-nil xs) ∙ ap (λ (l : List ℕ). xs ++ l) (sym all.1)

-- all that was read is some of it
all_is_some : (src src' : SourceState) (bytes : List ℕ) → ReadToEnd src src' bytes → ReadSome src src'
all_is_some src src' bytes r = record {
  bytes = bytes;
  taken = taken_all src.left src'.left bytes r.all;
  ends = 1;
  once = omega arith;
  reads = r.reads;
  calm = r.calm;
}

-- all that was taken is some of it, too
pub taken_is_some : (reads : Bool) (src src' : SourceState) (bytes : List ℕ) → Takes reads src src' bytes → TakesSome reads src src'
taken_is_some true src src' bytes r = all_is_some src src' bytes r
taken_is_some false src src' bytes r = r.0
