-- What is so of the signals of a list.
use Rattle.std.proofs.Common.{ℕ, ◌≤◌, ◌≡◌, true, false, List, [], ◌∷◌, length, Option, Some, None, refl, sym, ap, subst, arith}
use Rattle.std.specs.Prelude.{◌&&◌, nat_le, if◌then◌else◌, option_map, option_and_then, unwrap_or, All}
use Rattle.std.proofs.lemmas.Bool.{and_parts}
use Rattle.std.proofs.lemmas.Bool.Decides.{nat_tests}
use Rattle.std.proofs.lemmas.List.Elements.{All-cons, All-nil}
use Rattle.std.proofs.lemmas.Option.{cond_some, option_and_then_some}
use Rattle.cet_base.specs.Numbers.{number_of}
use Rattle.cet_words.specs.Job.{IsSignal}
use Rattle.cet_words.specs.declared.images.Signal.{Signal}
use Rattle.cet_cli.specs.Values.{each_of, items, number_within, signal_by, signal_of, signals_of}

pub bounds : (low high : ℕ) (text : List ℕ) (n : ℕ) → number_within low high text ≡ Some n → (low ≤ n) × (n ≤ high)
bounds low high text n e =
    option_and_then_some (λ m. if nat_le low m && nat_le m high then Some m else None) (number_of text) n e (λ m is h.
    let c = cond_some (nat_le low m && nat_le m high) m n h in
    let p = and_parts (nat_le low m) (nat_le m high) c.0 in
    let same : m ≡ n = c.1 in
    let l : nat_le low m ≡ true = p.0 in
    let k : nat_le m high ≡ true = p.1 in
    (grind (arith, nat_tests), grind (arith, nat_tests)))

by_three : (t c n : Option ℕ) (s : Signal) → option_and_then (λ thread. option_and_then (λ count. option_map (λ number. record { thread = thread; count = count; number = number }) n) c) t ≡ Some s
    → (t ≡ Some s.thread) × (n ≡ Some s.number)
by_three None c n s e = cc
by_three (Some t) None n s e = cc
by_three (Some t) (Some c) None s e = cc
by_three (Some t) (Some c) (Some n) s e =
    let made : Signal = record { thread = t; count = c; number = n } in
    let same : made ≡ s = cc in
    (ap (λ (x : Signal). Some x.thread) same, ap (λ (x : Signal). Some x.number) same)

valid_by : (ps : List (List ℕ)) (s : Signal) → signal_by ps ≡ Some s → IsSignal s
valid_by [] s e = cc
valid_by (t ∷ []) s e = cc
valid_by (t ∷ c ∷ []) s e = cc
valid_by (t ∷ c ∷ n ∷ []) s e =
    let h = by_three (number_within 0 31 t) (number_within 0 100000 c) (number_within 1 31 n) s e in
    let thread = bounds 0 31 t s.thread h.0 in
    let number = bounds 1 31 n s.number h.1 in
    record { thread = omega (arith, thread.1); low = number.0; high = number.1 }
valid_by (t ∷ c ∷ n ∷ x ∷ xs) s e = cc

valid_each : (is : List (List ℕ)) (ss : List Signal) → each_of signal_of is ≡ Some ss → (length ss ≡ length is) × All IsSignal ss
valid_each [] ss e = (let same : [] ≡ ss = cc in subst (λ (l : List Signal). (length l ≡ 0) × All IsSignal l) same (refl, All-nil IsSignal))
valid_each (i ∷ is) ss e =
    option_and_then_some (λ a. option_map (λ more. a ∷ more) (each_of signal_of is)) (signal_of i) ss e (λ a read h.
    (elim (each_of signal_of is) as (λ o. each_of signal_of is ≡ o → option_map (λ more. a ∷ more) o ≡ Some ss → (length ss ≡ length (i ∷ is)) × All IsSignal ss) [
      | None ↦ λ q f. cc
      | Some more ↦ λ q f. (
          let same : a ∷ more ≡ ss = cc in
          let behind = valid_each is more q in
          subst (λ (l : List Signal). (length l ≡ length (i ∷ is)) × All IsSignal l) same (omega (arith, behind.0), All-cons IsSignal a more (valid_by (items 58 i) a read) behind.1)
          )
    ]) refl h)

-- there are at most 256, and each is one that a job may have
pub signals_valid : (text : List ℕ) (ss : List Signal) → signals_of text ≡ Some ss → (length ss ≤ 256) × All IsSignal ss
signals_valid text ss e =
    (elim (nat_le (length (items 44 text)) 256) as (λ b. nat_le (length (items 44 text)) 256 ≡ b → (if b then each_of signal_of (items 44 text) else None) ≡ Some ss → (length ss ≤ 256) × All IsSignal ss) [
      | true ↦ λ q f. (
          let v = valid_each (items 44 text) ss f in
          let l : length (items 44 text) ≤ 256 = grind (arith, nat_tests) in
          (omega (arith, v.0), v.1)
          )
      | false ↦ λ q f. cc
    ]) refl e

-- a setting of signals stays one
pub kept_valid : (text : List ℕ) (o : Option (List Signal)) (old new : List Signal) → o ≡ signals_of text → new ≡ unwrap_or o old → length old ≤ 256 → All IsSignal old → (length new ≤ 256) × All IsSignal new
kept_valid text None old new e is few each = subst (λ (l : List Signal). (length l ≤ 256) × All IsSignal l) (sym is) (few, each)
kept_valid text (Some more) old new e is few each = subst (λ (l : List Signal). (length l ≤ 256) × All IsSignal l) (sym is) (signals_valid text more (sym e))
