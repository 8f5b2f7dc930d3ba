-- Known bytes over several calls.
use Rattle.std.proofs.Common.{ℕ, zero, suc, ◌+◌, ◌-◌, ◌^◌, ◌≤◌, ◌≡◌, min, inl, inr, List, [], ◌∷◌, ◌++◌, length, take, drop, Option, Some, None, sym, ◌∙◌, ap, arith}
use Rattle.std.proofs.Math.Nat.{min-eq_left, min-eq_right, min-le_left, min-le_right}
use Rattle.std.proofs.lemmas.Bool.{cases_lt}
use Rattle.std.proofs.lemmas.List.{append-nil, append_assoc, length-drop, take_all}
use Rattle.std.specs.Io.KnownBytes.{Consumes, Appends}
use Rattle.cet_io.specs.Stream.{AppendsSome, Rose, RoseBy, added}

pub Consumes-more : (a b c : Option (List ℕ)) (xs ys : List ℕ) → Consumes a b xs → Consumes b c ys → Consumes a c (xs ++ ys)
Consumes-more None b c xs ys first second = tt
Consumes-more (Some p) None c xs ys first second = absurd first
Consumes-more (Some p) (Some q) None xs ys first second = absurd second
Consumes-more (Some p) (Some q) (Some r) xs ys first second =
    first ∙ ap (λ (l : List ℕ). xs ++ l) second ∙ sym (append_assoc xs ys r)

pub appends_none : (a : Option (List ℕ)) → Appends a a []
appends_none None = tt
appends_none (Some xs) = sym (append-nil xs)

-- so many and then so many more, below a last value
min_more : (last count m n : ℕ) → min (min (count + m) last + n) last ≡ min (count + (m + n)) last
min_more last count m n = elim (cases_lt (count + m) last) [
  | inl l ↦ (
      let e : min (count + m) last ≡ count + m = min-eq_left (omega arith) in
      let a : count + m + n ≡ count + (m + n) = omega arith in
      ap (λ (x : ℕ). min (x + n) last) e ∙ ap (λ (x : ℕ). min x last) a
      )
  | inr g ↦ (
      let e : min (count + m) last ≡ last = min-eq_right (omega arith) in
      let a : min (last + n) last ≡ last = min-eq_right (omega arith) in
      let b : min (count + (m + n)) last ≡ last = min-eq_right (omega arith) in
      ap (λ (x : ℕ). min (x + n) last) e ∙ a ∙ sym b
      )
]

min_up : (last a b : ℕ) → a ≤ b → min a last ≤ min b last
min_up last a b l = elim (cases_lt b last) [
  | inl m ↦ (
      let e : min b last ≡ b = min-eq_left (omega arith) in
      let f : min a last ≡ a = min-eq_left (omega arith) in
      omega arith
      )
  | inr g ↦ (
      let e : min b last ≡ last = min-eq_right (omega arith) in
      let f = min-le_right a last in
      omega arith
      )
]

-- a count after m, and then n more
last_more : (last before now m n : ℕ) → min (before + m) last ≤ now → min (before + (m + n)) last ≤ min (now + n) last
last_more last before now m n low =
    let e = min_more last before m n in
    let f = min_up last (min (before + m) last + n) (now + n) (omega arith) in
    omega arith

pub rose_none : (count : ℕ) → RoseBy 0 count count
rose_none count = (let l = min-le_left (count + 0) (2 ^ 64 - 1) in omega arith, omega arith)

pub rose_more : (before now m n : ℕ) → RoseBy m before now → RoseBy (m + n) before (added now n)
rose_more before now m n rose = (
  last_more (2 ^ 64 - 1) before now m n rose.0,
  (let l = min-le_left (now + n) (2 ^ 64 - 1) in let h = rose.1 in omega arith),
)

-- a rise after the count was already there
pub rose_later : (before mid now : ℕ) → before ≤ mid → Rose mid now → Rose before now
rose_later before mid now l rose = (let u = min_up (2 ^ 64 - 1) (before + 1) (mid + 1) (omega arith) in omega (arith, rose))

pub take_parts : (m n : ℕ) (xs : List ℕ) → take m xs ++ take n (drop m xs) ≡ take (m + n) xs
take_parts zero n xs = grind arith
take_parts (suc m) zero [] = sym (take_all (suc m + 0) [] (omega arith))
take_parts (suc m) (suc n) [] = sym (take_all (suc m + suc n) [] (omega arith))
take_parts (suc m) n (x ∷ xs) =
    let e : suc m + n ≡ suc (m + n) = omega arith in ap (λ (l : List ℕ). x ∷ l) (take_parts m n xs) ∙ ap (λ (k : ℕ). take k (x ∷ xs)) (sym e)

pub Appends-more : (a b c : Option (List ℕ)) (m n : ℕ) (xs : List ℕ) → Appends a b (take m xs) → Appends b c (take n (drop m xs)) → Appends a c (take (m + n) xs)
Appends-more None b c m n xs first second = tt
Appends-more (Some p) None c m n xs first second = absurd first
Appends-more (Some p) (Some q) None m n xs first second = absurd second
Appends-more (Some p) (Some q) (Some r) m n xs first second =
    second ∙ ap (λ (l : List ℕ). l ++ take n (drop m xs)) first ∙ append_assoc p (take m xs) (take n (drop m xs)) ∙ ap (λ (l : List ℕ). p ++ l) (take_parts m n xs)

-- a call that failed appended some bytes more
pub AppendsSome-more : (a b c : Option (List ℕ)) (m : ℕ) (xs : List ℕ) → m ≤ length xs → Appends a b (take m xs) → AppendsSome b c (drop m xs) → AppendsSome a c xs
AppendsSome-more a b c m xs within first more =
    let fits : more.0 ≤ length xs - m = rw length-drop at more.1 in
    (m + more.0, omega arith, Appends-more a b c m more.0 xs first more.2)
