-- Laws of steps that may miss, and of lists of bytes. Source: own.
use Rattle.std.proofs.Common.{◌≡◌, ℕ, List, [], ◌∷◌, ◌++◌, Result, Ok, Err, refl, ap}
use Rattle.cet_isa.specs.Reader.{Miss, ◌>>=◌, IsBytes}

-- a value comes from a value of the first step
pub bind_ok : {A B : Type 0} (r : Result A Miss) (f : A → Result B Miss) (y : B) → (r >>= f) ≡ Ok y → (x : A) × (r ≡ Ok x) × (f x ≡ Ok y)
bind_ok (Ok x) f y e = (x, refl, e)
bind_ok (Err m) f y e = absurd cc

-- a value with what is left
abbrev pub pair : {Y : Type 0} → Y → List ℕ → Result (Y × List ℕ) Miss
pair y rest = Ok (y, rest)

pub pair_same : {Y : Type 0} (a b : Y) (s t : List ℕ) → pair a s ≡ pair b t → (a ≡ b) × (s ≡ t)
pair_same {Y} a b s t e =
    let p : Y × List ℕ = (a, s) in
    let q : Y × List ℕ = (b, t) in
    let same : p ≡ q = cc in
    (ap (λ (x : Y × List ℕ). x.0) same, ap (λ (x : Y × List ℕ). x.1) same)

pub IsBytes-append : (xs ys : List ℕ) → IsBytes xs → IsBytes ys → IsBytes (xs ++ ys)
IsBytes-append [] ys p q = q
IsBytes-append (x ∷ xs) ys p q = (p.0, IsBytes-append xs ys p.1 q)

pub IsBytes-left : (xs ys : List ℕ) → IsBytes (xs ++ ys) → IsBytes xs
IsBytes-left [] ys p = tt
IsBytes-left (x ∷ xs) ys p = (p.0, IsBytes-left xs ys p.1)

pub IsBytes-right : (xs ys : List ℕ) → IsBytes (xs ++ ys) → IsBytes ys
IsBytes-right [] ys p = p
IsBytes-right (x ∷ xs) ys p = IsBytes-right xs ys p.1
