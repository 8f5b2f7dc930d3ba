-- What items give, one after another.
use Rattle.std.proofs.Common.{ℕ, suc, ◌+◌, ◌<◌, ◌≡◌, List, [], ◌∷◌, ◌++◌, length, take, get_or, sym, ◌∙◌, ap, arith}
use Rattle.std.proofs.lemmas.List.{append_assoc, append-nil, take_more, length-take-le}
use Rattle.std.specs.List.{flat_map, enumerate_from}

module _ {X : Type 0} (f : ℕ × X → List ℕ) where
  numbered_push : (n : ℕ) (xs : List X) (x : X) → flat_map f (enumerate_from n (xs ++ x ∷ [])) ≡ flat_map f (enumerate_from n xs) ++ f (n + length xs, x)
  numbered_push n [] x = append-nil (f (n, x)) ∙ ap (λ (k : ℕ). f (k, x)) (omega arith)
  numbered_push n (y ∷ ys) x =
      let place : n + 1 + length ys ≡ n + suc (length ys) = omega arith in
      ap (λ (l : List ℕ). f (n, y) ++ l) (numbered_push (n + 1) ys x ∙ ap (λ (k : ℕ). flat_map f (enumerate_from (n + 1) ys) ++ f (k, x)) place)
      ∙ sym (append_assoc (f (n, y)) (flat_map f (enumerate_from (n + 1) ys)) (f (n + suc (length ys), x)))

  -- one numbered item more
  numbered_more : (xs : List X) (i : ℕ) (d : X) → i < length xs → flat_map f (enumerate_from 0 (take (i + 1) xs)) ≡ flat_map f (enumerate_from 0 (take i xs)) ++ f (i, get_or xs i d)
  numbered_more xs i d below =
      let place : 0 + length (take i xs) ≡ i = omega (arith, length-take-le i xs (omega arith)) in
      ap (λ (l : List X). flat_map f (enumerate_from 0 l)) (take_more xs i d below)
      ∙ numbered_push 0 (take i xs) (get_or xs i d)
      ∙ ap (λ (k : ℕ). flat_map f (enumerate_from 0 (take i xs)) ++ f (k, get_or xs i d)) place

  -- the text of the item here is appended to those of the items before it
  pub numbered_appended : (xs : List X) (i : ℕ) (x : X) (out new start : List ℕ) → i < length xs → x ≡ get_or xs i x → new ≡ out ++ f (i, x) →
      out ≡ start ++ flat_map f (enumerate_from 0 (take i xs)) → new ≡ start ++ flat_map f (enumerate_from 0 (take (i + 1) xs))
  numbered_appended xs i x out new start below here appended so_far =
      let texts = flat_map f (enumerate_from 0 (take i xs)) in
      appended
      ∙ ap (λ (l : List ℕ). l ++ f (i, x)) so_far
      ∙ append_assoc start texts (f (i, x))
      ∙ ap (λ (y : X). start ++ (texts ++ f (i, y))) here
      ∙ ap (λ (l : List ℕ). start ++ l) (sym (numbered_more xs i x below))
