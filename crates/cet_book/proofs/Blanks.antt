-- A list of blanks, turned round, is the same. Source: own.
use Rattle.std.proofs.Common.{◌≡◌, ℕ, zero, suc, List, [], ◌∷◌, ◌++◌, replicate, reverse, refl, ◌∙◌, ap}
use Rattle.std.proofs.lemmas.Grind.{reverse_onto}
use Rattle.cet_book.specs.declared.entries.Entry.{Entry}
use Rattle.cet_book.specs.declared.entries.Entry.TheVariants.{Blank}

one_more : (n : ℕ) → replicate n Blank ++ Blank ∷ [] ≡ Blank ∷ replicate n Blank
one_more zero = refl
one_more (suc n) = ap (λ (l : List Entry). Blank ∷ l) (one_more n)

pub reverse_blanks : (n : ℕ) → reverse (replicate n Blank) ≡ replicate n Blank
reverse_blanks zero = refl
reverse_blanks (suc n) = reverse_onto (replicate n Blank) Blank [] ∙ ap (λ (l : List Entry). l ++ Blank ∷ []) (reverse_blanks n) ∙ one_more n
