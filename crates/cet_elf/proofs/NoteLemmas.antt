-- Lists of properties.
use Rattle.std.proofs.Common.{◌≡◌, ℕ, zero, suc, ◌+◌, ◌<◌, Bool, true, false, ◌&&◌, eqb, List, length, drop, Option, None, unwrap_or, refl, ap, sym, ◌∙◌, arith}
use Rattle.std.proofs.lemmas.Bool.Decides.{nat_tests}
use Rattle.std.proofs.lemmas.List.{length-drop}
use Rattle.std.specs.Int.{w32}
use Rattle.cet_base.specs.Fields.{field_at}
use Rattle.cet_elf.specs.Headers.{word}
use Rattle.cet_elf.specs.Notes.{padded, is_feature, feature_among}

pub word_of : (d : List ℕ) (at : ℕ) (o : Option ℕ) → field_at w32 d at ≡ o → word d at ≡ unwrap_or o 0
unfolding word
word_of d at o e = ap (λ p. unwrap_or p 0) e

no_field : (d : List ℕ) (at : ℕ) → length d < at + 4 → field_at w32 d at ≡ None
no_field d at short = grind (arith, nat_tests)

and-false : (b : Bool) → (b && false) ≡ false
and-false true = refl
and-false false = refl

no_feature : (d : List ℕ) → length d < 8 → is_feature d ≡ false
no_feature d short = rw (word_of d 4 None (no_field d 4 short)) (and-false (eqb (word d 0) 0xc0000002))

-- a list without the 8 bytes of a property has none
pub none_in_short : (n : ℕ) (d : List ℕ) → length d < 8 → feature_among n d ≡ None
unfolding feature_among
none_in_short zero d short = refl
none_in_short (suc n) d short =
    let rest = drop (8 + padded (word d 4)) d in
    rw (no_feature d short) (none_in_short n rest (omega (arith, length-drop (8 + padded (word d 4)) d)))

pub found_here : (n : ℕ) (d : List ℕ) → 0 < n → is_feature d ≡ true → feature_among n d ≡ field_at w32 d 8
unfolding feature_among
found_here zero d some e = absurd (omega arith)
found_here (suc n) d some e = rw e refl

pub found_later : (n m : ℕ) (d : List ℕ) → m + 1 ≡ n → is_feature d ≡ false → feature_among n d ≡ feature_among m (drop (8 + padded (word d 4)) d)
unfolding feature_among
found_later zero m d more e = absurd (omega arith)
found_later (suc n) m d more e = let same : n ≡ m = omega arith in rw (e, same) refl

-- no property behind the first one
pub none_behind : (n : ℕ) (d : List ℕ) → 0 < n → is_feature d ≡ false → length d < 8 + padded (word d 4) → feature_among n d ≡ None
none_behind zero d some e short = absurd (omega arith)
none_behind (suc n) d some e short =
    let behind = drop (8 + padded (word d 4)) d in
    found_later (suc n) n d (omega arith) e ∙ none_in_short n behind (omega (arith, length-drop (8 + padded (word d 4)) d))

pub none_left : (d : List ℕ) → feature_among 0 d ≡ None
unfolding feature_among
none_left d = refl

pub counted_out : (n : ℕ) (d : List ℕ) → n ≡ 0 → None ≡ feature_among n d
counted_out n d none = sym (ap (λ m. feature_among m d) none ∙ none_left d)
