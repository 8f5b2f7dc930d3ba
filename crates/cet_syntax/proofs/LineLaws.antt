-- Labels read one by one, and the test of UTF-8.
use Rattle.std.proofs.Common.{◌≡◌, ℕ, zero, suc, ◌≤◌, ◌<◌, Bool, true, false, ◌&&◌, cond, eqb, List, [], ◌∷◌, length, Option, Some, None, refl, ap, sym, ◌∙◌, arith}
use Rattle.std.specs.Str.{IsUtf8, is_utf8}
use Rattle.std.proofs.lemmas.Str.{IsUtf8-from_is_utf8, is_utf8-from_IsUtf8}
use Rattle.cet_syntax.specs.declared.classes.Class.TheVariants.{Blank, NameByte}
use Rattle.cet_syntax.specs.Tokens.{front, behind}
use Rattle.cet_syntax.specs.Words.{is_label}
use Rattle.cet_syntax.specs.Line.{skip_blanks, after_colon, first_label, continued, labelled, labels_of, after_labels}
use Rattle.cet_syntax.proofs.TokenLaws.{behind_shorter}

-- ---- UTF-8

pub not_utf8 : (bs : List ℕ) → ¬ IsUtf8 bs → is_utf8 bs ≡ false
not_utf8 bs h = go (is_utf8 bs) refl
  where
    go : (t : Bool) → is_utf8 bs ≡ t → t ≡ false
    go true e = absurd (h (IsUtf8-from_is_utf8 bs e))
    go false e = refl

pub is_text : (bs : List ℕ) → IsUtf8 bs → is_utf8 bs ≡ true
is_text bs h = is_utf8-from_IsUtf8 bs h

pub ruleset utf8_laws = (not_utf8, is_text)

-- ---- labels

Label : Type 0
Label = Option (List ℕ × List ℕ)

pub shorter_at : (name rest : List ℕ) (x : List ℕ × List ℕ) → after_colon name rest ≡ Some x → length x.1 < length rest
shorter_at name [] x e = absurd cc
shorter_at name (b ∷ bytes) x e = go (eqb b 58 && is_label name) e
  where
    go : (t : Bool) → cond t (Some (name, bytes)) None ≡ Some x → length x.1 < length (b ∷ bytes)
    go true f = let same : bytes ≡ x.1 = cc in omega (arith, ap length same)
    go false f = absurd cc

shorter : (text : List ℕ) (x : List ℕ × List ℕ) → first_label text ≡ Some x → length x.1 < length text
unfolding first_label
shorter text x e =
    let a = behind_shorter Blank text in
    let b = behind_shorter NameByte (skip_blanks text) in
    let c = shorter_at (front NameByte (skip_blanks text)) (behind NameByte (skip_blanks text)) x e in
    omega (arith, a, b, c)

-- as many steps as bytes suffice
same : (m n : ℕ) (text : List ℕ) → length text ≤ m → length text ≤ n → labelled m text ≡ labelled n text
unfolding labelled first_label
same zero zero text a b = refl
same zero (suc n) [] a b = refl
same zero (suc n) (c ∷ text) a b = absurd (omega arith)
same (suc m) zero [] a b = refl
same (suc m) zero (c ∷ text) a b = absurd (omega arith)
same (suc m) (suc n) text a b = go (first_label text) refl (λ rest h k. same m n rest h k)
  where
    go : (o : Option (List ℕ × List ℕ)) → first_label text ≡ o → ((rest : List ℕ) → length rest ≤ m → length rest ≤ n → labelled m rest ≡ labelled n rest)
        → continued text (λ rest. labelled m rest) o ≡ continued text (λ rest. labelled n rest) o
    go None e ih = refl
    go (Some x) e ih = let s = shorter text x e in ap (λ (y : List (List ℕ) × List ℕ). let z : List (List ℕ) × List ℕ = (x.0 ∷ y.0, y.1) in z) (ih x.1 (omega (arith, s, a)) (omega (arith, s, b)))

step : (text : List ℕ) → labelled (length text) text ≡ continued text (λ rest. labelled (length text) rest) (first_label text)
unfolding labelled
step text = same (length text) (suc (length text)) text (omega arith) (omega arith)

some_step : (text name rest : List ℕ) → Some (name, rest) ≡ first_label text → labelled (length text) text ≡ (name ∷ (labelled (length rest) rest).0, (labelled (length rest) rest).1)
some_step text name rest e =
    let s = shorter text (name, rest) (sym e) in
    step text
    ∙ ap (continued text (λ rest. labelled (length text) rest)) (sym e)
    ∙ ap (λ (y : List (List ℕ) × List ℕ). let z : List (List ℕ) × List ℕ = (name ∷ y.0, y.1) in z) (same (length text) (length rest) rest (omega (arith, s)) (omega arith))

pub label_some : (text name rest : List ℕ) → Some (name, rest) ≡ first_label text → labels_of text ≡ name ∷ labels_of rest
unfolding labels_of
label_some text name rest e = ap (λ (y : List (List ℕ) × List ℕ). y.0) (some_step text name rest e)

pub after_some : (text name rest : List ℕ) → Some (name, rest) ≡ first_label text → after_labels text ≡ after_labels rest
unfolding after_labels
after_some text name rest e = ap (λ (y : List (List ℕ) × List ℕ). y.1) (some_step text name rest e)

pub label_none : (text : List ℕ) → None ≡ first_label text → labels_of text ≡ []
unfolding labels_of
label_none text e = ap (λ (y : List (List ℕ) × List ℕ). y.0) (step text ∙ ap (continued text (λ rest. labelled (length text) rest)) (sym e))

pub after_none : (text : List ℕ) → None ≡ first_label text → after_labels text ≡ text
unfolding after_labels
after_none text e = ap (λ (y : List (List ℕ) × List ℕ). y.1) (step text ∙ ap (continued text (λ rest. labelled (length text) rest)) (sym e))

pub label_nil : labels_of [] ≡ []
unfolding labels_of labelled
label_nil = refl

pub ruleset label_laws = (label_some, after_some, label_none, after_none)
