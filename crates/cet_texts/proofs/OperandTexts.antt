-- The text of an operand is read as that operand.
use Rattle.std.proofs.Common.{◌≡◌, ℕ, ℤ, pos, negsuc, zero, suc, ◌<◌, ◌^◌, Bool, true, false, ◌&&◌, eqb, List, ◌∷◌, ◌++◌, codes, Option, Some, None, FitsSigned, w32, refl, sym, subst, ◌∙◌}
use Rattle.std.specs.Fmt.{decimal}
use Rattle.std.proofs.lemmas.Bool.{and_parts, eqb-true}
use Rattle.cet_isa.specs.Names.{register_name}
use Rattle.cet_encode.specs.Text as text
use Rattle.cet_isa.specs.Spelled.{scale_ok, address_ok}
use Rattle.cet_isa.specs.declared.instructions.Base.{Base}
use Rattle.cet_isa.specs.declared.instructions.Base.TheVariants as bases
use Rattle.cet_isa.specs.declared.instructions.Mem.{Mem}
use Rattle.cet_isa.specs.declared.instructions.Reg.{Reg}
use Rattle.cet_isa.specs.declared.instructions.Size.TheVariants as sizes
use Rattle.cet_syntax.specs.Tokens.{Token, Word, Sign, Minus, sign_first}
use Rattle.cet_syntax.specs.Words.{Place, Number}
use Rattle.cet_syntax.specs.Operands.{Address, empty_address, with_index, with_pointer, with_register, with_place, starred, after, word_part, part, taken_part, joined, more, memory}
use Rattle.cet_syntax.specs.Instructions.{disp_field}
use Rattle.cet_texts.proofs.PieceTokens.{tokens_of}
use Rattle.cet_texts.proofs.WordTexts.{register_word, IsScale, scale_word, hex, hex_place, hex_word_place, hex_no_register, fits_holds, pos_small, neg_small, sound}

-- ---- parts of an address

Parsed : Type 0
Parsed = Option (Address × List Token)

part_register : (a : Address) (r : Reg) (ts : List Token) → starred ts ≡ None
    → part a (Word (register_name sizes.Qword r) ∷ ts) ≡ after (with_register a r) ts
unfolding part word_part
part_register a r ts h = let w = register_word sizes.Qword r in rw (h, w.pointer, w.same) refl

part_pointer : (a : Address) (ts : List Token) → starred ts ≡ None → part a (Word (codes "rip") ∷ ts) ≡ after (with_pointer a) ts
unfolding part word_part
part_pointer a ts h = rw h refl

part_scaled : (a : Address) (r : Reg) (s : ℕ) (ts : List Token) → IsScale s
    → part a (Word (register_name sizes.Qword r) ∷ Sign 42 ∷ Word (decimal s) ∷ ts) ≡ after (with_index a r s) ts
unfolding part word_part
part_scaled a r s ts h = let w = register_word sizes.Qword r in rw (w.same, h.same) refl

part_number : (a : Address) (n : ℕ) (ts : List Token) → starred ts ≡ None → n < 2 ^ 64
    → part a (Word (hex n) ∷ ts) ≡ after (with_place a (Some (Number (Some (pos n))))) ts
unfolding part word_part
part_number a n ts h l = rw (h, hex_no_register n, hex_word_place n l) refl

part_negative : (a : Address) (n : ℕ) (ts : List Token) → suc n < 2 ^ 64
    → part a (Minus ∷ Word (hex (suc n)) ∷ ts) ≡ after (with_place a (Some (Number (Some (negsuc n))))) ts
unfolding part
part_negative a n ts l = rw (hex_place true (suc n) l) refl

more_part : (a : Address) (ts : List Token) → more a (Sign 43 ∷ ts) ≡ part a ts
unfolding more joined
more_part a ts = refl

more_number : (a : Address) (n : ℕ) (ts : List Token) → starred ts ≡ None → n < 2 ^ 64
    → more a (Sign 43 ∷ Word (hex n) ∷ ts) ≡ after (with_place a (Some (Number (Some (pos n))))) ts
more_number a n ts h l = more_part a (Word (hex n) ∷ ts) ∙ part_number a n ts h l

more_scaled : (a : Address) (r : Reg) (s : ℕ) (ts : List Token) → IsScale s
    → more a (Sign 43 ∷ Word (register_name sizes.Qword r) ∷ Sign 42 ∷ Word (decimal s) ∷ ts) ≡ after (with_index a r s) ts
more_scaled a r s ts h = more_part a (Word (register_name sizes.Qword r) ∷ Sign 42 ∷ Word (decimal s) ∷ ts) ∙ part_scaled a r s ts h

more_end : (a : Address) (ts : List Token) → more a (Sign 93 ∷ ts) ≡ Some (a, Sign 93 ∷ ts)
unfolding more
more_end a ts = refl

more_taken : (a : Address) (n : ℕ) (ts : List Token) → suc n < 2 ^ 64
    → more a (Minus ∷ Word (hex (suc n)) ∷ ts) ≡ after (with_place a (Some (Number (Some (negsuc n))))) ts
unfolding more joined taken_part
more_taken a n ts l = rw (hex_place true (suc n) l) refl

-- three parts and the bracket
memory_parts : (ts : List Token) (x y z : Address × List Token) (rest : List Token)
    → part empty_address ts ≡ Some x → more x.0 x.1 ≡ Some y → more y.0 y.1 ≡ Some z → sign_first 93 z.1 ≡ Some rest
    → memory ts ≡ Some (z.0, rest)
unfolding memory
memory_parts ts x y z rest p q r s = rw (p, q, r, s) refl

-- ---- memory

-- the displacement that stands in the text
abbrev pub shown : Bool → ℤ → Option Place
shown true d = Some (Number (Some d))
shown false (pos zero) = None
shown false (pos (suc n)) = Some (Number (Some (pos (suc n))))
shown false (negsuc n) = Some (Number (Some (negsuc n)))

abbrev pub address : Base → Option Reg → ℕ → ℤ → Address
address base index scale d = record { base = base; index = index; scale = scale; disp = shown (text.is_alone base index) d }

abbrev pub address_of : Mem → Address
address_of m = address m.base m.index m.scale m.disp

pub shown_sound : (t : Bool) (d : ℤ) → FitsSigned w32 d → disp_field (shown t d) ≡ sound d
shown_sound true d h = rw (fits_holds d h) refl
shown_sound false (pos zero) h = refl
shown_sound false (pos (suc n)) h = rw (fits_holds (pos (suc n)) h) refl
shown_sound false (negsuc n) h = rw (fits_holds (negsuc n) h) refl

-- the text of memory is a bracket and what is read as that address
abbrev pub IsRead : Base → Option Reg → ℕ → ℤ → List text.Piece → Type 0
IsRead base index scale d qs =
    (ts : List Token) × (tokens_of (text.memory (record { base = base; index = index; scale = scale; disp = d }) ++ qs) ≡ Sign 91 ∷ ts)
    × (memory ts ≡ Some (address base index scale d, tokens_of qs))

-- without an index, whose scale is 1
read_plain : (base : Base) (d : ℤ) (qs : List text.Piece) → FitsSigned w32 d → IsRead base None 1 d qs
unfolding text.memory
read_plain bases.None (pos n) qs h =
    (_, refl, memory_parts _ _ _ _ _ (part_number _ n _ refl (pos_small n h)) (more_end _ _) (more_end _ _) refl)
read_plain bases.None (negsuc n) qs h =
    (_, refl, memory_parts _ _ _ _ _ (part_negative _ n _ (neg_small n h)) (more_end _ _) (more_end _ _) refl)
read_plain bases.Rip (pos zero) qs h = (_, refl, memory_parts _ _ _ _ _ (part_pointer _ _ refl) (more_end _ _) (more_end _ _) refl)
read_plain bases.Rip (pos (suc n)) qs h =
    (_, refl, memory_parts _ _ _ _ _ (part_pointer _ _ refl) (more_number _ (suc n) _ refl (pos_small (suc n) h)) (more_end _ _) refl)
read_plain bases.Rip (negsuc n) qs h =
    (_, refl, memory_parts _ _ _ _ _ (part_pointer _ _ refl) (more_taken _ n _ (neg_small n h)) (more_end _ _) refl)
read_plain (bases.Reg b) (pos zero) qs h =
    (_, refl, memory_parts _ _ _ _ _ (part_register _ b _ refl) (more_end _ _) (more_end _ _) refl)
read_plain (bases.Reg b) (pos (suc n)) qs h =
    (_, refl, memory_parts _ _ _ _ _ (part_register _ b _ refl) (more_number _ (suc n) _ refl (pos_small (suc n) h)) (more_end _ _) refl)
read_plain (bases.Reg b) (negsuc n) qs h =
    (_, refl, memory_parts _ _ _ _ _ (part_register _ b _ refl) (more_taken _ n _ (neg_small n h)) (more_end _ _) refl)

read_index : (i : Reg) (s : ℕ) (d : ℤ) (qs : List text.Piece) → FitsSigned w32 d → IsScale s → IsRead bases.None (Some i) s d qs
unfolding text.memory
read_index i s (pos zero) qs h k = (_, refl, memory_parts _ _ _ _ _ (part_scaled _ i s _ k) (more_end _ _) (more_end _ _) refl)
read_index i s (pos (suc n)) qs h k =
    (_, refl, memory_parts _ _ _ _ _ (part_scaled _ i s _ k) (more_number _ (suc n) _ refl (pos_small (suc n) h)) (more_end _ _) refl)
read_index i s (negsuc n) qs h k =
    (_, refl, memory_parts _ _ _ _ _ (part_scaled _ i s _ k) (more_taken _ n _ (neg_small n h)) (more_end _ _) refl)

read_both : (b i : Reg) (s : ℕ) (d : ℤ) (qs : List text.Piece) → FitsSigned w32 d → IsScale s → IsRead (bases.Reg b) (Some i) s d qs
unfolding text.memory
read_both b i s (pos zero) qs h k =
    (_, refl, memory_parts _ _ _ _ _ (part_register _ b _ refl) (more_scaled _ i s _ k) (more_end _ _) refl)
read_both b i s (pos (suc n)) qs h k = (
  _,
  refl,
  memory_parts _ _ _ _ _ (part_register _ b _ refl) (more_scaled _ i s _ k)
      (more_number _ (suc n) _ refl (pos_small (suc n) h)) refl,
)
read_both b i s (negsuc n) qs h k =
    (_, refl, memory_parts _ _ _ _ _ (part_register _ b _ refl) (more_scaled _ i s _ k) (more_taken _ n _ (neg_small n h)) refl)

read_one : (base : Base) (s : ℕ) (d : ℤ) (qs : List text.Piece) → FitsSigned w32 d → eqb s 1 ≡ true → IsRead base None s d qs
read_one base s d qs h e = subst (λ k. IsRead base None k d qs) (sym (eqb-true s 1 e)) (read_plain base d qs h)

scale_part : (i : Reg) (s : ℕ) (t : Bool) → (t && scale_ok (Some i) s) ≡ true → IsScale s
scale_part i s t h = scale_word i s (and_parts t (scale_ok (Some i) s) h).1

pub memory_read : (base : Base) (index : Option Reg) (s : ℕ) (d : ℤ) (qs : List text.Piece) → FitsSigned w32 d
    → address_ok base index s ≡ true → IsRead base index s d qs
memory_read bases.None None s d qs h ok = read_one bases.None s d qs h ok
memory_read bases.Rip None s d qs h ok = read_one bases.Rip s d qs h ok
memory_read bases.Rip (Some i) s d qs h ok = absurd (let e : false ≡ true = ok in cc)
memory_read (bases.Reg b) None s d qs h ok = read_one (bases.Reg b) s d qs h ok
memory_read bases.None (Some i) s d qs h ok = read_index i s d qs h (scale_part i s _ ok)
memory_read (bases.Reg b) (Some i) s d qs h ok = read_both b i s d qs h (scale_part i s _ ok)
