-- The words of registers, numbers and scales are read as what they name.
use Rattle.std.proofs.Common.{◌≡◌, ℕ, ℤ, pos, negsuc, zero, suc, ◌<◌, ◌/◌, ◌%◌, ◌^◌, Bool, true, false, ◌||◌, cond, eqb, List, []}
use Rattle.std.proofs.Common.{◌∷◌, ◌++◌, codes, Some, None, FitsSigned, w32, refl, sym, subst, arith, lt-ltb}
use Rattle.std.specs.Fmt.{decimal, digits, digits_onto, digit_glyph}
use Rattle.std.specs.List.{list_all}
use Rattle.std.proofs.lemmas.Bool.{agree_below_at, eqb-true}
use Rattle.cet_base.proofs.NumberLaws.{number_of-hex}
use Rattle.cet_base.specs.Numbers.{number_of}
use Rattle.cet_isa.specs.Names.{register_name, register_named}
use Rattle.cet_isa.specs.Spelled.{scale_ok}
use Rattle.cet_isa.specs.declared.instructions.Reg.{Reg}
use Rattle.cet_isa.specs.declared.instructions.Reg.TheVariants as regs
use Rattle.cet_isa.specs.declared.instructions.Size.{Size}
use Rattle.cet_isa.specs.declared.instructions.Size.TheVariants as sizes
use Rattle.cet_syntax.specs.Tokens.{is_name_byte}
use Rattle.cet_syntax.specs.Words.{begins_decimal, is_plain, register_of, is_counter, is_pointer, Number, signed, number_place, word_place, dword_holds}
use Rattle.cet_syntax.specs.Operands.{scale_of, Register, Value, word_parsed}
use Rattle.cet_syntax.specs.Instructions.{Field, value_field}
use Rattle.cet_texts.proofs.PieceTokens.{is_word, names_pass}

-- ---- registers

-- a word that is the name of this register alone
pub record IsRegister (w : List ℕ) (size : Size) (r : Reg) : Type 0 where
  pub word : is_word w ≡ true
  pub same : register_of w ≡ Some (size, r)
  pub counter : is_counter w ≡ false
  pub pointer : is_pointer w ≡ false

pub register_word : (size : Size) (r : Reg) → IsRegister (register_name size r) size r
unfolding register_name register_named register_of
register_word sizes.Qword regs.Rax = record { word = refl; same = refl; counter = refl; pointer = refl }
register_word sizes.Qword regs.Rcx = record { word = refl; same = refl; counter = refl; pointer = refl }
register_word sizes.Qword regs.Rdx = record { word = refl; same = refl; counter = refl; pointer = refl }
register_word sizes.Qword regs.Rbx = record { word = refl; same = refl; counter = refl; pointer = refl }
register_word sizes.Qword regs.Rsp = record { word = refl; same = refl; counter = refl; pointer = refl }
register_word sizes.Qword regs.Rbp = record { word = refl; same = refl; counter = refl; pointer = refl }
register_word sizes.Qword regs.Rsi = record { word = refl; same = refl; counter = refl; pointer = refl }
register_word sizes.Qword regs.Rdi = record { word = refl; same = refl; counter = refl; pointer = refl }
register_word sizes.Qword regs.R8 = record { word = refl; same = refl; counter = refl; pointer = refl }
register_word sizes.Qword regs.R9 = record { word = refl; same = refl; counter = refl; pointer = refl }
register_word sizes.Qword regs.R10 = record { word = refl; same = refl; counter = refl; pointer = refl }
register_word sizes.Qword regs.R11 = record { word = refl; same = refl; counter = refl; pointer = refl }
register_word sizes.Qword regs.R12 = record { word = refl; same = refl; counter = refl; pointer = refl }
register_word sizes.Qword regs.R13 = record { word = refl; same = refl; counter = refl; pointer = refl }
register_word sizes.Qword regs.R14 = record { word = refl; same = refl; counter = refl; pointer = refl }
register_word sizes.Qword regs.R15 = record { word = refl; same = refl; counter = refl; pointer = refl }
register_word sizes.Dword regs.Rax = record { word = refl; same = refl; counter = refl; pointer = refl }
register_word sizes.Dword regs.Rcx = record { word = refl; same = refl; counter = refl; pointer = refl }
register_word sizes.Dword regs.Rdx = record { word = refl; same = refl; counter = refl; pointer = refl }
register_word sizes.Dword regs.Rbx = record { word = refl; same = refl; counter = refl; pointer = refl }
register_word sizes.Dword regs.Rsp = record { word = refl; same = refl; counter = refl; pointer = refl }
register_word sizes.Dword regs.Rbp = record { word = refl; same = refl; counter = refl; pointer = refl }
register_word sizes.Dword regs.Rsi = record { word = refl; same = refl; counter = refl; pointer = refl }
register_word sizes.Dword regs.Rdi = record { word = refl; same = refl; counter = refl; pointer = refl }
register_word sizes.Dword regs.R8 = record { word = refl; same = refl; counter = refl; pointer = refl }
register_word sizes.Dword regs.R9 = record { word = refl; same = refl; counter = refl; pointer = refl }
register_word sizes.Dword regs.R10 = record { word = refl; same = refl; counter = refl; pointer = refl }
register_word sizes.Dword regs.R11 = record { word = refl; same = refl; counter = refl; pointer = refl }
register_word sizes.Dword regs.R12 = record { word = refl; same = refl; counter = refl; pointer = refl }
register_word sizes.Dword regs.R13 = record { word = refl; same = refl; counter = refl; pointer = refl }
register_word sizes.Dword regs.R14 = record { word = refl; same = refl; counter = refl; pointer = refl }
register_word sizes.Dword regs.R15 = record { word = refl; same = refl; counter = refl; pointer = refl }

pub register_parsed : (size : Size) (r : Reg) → word_parsed (register_name size r) ≡ Some (Register size r)
unfolding word_parsed
register_parsed size r = let w = register_word size r in rw (w.counter, w.same) refl

-- ---- numbers

-- the word of a number
abbrev pub hex : ℕ → List ℕ
hex n = codes "0x" ++ digits 16 false n

glyph : (d : ℕ) → d < 16 → is_name_byte (digit_glyph false d) ≡ true
glyph d h = agree_below_at (λ d. is_name_byte (digit_glyph false d)) (λ _. true) 16 d refl h

onto_names : (k n : ℕ) (acc : List ℕ) → list_all is_name_byte acc ≡ true
    → list_all is_name_byte (digits_onto k 16 false n acc) ≡ true
onto_names zero n acc h = h
onto_names (suc k) n acc h = go (eqb (n / 16) 0) (onto_names k (n / 16) (digit_glyph false (n % 16) ∷ acc))
  where
    more : list_all is_name_byte (digit_glyph false (n % 16) ∷ acc) ≡ true
    more = rw (glyph (n % 16) (omega arith)) h

    go : (t : Bool)
        → (list_all is_name_byte (digit_glyph false (n % 16) ∷ acc) ≡ true
        → list_all is_name_byte (digits_onto k 16 false (n / 16) (digit_glyph false (n % 16) ∷ acc)) ≡ true)
        → list_all is_name_byte
        (cond t (digit_glyph false (n % 16) ∷ acc) (digits_onto k 16 false (n / 16) (digit_glyph false (n % 16) ∷ acc)))
        ≡ true
    go true ih = more
    go false ih = ih more

pub hex_word : (n : ℕ) → is_word (hex n) ≡ true
unfolding digits
hex_word n = onto_names 64 n [] refl

hex_plain : (n : ℕ) → list_all is_plain (hex n) ≡ true
unfolding digits
hex_plain n = names_pass is_plain (hex n) refl (hex_word n)

-- a word of plain bytes that begins by a digit
placed : (minus : Bool) (w : List ℕ) (n : ℕ) → begins_decimal w ≡ true → list_all is_plain w ≡ true → number_of w ≡ Some n
    → number_place minus w ≡ Some (Number (signed minus (Some n)))
unfolding number_place
placed minus w n first plain value = rw (first, plain, value) refl

pub hex_place : (minus : Bool) (n : ℕ) → n < 2 ^ 64 → number_place minus (hex n) ≡ Some (Number (signed minus (Some n)))
hex_place minus n h = placed minus (hex n) n refl (hex_plain n) (number_of-hex n h)

pub hex_word_place : (n : ℕ) → n < 2 ^ 64 → word_place (hex n) ≡ Some (Number (Some (pos n)))
unfolding word_place
hex_word_place n h = hex_place false n h

pub hex_no_register : (n : ℕ) → register_of (hex n) ≡ None
unfolding register_of register_named register_name
hex_no_register n = refl

pub hex_parsed : (n : ℕ) → n < 2 ^ 64 → word_parsed (hex n) ≡ Some (Value (Number (Some (pos n))))
unfolding word_parsed
hex_parsed n h = rw (hex_no_register n, hex_word_place n h) refl

-- ---- scales

scales : (P : ℕ → Type 0) (s : ℕ) → P 1 → P 2 → P 4 → P 8 → ((eqb s 1) || ((eqb s 2) || ((eqb s 4) || (eqb s 8)))) ≡ true → P s
scales P s a b c d h = go (eqb s 1) (eqb s 2) (eqb s 4) (eqb s 8) refl refl refl refl h
  where
    go : (k l m n : Bool) → eqb s 1 ≡ k → eqb s 2 ≡ l → eqb s 4 ≡ m → eqb s 8 ≡ n → (k || (l || (m || n))) ≡ true → P s
    go true l m n e f g i h = subst P (sym (eqb-true s 1 e)) a
    go false true m n e f g i h = subst P (sym (eqb-true s 2 f)) b
    go false false true n e f g i h = subst P (sym (eqb-true s 4 g)) c
    go false false false true e f g i h = subst P (sym (eqb-true s 8 i)) d
    go false false false false e f g i h = absurd cc

-- a word that is the number of this scale
pub record IsScale (s : ℕ) : Type 0 where
  pub word : is_word (decimal s) ≡ true
  pub same : scale_of (decimal s) ≡ Some s

pub scale_word : (i : Reg) (s : ℕ) → scale_ok (Some i) s ≡ true → IsScale s
unfolding digits
scale_word i s h = scales IsScale s one two four eight h
  where
    one : IsScale 1
    one = record { word = refl; same = refl }

    two : IsScale 2
    two = record { word = refl; same = refl }

    four : IsScale 4
    four = record { word = refl; same = refl }

    eight : IsScale 8
    eight = record { word = refl; same = refl }

-- ---- fields

pub fits_holds : (z : ℤ) → FitsSigned w32 z → dword_holds z ≡ true
fits_holds (pos n) h = let l : n < 2 ^ 31 = h.sfits in lt-ltb n (2 ^ 31) l
fits_holds (negsuc n) h = let l : n < 2 ^ 31 = h.sfits in lt-ltb n (2 ^ 31) l

pub pos_small : (n : ℕ) → FitsSigned w32 (pos n) → n < 2 ^ 64
pos_small n h = let l : n < 2 ^ 31 = h.sfits in omega arith

pub neg_small : (n : ℕ) → FitsSigned w32 (negsuc n) → suc n < 2 ^ 64
neg_small n h = let l : n < 2 ^ 31 = h.sfits in omega arith

-- a field whose number fits
abbrev pub sound : ℤ → Field
sound z = record { value = z; fits = true; label = None }

pub value_sound : (size : Size) (z : ℤ) → FitsSigned w32 z → value_field size (Some z) ≡ sound z
value_sound sizes.Qword z h = rw (fits_holds z h) refl
value_sound sizes.Dword z h = rw (fits_holds z h) refl
