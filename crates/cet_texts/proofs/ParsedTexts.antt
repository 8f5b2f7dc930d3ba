-- Operands of an instruction: their pieces are plain, and are read as those operands.
use Rattle.std.proofs.Common.{◌≡◌, ℕ, ℤ, pos, negsuc, zero, suc, ◌<◌, ◌^◌, Bool, true, false, List, [], ◌∷◌, ◌++◌, codes, Option}
use Rattle.std.proofs.Common.{Some, None, FitsSigned, w32, append-nil, append_assoc, refl, sym, subst, ap, ◌∙◌}
use Rattle.std.proofs.lemmas.Bool.{and_parts}
use Rattle.cet_isa.specs.Names.{register_name}
use Rattle.cet_encode.specs.Text as text
use Rattle.cet_isa.specs.Spelled.{scale_ok, address_ok, mem_ok, OperandFits}
use Rattle.cet_isa.specs.declared.instructions.Base.{Base}
use Rattle.cet_isa.specs.declared.instructions.Base.TheVariants as bases
use Rattle.cet_isa.specs.declared.instructions.Mem.{Mem}
use Rattle.cet_isa.specs.declared.instructions.Operand.{Operand}
use Rattle.cet_isa.specs.declared.instructions.Operand.TheVariants as operands
use Rattle.cet_isa.specs.declared.instructions.Reg.{Reg}
use Rattle.cet_isa.specs.declared.instructions.Size.{Size}
use Rattle.cet_isa.specs.declared.instructions.Size.TheVariants as sizes
use Rattle.cet_syntax.specs.Tokens.{Token, Word, Sign, Minus, ◌>>=◌}
use Rattle.cet_syntax.specs.Words.{Number}
use Rattle.cet_syntax.specs.Operands as asm
use Rattle.cet_syntax.specs.Operands.{ParsedOperand, Register, Counter, Value, Memory, Dword, Byte, Relative, Operands, One, Two, followed, word_parsed, second_parsed, minus_parsed, sized_parsed, worded, parsed, after_first, second}
use Rattle.cet_texts.proofs.PieceTokens.{tokens_of, begins, is_word, IsPlain, plain_append}
use Rattle.cet_texts.proofs.WordTexts.{register_word, register_parsed, IsScale, scale_word, hex, hex_word, hex_place, hex_parsed, pos_small, neg_small}
use Rattle.cet_texts.proofs.OperandTexts.{address_of, memory_read}

-- ---- pieces

reg_is_word : (size : Size) (r : Reg) → is_word (register_name size r) ≡ true
reg_is_word size r = (register_word size r).word

signed_plain : (z : ℤ) → IsPlain (text.signed z)
signed_plain (pos n) = (hex_word n, refl, tt)
signed_plain (negsuc n) = (refl, (hex_word (suc n), refl, tt))

tail_plain : (d : ℤ) → IsPlain (text.displacement false d ++ text.Sign 93 ∷ [])
tail_plain (pos zero) = (refl, tt)
tail_plain (pos (suc n)) = (refl, (hex_word (suc n), refl, (refl, tt)))
tail_plain (negsuc n) = (refl, (hex_word (suc n), refl, (refl, tt)))

tail_sign : (d : ℤ) → begins (text.displacement false d ++ text.Sign 93 ∷ []) ≡ false
tail_sign (pos zero) = refl
tail_sign (pos (suc n)) = refl
tail_sign (negsuc n) = refl

joined_plain : (ps : List text.Piece) (d : ℤ) → IsPlain ps
    → IsPlain (text.Sign 91 ∷ ps ++ text.displacement false d ++ text.Sign 93 ∷ [])
joined_plain ps d h = (
  refl,
  subst IsPlain (sym (append_assoc ps (text.displacement false d) (text.Sign 93 ∷ [])))
      (plain_append ps (text.displacement false d ++ text.Sign 93 ∷ []) h (tail_plain d) (tail_sign d)),
)

scaled_plain : (i : Reg) (s : ℕ) → IsScale s → IsPlain (text.scaled i s)
scaled_plain i s k = (reg_is_word sizes.Qword i, refl, (refl, (k.word, refl, tt)))

memory_plain : (base : Base) (index : Option Reg) (s : ℕ) (d : ℤ) → address_ok base index s ≡ true
    → IsPlain (text.memory (record { base = base; index = index; scale = s; disp = d }))
unfolding text.memory
memory_plain bases.None None s d ok = (refl, plain_append (text.signed d) (text.Sign 93 ∷ []) (signed_plain d) (refl, tt) refl)
memory_plain bases.Rip None s d ok = joined_plain (text.Word (codes "rip") ∷ []) d (refl, refl, tt)
memory_plain bases.Rip (Some i) s d ok = absurd (let e : false ≡ true = ok in cc)
memory_plain (bases.Reg b) None s d ok = joined_plain (text.register sizes.Qword b ∷ []) d (reg_is_word sizes.Qword b, refl, tt)
memory_plain bases.None (Some i) s d ok =
    joined_plain (text.scaled i s) d (scaled_plain i s (scale_word i s (and_parts _ (scale_ok (Some i) s) ok).1))
memory_plain (bases.Reg b) (Some i) s d ok =
    joined_plain (text.register sizes.Qword b ∷ text.Sign 43 ∷ text.scaled i s) d
    (reg_is_word sizes.Qword b, refl, (refl, scaled_plain i s (scale_word i s (and_parts _ (scale_ok (Some i) s) ok).1)))

-- memory with an address that there is
abbrev pub value_ok : Operand → Bool
value_ok (operands.Mem m) = mem_ok m
value_ok o = true

pub mem_plain : (m : Mem) → mem_ok m ≡ true → IsPlain (text.memory m)
mem_plain m ok = memory_plain m.base m.index m.scale m.disp ok

pub operand_plain : (size : Size) (o : Operand) → value_ok o ≡ true → IsPlain (text.operand size o)
operand_plain size (operands.Reg r) ok = (reg_is_word size r, refl, tt)
operand_plain size (operands.Mem m) ok = mem_plain m ok
operand_plain size (operands.Imm z) ok = signed_plain z

pub pair_plain : (ps qs : List text.Piece) → IsPlain ps → IsPlain qs → IsPlain (text.pair ps qs)
pair_plain ps qs h k = plain_append ps (text.Sign 44 ∷ text.Space ∷ qs) h (refl, k) refl

pub size_plain : (size : Size) (dst src : Operand) (ps : List text.Piece) → IsPlain ps → IsPlain (text.size_word size dst src ++ ps)
size_plain sizes.Dword (operands.Mem m) (operands.Imm n) ps h = (refl, refl, h)
size_plain sizes.Dword (operands.Mem m) (operands.Reg r) ps h = h
size_plain sizes.Dword (operands.Mem m) (operands.Mem n) ps h = h
size_plain sizes.Dword (operands.Reg r) src ps h = h
size_plain sizes.Dword (operands.Imm n) src ps h = h
size_plain sizes.Qword dst src ps h = h

pub relative_plain : (z : ℤ) → IsPlain (text.named (codes "rel") (text.signed z))
relative_plain z = (refl, refl, signed_plain z)

-- ---- one operand

abbrev pub parsed_of : Size → Operand → ParsedOperand
parsed_of size (operands.Reg r) = Register size r
parsed_of size (operands.Mem m) = Memory (address_of m)
parsed_of size (operands.Imm z) = Value (Number (Some z))

-- what follows a word leaves it by itself
abbrev pub IsStop : List Token → Type 0
IsStop ts = (w : List ℕ) → worded w ts ≡ followed (word_parsed w) ts

pub stop_end : IsStop []
unfolding worded
stop_end w = refl

pub stop_comma : (ts : List Token) → IsStop (Sign 44 ∷ ts)
unfolding worded
stop_comma ts w = refl

register_stop : (size : Size) (r : Reg) (ts : List Token) → IsStop ts
    → parsed (Word (register_name size r) ∷ ts) ≡ Some (Register size r, ts)
unfolding parsed
register_stop size r ts stop = stop (register_name size r) ∙ ap (λ (o : Option ParsedOperand). followed o ts) (register_parsed size r)

number_stop : (n : ℕ) (ts : List Token) → IsStop ts → n < 2 ^ 64
    → parsed (Word (hex n) ∷ ts) ≡ Some (Value (Number (Some (pos n))), ts)
unfolding parsed
number_stop n ts stop l = stop (hex n) ∙ ap (λ (o : Option ParsedOperand). followed o ts) (hex_parsed n l)

negative_stop : (n : ℕ) (ts : List Token) → suc n < 2 ^ 64
    → parsed (Minus ∷ Word (hex (suc n)) ∷ ts) ≡ Some (Value (Number (Some (negsuc n))), ts)
unfolding parsed
negative_stop n ts l = rw (hex_place true (suc n) l) refl

counter_stop : (ts : List Token) → IsStop ts → parsed (Word (codes "cl") ∷ ts) ≡ Some (Counter, ts)
unfolding parsed word_parsed
counter_stop ts stop = stop (codes "cl")

bracketed : (m : Mem) (qs : List text.Piece) → FitsSigned w32 m.disp → mem_ok m ≡ true
    → parsed (tokens_of (text.memory m ++ qs)) ≡ Some (Memory (address_of m), tokens_of qs)
unfolding parsed
bracketed m qs h ok = let r = memory_read m.base m.index m.scale m.disp qs h ok in rw (r.1, r.2) refl

dword_bracketed : (m : Mem) (qs : List text.Piece) → FitsSigned w32 m.disp → mem_ok m ≡ true
    → parsed (Word (codes "dword") ∷ tokens_of (text.memory m ++ qs)) ≡ Some (Dword (address_of m), tokens_of qs)
unfolding parsed worded sized_parsed
dword_bracketed m qs h ok = let r = memory_read m.base m.index m.scale m.disp qs h ok in rw (r.1, r.2) refl

byte_bracketed : (m : Mem) (qs : List text.Piece) → FitsSigned w32 m.disp → mem_ok m ≡ true
    → parsed (Word (codes "byte") ∷ tokens_of (text.memory m ++ qs)) ≡ Some (Byte (address_of m), tokens_of qs)
unfolding parsed worded sized_parsed
byte_bracketed m qs h ok = let r = memory_read m.base m.index m.scale m.disp qs h ok in rw (r.1, r.2) refl

-- an operand before pieces that leave a word by itself
operand_before : (size : Size) (o : Operand) (qs : List text.Piece) → OperandFits o → value_ok o ≡ true → IsStop (tokens_of qs)
    → parsed (tokens_of (text.operand size o ++ qs)) ≡ Some (parsed_of size o, tokens_of qs)
operand_before size (operands.Reg r) qs h ok stop = register_stop size r (tokens_of qs) stop
operand_before size (operands.Mem m) qs h ok stop = bracketed m qs h ok
operand_before size (operands.Imm (pos n)) qs h ok stop = number_stop n (tokens_of qs) stop (pos_small n h)
operand_before size (operands.Imm (negsuc n)) qs h ok stop = negative_stop n (tokens_of qs) (neg_small n h)

pub operand_last : (size : Size) (o : Operand) → OperandFits o → value_ok o ≡ true
    → parsed (tokens_of (text.operand size o)) ≡ Some (parsed_of size o, [])
operand_last size o h ok =
    ap (λ (ps : List text.Piece). parsed (tokens_of ps)) (sym (append-nil (text.operand size o))) ∙ operand_before size o [] h ok stop_end

pub byte_last : (m : Mem) → FitsSigned w32 m.disp → mem_ok m ≡ true
    → parsed (tokens_of (text.named (codes "byte") (text.memory m))) ≡ Some (Byte (address_of m), [])
byte_last m h ok =
    ap (λ (ps : List text.Piece). parsed (Word (codes "byte") ∷ tokens_of ps)) (sym (append-nil (text.memory m))) ∙ byte_bracketed m [] h ok

pub number_last : (n : ℕ) → n < 2 ^ 64 → parsed (tokens_of (text.number n ∷ [])) ≡ Some (Value (Number (Some (pos n))), [])
number_last n l = number_stop n [] stop_end l

pub counter_last : parsed (tokens_of (text.Word (codes "cl") ∷ [])) ≡ Some (Counter, [])
counter_last = counter_stop [] stop_end

relative_last : (z : ℤ) → FitsSigned w32 z
    → parsed (tokens_of (text.named (codes "rel") (text.signed z))) ≡ Some (Relative (Some z), [])
unfolding parsed worded second_parsed minus_parsed
relative_last (pos n) h = rw (hex_place false n (pos_small n h)) refl
relative_last (negsuc n) h = rw (hex_place true (suc n) (neg_small n h)) refl

-- ---- all operands

operands_parsed : (ts : List Token) (g : ParsedOperand) (rest : List Token) → parsed ts ≡ Some (g, rest)
    → asm.operands ts ≡ after_first g rest
unfolding asm.operands parsed
operands_parsed [] g rest e = absurd cc
operands_parsed (t ∷ ts) g rest e = ap (λ (o : Option (ParsedOperand × List Token)). o >>= (λ x. after_first x.0 x.1)) e

pub one_read : (ts : List Token) (g : ParsedOperand) → parsed ts ≡ Some (g, []) → asm.operands ts ≡ Some (One g)
unfolding after_first
one_read ts g e = operands_parsed ts g [] e

pub two_read : (ts us : List Token) (g h : ParsedOperand) → parsed ts ≡ Some (g, Sign 44 ∷ us) → parsed us ≡ Some (h, [])
    → asm.operands ts ≡ Some (Two g h)
unfolding after_first second
two_read ts us g h e f = operands_parsed ts g (Sign 44 ∷ us) e ∙ (rw f refl)

pub operand_read : (size : Size) (o : Operand) → OperandFits o → value_ok o ≡ true
    → asm.operands (tokens_of (text.operand size o)) ≡ Some (One (parsed_of size o))
operand_read size o h ok = one_read (tokens_of (text.operand size o)) (parsed_of size o) (operand_last size o h ok)

pub relative_read : (z : ℤ) → FitsSigned w32 z
    → asm.operands (tokens_of (text.named (codes "rel") (text.signed z))) ≡ Some (One (Relative (Some z)))
relative_read z h = one_read (tokens_of (text.named (codes "rel") (text.signed z))) (Relative (Some z)) (relative_last z h)

-- two operands, the first of which is a register
pub after_register : (size : Size) (r : Reg) (ps : List text.Piece) (h : ParsedOperand) → parsed (tokens_of ps) ≡ Some (h, [])
    → asm.operands (tokens_of (text.pair (text.register size r ∷ []) ps)) ≡ Some (Two (Register size r) h)
after_register size r ps h e =
    two_read (tokens_of (text.pair (text.register size r ∷ []) ps)) (tokens_of ps) (Register size r) h
    (register_stop size r (Sign 44 ∷ tokens_of ps) (stop_comma (tokens_of ps))) e

-- the first operand, after its size where no register tells it
abbrev pub first_parsed : Size → Operand → Operand → ParsedOperand
first_parsed sizes.Dword (operands.Mem m) (operands.Imm n) = Dword (address_of m)
first_parsed size dst src = parsed_of size dst

first_before : (size : Size) (dst src : Operand) (ps : List text.Piece) → OperandFits dst → value_ok dst ≡ true
    → parsed (tokens_of (text.size_word size dst src ++ text.pair (text.operand size dst) ps))
    ≡ Some (first_parsed size dst src, Sign 44 ∷ tokens_of ps)
first_before sizes.Dword (operands.Mem m) (operands.Imm n) ps h ok = dword_bracketed m (text.Sign 44 ∷ text.Space ∷ ps) h ok
first_before sizes.Dword (operands.Mem m) (operands.Reg r) ps h ok = bracketed m (text.Sign 44 ∷ text.Space ∷ ps) h ok
first_before sizes.Dword (operands.Mem m) (operands.Mem n) ps h ok = bracketed m (text.Sign 44 ∷ text.Space ∷ ps) h ok
first_before sizes.Dword (operands.Reg r) src ps h ok =
    operand_before sizes.Dword (operands.Reg r) (text.Sign 44 ∷ text.Space ∷ ps) h ok (stop_comma (tokens_of ps))
first_before sizes.Dword (operands.Imm n) src ps h ok =
    operand_before sizes.Dword (operands.Imm n) (text.Sign 44 ∷ text.Space ∷ ps) h ok (stop_comma (tokens_of ps))
first_before sizes.Qword dst src ps h ok =
    operand_before sizes.Qword dst (text.Sign 44 ∷ text.Space ∷ ps) h ok (stop_comma (tokens_of ps))

pub pair_read : (size : Size) (dst src : Operand) → OperandFits dst → OperandFits src → value_ok dst ≡ true → value_ok src ≡ true
    → asm.operands (tokens_of (text.size_word size dst src ++ text.pair (text.operand size dst) (text.operand size src)))
    ≡ Some (Two (first_parsed size dst src) (parsed_of size src))
pair_read size dst src h k ok right =
    two_read _ (tokens_of (text.operand size src)) (first_parsed size dst src) (parsed_of size src)
    (first_before size dst src (text.operand size src) h ok) (operand_last size src k right)
