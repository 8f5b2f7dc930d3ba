-- What a mnemonic makes of the text of its operands.
use Rattle.std.proofs.Common.{◌≡◌, ℕ, ℤ, pos, ◌<◌, ◌^◌, Bool, true, false, List, [], ◌∷◌, ◌++◌, codes, Option, Some, None, FitsSigned, w32, refl, ap, ◌∙◌, arith, lt-ltb}
use Rattle.std.proofs.lemmas.Bool.{and_parts}
use Rattle.cet_encode.specs.Text as text
use Rattle.cet_isa.specs.Spelled.{has_spelling, is_cmp, is_qword, mem_ok, place_ok, alu_ok, test_ok, mov_ok, push_ok, OperandFits, CountFits}
use Rattle.cet_isa.specs.declared.instructions.AluOp.{AluOp}
use Rattle.cet_isa.specs.declared.instructions.Cond.{Cond}
use Rattle.cet_isa.specs.declared.instructions.Count.{Count}
use Rattle.cet_isa.specs.declared.instructions.Count.TheVariants as counts
use Rattle.cet_isa.specs.declared.instructions.Instr.{Instr}
use Rattle.cet_isa.specs.declared.instructions.Instr.TheVariants as instrs
use Rattle.cet_isa.specs.declared.instructions.Mem.{Mem}
use Rattle.cet_isa.specs.declared.instructions.Operand.{Operand}
use Rattle.cet_isa.specs.declared.instructions.Operand.TheVariants as operands
use Rattle.cet_isa.specs.declared.instructions.Reg.{Reg}
use Rattle.cet_isa.specs.declared.instructions.Size.{Size}
use Rattle.cet_isa.specs.declared.instructions.Size.TheVariants as sizes
use Rattle.cet_syntax.specs.Tokens.{◌>>=◌}
use Rattle.cet_syntax.specs.Words.{Number}
use Rattle.cet_syntax.specs.Operands as asm
use Rattle.cet_syntax.specs.Operands.{ParsedOperand, Register, Counter, Value, Memory, Byte, Relative, Operands, Absent, One, Two}
use Rattle.cet_syntax.specs.Instructions.{no_fixups, Argument, argument, common_size, Built, pair_instr, pair, wide_move, is_wide, any_move, zero_move, sign_move, shift_instr}
use Rattle.cet_syntax.specs.Instructions.{shift, two_operands, register_instr, memory_instr, relative_instr, value_built, one_operand, built}
use Rattle.cet_syntax.specs.Line.{Code, judged, stated}
use Rattle.cet_syntax.specs.declared.mnemonics.Mnemonic.{Mnemonic}
use Rattle.cet_syntax.specs.declared.mnemonics.Mnemonic.TheVariants as words
use Rattle.cet_texts.proofs.PieceTokens.{tokens_of, IsPlain}
use Rattle.cet_texts.proofs.WordTexts.{register_word, hex_word, fits_holds, value_sound}
use Rattle.cet_texts.proofs.OperandTexts.{address_of, shown_sound}
use Rattle.cet_texts.proofs.ParsedTexts.{value_ok, mem_plain, operand_plain, pair_plain, size_plain, relative_plain, parsed_of, first_parsed, operand_last, byte_last}
use Rattle.cet_texts.proofs.ParsedTexts.{number_last, counter_last, one_read, operand_read, relative_read, after_register, pair_read}

-- an instruction that is stated as it is
abbrev pub clean_built : Instr → Built
clean_built i = record { instr = i; fits = true; fixups = no_fixups }

-- the pieces after a mnemonic that state an instruction
pub record IsCode (m : Mnemonic) (ps : List text.Piece) (i : Instr) : Type 0 where
  pub plain : IsPlain ps
  pub same : stated (asm.operands (tokens_of ps) >>= built m) ≡ Code i no_fixups

judged_clean : (i : Instr) → has_spelling i ≡ true → judged (clean_built i) ≡ Code i no_fixups
judged_clean i h = rw h refl

pub code_from : (m : Mnemonic) (ps : List text.Piece) (o : Operands) (i : Instr) → IsPlain ps → asm.operands (tokens_of ps) ≡ Some o
    → built m o ≡ Some (clean_built i)
    → has_spelling i ≡ true → IsCode m ps i
code_from m ps o i p e f h =
    record { plain = p; same = ap (λ (x : Option Operands). stated (x >>= built m)) e ∙ (ap stated f ∙ judged_clean i h) }

-- ---- two operands of one size

abbrev clean : Operand → Argument
clean o = record { operand = o; fits = true; displacement = None; immediate = None }

argument_read : (size : Size) (o : Operand) → OperandFits o → argument size (parsed_of size o) ≡ Some (clean o)
argument_read size (operands.Reg r) h = refl
argument_read size (operands.Mem m) h = rw (shown_sound (text.is_alone m.base m.index) m.disp h) refl
argument_read size (operands.Imm z) h = rw (value_sound size z h) refl

argument_first : (size : Size) (dst src : Operand) → OperandFits dst → argument size (first_parsed size dst src) ≡ Some (clean dst)
argument_first sizes.Dword (operands.Mem m) (operands.Imm n) h = rw (shown_sound (text.is_alone m.base m.index) m.disp h) refl
argument_first sizes.Dword (operands.Mem m) (operands.Reg r) h = argument_read sizes.Dword (operands.Mem m) h
argument_first sizes.Dword (operands.Mem m) (operands.Mem n) h = argument_read sizes.Dword (operands.Mem m) h
argument_first sizes.Dword (operands.Reg r) src h = refl
argument_first sizes.Dword (operands.Imm n) src h = argument_read sizes.Dword (operands.Imm n) h
argument_first sizes.Qword dst src h = argument_read sizes.Qword dst h

-- not a number first, nor memory twice
abbrev two_ok : Operand → Operand → Bool
two_ok (operands.Reg d) src = true
two_ok (operands.Mem m) (operands.Mem n) = false
two_ok (operands.Mem m) src = true
two_ok (operands.Imm n) src = false

agree : (size : Size) (dst src : Operand) → two_ok dst src ≡ true
    → common_size (first_parsed size dst src) (parsed_of size src) ≡ Some size
unfolding common_size
agree sizes.Dword (operands.Reg d) (operands.Reg r) h = refl
agree sizes.Dword (operands.Reg d) (operands.Mem m) h = refl
agree sizes.Dword (operands.Reg d) (operands.Imm n) h = refl
agree sizes.Dword (operands.Mem m) (operands.Reg r) h = refl
agree sizes.Dword (operands.Mem m) (operands.Imm n) h = refl
agree sizes.Qword (operands.Reg d) (operands.Reg r) h = refl
agree sizes.Qword (operands.Reg d) (operands.Mem m) h = refl
agree sizes.Qword (operands.Reg d) (operands.Imm n) h = refl
agree sizes.Qword (operands.Mem m) (operands.Reg r) h = refl
agree sizes.Qword (operands.Mem m) (operands.Imm n) h = refl
agree size (operands.Mem m) (operands.Mem n) h = absurd (let e : false ≡ true = h in cc)
agree size (operands.Imm n) src h = absurd (let e : false ≡ true = h in cc)

-- operands that two of one size may be
record IsPair (dst src : Operand) : Type 0 where
  left : value_ok dst ≡ true
  right : value_ok src ≡ true
  two : two_ok dst src ≡ true

pair_built : (m : Mnemonic) (size : Size) (dst src : Operand) (i : Instr) → OperandFits dst → OperandFits src
    → two_ok dst src ≡ true
    → pair_instr m size dst src ≡ Some i → pair m (first_parsed size dst src) (parsed_of size src) ≡ Some (clean_built i)
unfolding pair
pair_built m size dst src i h k ok e = rw (agree size dst src ok, argument_first size dst src h, argument_read size src k, e) refl

pair_code : (m : Mnemonic) (size : Size) (dst src : Operand) (i : Instr) → OperandFits dst → OperandFits src → IsPair dst src
    → built m (Two (first_parsed size dst src) (parsed_of size src)) ≡ pair m (first_parsed size dst src) (parsed_of size src)
    → pair_instr m size dst src ≡ Some i → has_spelling i ≡ true
    → IsCode m (text.size_word size dst src ++ text.pair (text.operand size dst) (text.operand size src)) i
pair_code m size dst src i h k ok e f s =
    code_from m (text.size_word size dst src ++ text.pair (text.operand size dst) (text.operand size src))
    (Two (first_parsed size dst src) (parsed_of size src)) i
    (size_plain size dst src _ (pair_plain (text.operand size dst) (text.operand size src)
    (operand_plain size dst ok.left) (operand_plain size src ok.right)))
    (pair_read size dst src h k ok.left ok.right)
    (e ∙ pair_built m size dst src i h k ok.two f)
    s

mem_second : (d : Reg) (m : Mem) → mem_ok m ≡ true → IsPair (operands.Reg d) (operands.Mem m)
mem_second d m h = record { left = refl; right = h; two = refl }

place_second : (d : Reg) (src : Operand) → place_ok src ≡ true → IsPair (operands.Reg d) src
place_second d (operands.Reg r) h = record { left = refl; right = refl; two = refl }
place_second d (operands.Mem m) h = mem_second d m h
place_second d (operands.Imm n) h = absurd (let e : false ≡ true = h in cc)

number_second : (d : Reg) (n : ℤ) → IsPair (operands.Reg d) (operands.Imm n)
number_second d n = record { left = refl; right = refl; two = refl }

mem_register : (m : Mem) (r : Reg) → mem_ok m ≡ true → IsPair (operands.Mem m) (operands.Reg r)
mem_register m r h = record { left = h; right = refl; two = refl }

mem_number : (m : Mem) (n : ℤ) → mem_ok m ≡ true → IsPair (operands.Mem m) (operands.Imm n)
mem_number m n h = record { left = h; right = refl; two = refl }

place_first : (dst : Operand) (r : Reg) → place_ok dst ≡ true → IsPair dst (operands.Reg r)
place_first (operands.Reg d) r h = place_second d (operands.Reg r) refl
place_first (operands.Mem m) r h = mem_register m r h
place_first (operands.Imm n) r h = absurd (let e : false ≡ true = h in cc)

alu_pair : (op : AluOp) (dst src : Operand) → alu_ok op dst src ≡ true → IsPair dst src
alu_pair op (operands.Reg d) (operands.Imm n) h = number_second d n
alu_pair op (operands.Reg d) (operands.Reg r) h = place_second d (operands.Reg r) refl
alu_pair op (operands.Reg d) (operands.Mem m) h = mem_second d m h
alu_pair op (operands.Mem m) (operands.Reg r) h = mem_register m r (and_parts (is_cmp op) (mem_ok m) h).1
alu_pair op (operands.Mem m) (operands.Imm n) h = mem_number m n (and_parts (is_cmp op) (mem_ok m) h).1
alu_pair op (operands.Mem m) (operands.Mem n) h = absurd (let e : false ≡ true = h in cc)
alu_pair op (operands.Imm n) src h = absurd (let e : false ≡ true = h in cc)

test_pair : (dst src : Operand) → test_ok dst src ≡ true → IsPair dst src
test_pair dst (operands.Reg r) h = place_first dst r h
test_pair (operands.Reg d) (operands.Imm n) h = number_second d n
test_pair (operands.Mem m) (operands.Imm n) h = mem_number m n h
test_pair (operands.Imm k) (operands.Imm n) h = absurd (let e : false ≡ true = h in cc)
test_pair dst (operands.Mem m) h = absurd (let e : false ≡ true = h in cc)

mov_pair : (size : Size) (dst src : Operand) → mov_ok size dst src ≡ true → IsPair dst src
mov_pair size (operands.Reg d) (operands.Imm n) h = number_second d n
mov_pair size (operands.Reg d) (operands.Reg r) h = place_second d (operands.Reg r) refl
mov_pair size (operands.Reg d) (operands.Mem m) h = mem_second d m h
mov_pair size (operands.Mem m) (operands.Reg r) h = mem_register m r (and_parts (is_qword size) (mem_ok m) h).1
mov_pair size (operands.Mem m) (operands.Imm n) h = mem_number m n (and_parts (is_qword size) (mem_ok m) h).1
mov_pair size (operands.Mem m) (operands.Mem n) h = absurd (let e : false ≡ true = h in cc)
mov_pair size (operands.Imm n) src h = absurd (let e : false ≡ true = h in cc)

abbrev two_pieces : Size → Operand → Operand → List text.Piece
two_pieces size dst src = text.size_word size dst src ++ text.pair (text.operand size dst) (text.operand size src)

pub alu_code : (op : AluOp) (size : Size) (dst src : Operand) → OperandFits dst → OperandFits src → alu_ok op dst src ≡ true
    → IsCode (words.Alu op) (two_pieces size dst src) (instrs.Alu op size dst src)
unfolding built two_operands pair_instr
alu_code op size dst src h k ok =
    pair_code (words.Alu op) size dst src (instrs.Alu op size dst src) h k (alu_pair op dst src ok) refl refl ok

pub test_code : (size : Size) (dst src : Operand) → OperandFits dst → OperandFits src → test_ok dst src ≡ true
    → IsCode words.Test (two_pieces size dst src) (instrs.Test size dst src)
unfolding built two_operands pair_instr
test_code size dst src h k ok = pair_code words.Test size dst src (instrs.Test size dst src) h k (test_pair dst src ok) refl refl ok

not_wide : (size : Size) (dst src : Operand) → OperandFits src → is_wide (first_parsed size dst src) (parsed_of size src) ≡ false
not_wide sizes.Dword (operands.Reg d) src k = refl
not_wide sizes.Dword (operands.Mem m) (operands.Reg r) k = refl
not_wide sizes.Dword (operands.Mem m) (operands.Mem n) k = refl
not_wide sizes.Dword (operands.Mem m) (operands.Imm n) k = refl
not_wide sizes.Dword (operands.Imm n) src k = refl
not_wide sizes.Qword (operands.Reg d) (operands.Reg r) k = refl
not_wide sizes.Qword (operands.Reg d) (operands.Mem m) k = refl
not_wide sizes.Qword (operands.Reg d) (operands.Imm z) k = rw (fits_holds z k) refl
not_wide sizes.Qword (operands.Mem m) src k = refl
not_wide sizes.Qword (operands.Imm n) src k = refl

pub mov_code : (size : Size) (dst src : Operand) → OperandFits dst → OperandFits src → mov_ok size dst src ≡ true
    → IsCode words.Mov (two_pieces size dst src) (instrs.Mov size dst src)
unfolding built two_operands any_move pair_instr
mov_code size dst src h k ok =
    pair_code words.Mov size dst src (instrs.Mov size dst src) h k (mov_pair size dst src ok) (rw (not_wide size dst src k) refl) refl ok

pub imul_code : (size : Size) (d : Reg) (src : Operand) → OperandFits src → place_ok src ≡ true
    → IsCode words.Imul (two_pieces size (operands.Reg d) src) (instrs.Imul size d src)
unfolding built two_operands pair_instr
imul_code size d src k ok =
    pair_code words.Imul size (operands.Reg d) src (instrs.Imul size d src) tt k (place_second d src ok) refl refl ok

pub cmov_code : (c : Cond) (size : Size) (d : Reg) (src : Operand) → OperandFits src → place_ok src ≡ true
    → IsCode (words.Cmov c) (two_pieces size (operands.Reg d) src) (instrs.Cmov c size d src)
unfolding built two_operands pair_instr
cmov_code c size d src k ok =
    pair_code (words.Cmov c) size (operands.Reg d) src (instrs.Cmov c size d src) tt k (place_second d src ok) refl refl ok

pub lea_code : (size : Size) (d : Reg) (m : Mem) → FitsSigned w32 m.disp → mem_ok m ≡ true
    → IsCode words.Lea (two_pieces size (operands.Reg d) (operands.Mem m)) (instrs.Lea size d m)
unfolding built two_operands pair_instr
lea_code size d m k ok =
    pair_code words.Lea size (operands.Reg d) (operands.Mem m) (instrs.Lea size d m) tt k (mem_second d m ok) refl refl ok

pub xchg_code : (dst : Operand) (r : Reg) → OperandFits dst → place_ok dst ≡ true
    → IsCode words.Xchg (two_pieces sizes.Qword dst (operands.Reg r)) (instrs.Xchg dst r)
unfolding built two_operands pair_instr
xchg_code dst r h ok =
    pair_code words.Xchg sizes.Qword dst (operands.Reg r) (instrs.Xchg dst r) h tt (place_first dst r ok) refl refl ok

-- memory, then a register of 64 bits
pub store_code : (m : Mnemonic) (mem : Mem) (r : Reg) (i : Instr) → FitsSigned w32 mem.disp → mem_ok mem ≡ true
    → built m (Two (Memory (address_of mem)) (Register sizes.Qword r)) ≡ pair m (Memory (address_of mem)) (Register sizes.Qword r)
    → pair_instr m sizes.Qword (operands.Mem mem) (operands.Reg r) ≡ Some i → has_spelling i ≡ true
    → IsCode m (two_pieces sizes.Qword (operands.Mem mem) (operands.Reg r)) i
store_code m mem r i h ok e f s = pair_code m sizes.Qword (operands.Mem mem) (operands.Reg r) i h tt (mem_register mem r ok) e f s

-- ---- two operands of their own kinds

register_pair_plain : (size : Size) (r : Reg) (ps : List text.Piece) → IsPlain ps
    → IsPlain (text.pair (text.register size r ∷ []) ps)
register_pair_plain size r ps h = (((register_word size r).word), refl, (refl, h))

-- a register before another operand
register_code : (m : Mnemonic) (size : Size) (r : Reg) (ps : List text.Piece) (g : ParsedOperand) (i : Instr) → IsPlain ps
    → asm.parsed (tokens_of ps) ≡ Some (g, []) → built m (Two (Register size r) g) ≡ Some (clean_built i) → has_spelling i ≡ true
    → IsCode m (text.pair (text.register size r ∷ []) ps) i
register_code m size r ps g i p e f h =
    code_from m (text.pair (text.register size r ∷ []) ps) (Two (Register size r) g) i
    (register_pair_plain size r ps p) (after_register size r ps g e) f h

wide_built : (r : Reg) (n : ℕ) → n < 2 ^ 64
    → built words.Movabs (Two (Register sizes.Qword r) (Value (Number (Some (pos n))))) ≡ Some (clean_built (instrs.MovWide r n))
unfolding built two_operands wide_move
wide_built r n h = rw (lt-ltb n (2 ^ 64) h) refl

pub wide_code : (r : Reg) (n : ℕ) → n < 2 ^ 64
    → IsCode words.Movabs (text.pair (text.register sizes.Qword r ∷ []) (text.number n ∷ [])) (instrs.MovWide r n)
wide_code r n h =
    register_code words.Movabs sizes.Qword r (text.number n ∷ []) (Value (Number (Some (pos n)))) (instrs.MovWide r n)
    (hex_word n, refl, tt) (number_last n h) (wide_built r n h) refl

zero_built : (r : Reg) (m : Mem) → FitsSigned w32 m.disp
    → built words.Movzx (Two (Register sizes.Qword r) (Byte (address_of m))) ≡ Some (clean_built (instrs.MovZero8 r m))
unfolding built two_operands zero_move
zero_built r m h = rw (shown_sound (text.is_alone m.base m.index) m.disp h) refl

pub zero_code : (r : Reg) (m : Mem) → FitsSigned w32 m.disp → mem_ok m ≡ true
    → IsCode words.Movzx (text.pair (text.register sizes.Qword r ∷ []) (text.named (codes "byte") (text.memory m))) (instrs.MovZero8 r m)
zero_code r m h ok =
    register_code words.Movzx sizes.Qword r (text.named (codes "byte") (text.memory m)) (Byte (address_of m)) (instrs.MovZero8 r m)
    (refl, refl, mem_plain m ok) (byte_last m h ok) (zero_built r m h) ok

sign_built : (d : Reg) (src : Operand) → OperandFits src → place_ok src ≡ true
    → built words.Movsxd (Two (Register sizes.Qword d) (parsed_of sizes.Dword src)) ≡ Some (clean_built (instrs.MovSign32 d src))
unfolding built two_operands sign_move
sign_built d (operands.Reg r) h ok = refl
sign_built d (operands.Mem m) h ok = rw (shown_sound (text.is_alone m.base m.index) m.disp h) refl
sign_built d (operands.Imm n) h ok = absurd (let e : false ≡ true = ok in cc)

place_value : (o : Operand) → place_ok o ≡ true → value_ok o ≡ true
place_value (operands.Reg r) h = refl
place_value (operands.Mem m) h = h
place_value (operands.Imm n) h = refl

pub sign_code : (d : Reg) (src : Operand) → OperandFits src → place_ok src ≡ true
    → IsCode words.Movsxd (text.pair (text.register sizes.Qword d ∷ []) (text.operand sizes.Dword src)) (instrs.MovSign32 d src)
sign_code d src h ok =
    register_code words.Movsxd sizes.Qword d (text.operand sizes.Dword src) (parsed_of sizes.Dword src) (instrs.MovSign32 d src)
    (operand_plain sizes.Dword src (place_value src ok)) (operand_last sizes.Dword src h (place_value src ok)) (sign_built d src h ok) ok

amount_plain : (count : Count) → IsPlain (text.amount count ∷ [])
amount_plain (counts.Number n) = (hex_word n, refl, tt)
amount_plain counts.Cl = (refl, refl, tt)

abbrev amount_parsed : Count → ParsedOperand
amount_parsed (counts.Number n) = Value (Number (Some (pos n)))
amount_parsed counts.Cl = Counter

amount_last : (count : Count) → CountFits count → asm.parsed (tokens_of (text.amount count ∷ [])) ≡ Some (amount_parsed count, [])
amount_last (counts.Number n) h = number_last n (omega (arith, h))
amount_last counts.Cl h = counter_last

shift_built : (m : Mnemonic) (size : Size) (r : Reg) (count : Count) (i : Instr) → CountFits count
    → shift_instr m size r count ≡ Some i
    → shift m (Register size r) (amount_parsed count) ≡ Some (clean_built i)
unfolding shift
shift_built m size r (counts.Number n) i h e = rw (lt-ltb n 256 h, e) refl
shift_built m size r counts.Cl i h e = rw e refl

pub shift_code : (m : Mnemonic) (size : Size) (r : Reg) (count : Count) (i : Instr) → CountFits count
    → shift_instr m size r count ≡ Some i
    → ((g h : ParsedOperand) → built m (Two g h) ≡ shift m g h) → has_spelling i ≡ true
    → IsCode m (text.pair (text.register size r ∷ []) (text.amount count ∷ [])) i
shift_code m size r count i h e f s =
    register_code m size r (text.amount count ∷ []) (amount_parsed count) i
    (amount_plain count) (amount_last count h) (f (Register size r) (amount_parsed count) ∙ shift_built m size r count i h e) s

-- ---- one operand

one_code : (m : Mnemonic) (size : Size) (o : Operand) (i : Instr) → OperandFits o → value_ok o ≡ true
    → one_operand m (parsed_of size o) ≡ Some (clean_built i)
    → has_spelling i ≡ true → IsCode m (text.operand size o) i
unfolding built
one_code m size o i h ok e s =
    code_from m (text.operand size o) (One (parsed_of size o)) i (operand_plain size o ok) (operand_read size o h ok) e s

register_built : (m : Mnemonic) (size : Size) (r : Reg) (i : Instr) → register_instr m size r ≡ Some i
    → one_operand m (Register size r) ≡ Some (clean_built i)
unfolding one_operand
register_built m size r i e = rw e refl

memory_built : (m : Mnemonic) (mem : Mem) (i : Instr) → FitsSigned w32 mem.disp → memory_instr m mem ≡ Some i
    → one_operand m (Memory (address_of mem)) ≡ Some (clean_built i)
unfolding one_operand
memory_built m mem i h e = rw (shown_sound (text.is_alone mem.base mem.index) mem.disp h, e) refl

pub one_register_code : (m : Mnemonic) (size : Size) (r : Reg) (i : Instr) → register_instr m size r ≡ Some i
    → has_spelling i ≡ true
    → IsCode m (text.operand size (operands.Reg r)) i
one_register_code m size r i e s = one_code m size (operands.Reg r) i tt refl (register_built m size r i e) s

pub one_memory_code : (m : Mnemonic) (mem : Mem) (i : Instr) → FitsSigned w32 mem.disp → mem_ok mem ≡ true
    → memory_instr m mem ≡ Some i → has_spelling i ≡ true
    → IsCode m (text.operand sizes.Qword (operands.Mem mem)) i
one_memory_code m mem i h ok e s = one_code m sizes.Qword (operands.Mem mem) i h ok (memory_built m mem i h e) s

-- a register or memory
pub place_code : (m : Mnemonic) (f : Operand → Instr) (o : Operand) → OperandFits o → place_ok o ≡ true
    → ((r : Reg) → register_instr m sizes.Qword r ≡ Some (f (operands.Reg r)))
    → ((mem : Mem) → memory_instr m mem ≡ Some (f (operands.Mem mem)))
    → has_spelling (f o) ≡ true → IsCode m (text.operand sizes.Qword o) (f o)
place_code m f (operands.Reg r) h ok reg mem s = one_register_code m sizes.Qword r (f (operands.Reg r)) (reg r) s
place_code m f (operands.Mem x) h ok reg mem s = one_memory_code m x (f (operands.Mem x)) h ok (mem x) s
place_code m f (operands.Imm n) h ok reg mem s = absurd (let e : false ≡ true = ok in cc)

push_built : (z : ℤ) → FitsSigned w32 z
    → one_operand words.Push (Value (Number (Some z))) ≡ Some (clean_built (instrs.Push (operands.Imm z)))
unfolding one_operand value_built
push_built z h = rw (value_sound sizes.Qword z h) refl

pub push_code : (o : Operand) → OperandFits o → push_ok o ≡ true → IsCode words.Push (text.operand sizes.Qword o) (instrs.Push o)
unfolding register_instr memory_instr
push_code (operands.Reg r) h ok = one_register_code words.Push sizes.Qword r (instrs.Push (operands.Reg r)) refl refl
push_code (operands.Mem m) h ok = one_memory_code words.Push m (instrs.Push (operands.Mem m)) h ok refl ok
push_code (operands.Imm z) h ok =
    one_code words.Push sizes.Qword (operands.Imm z) (instrs.Push (operands.Imm z)) h refl (push_built z h) refl

relative_built : (m : Mnemonic) (z : ℤ) (i : Instr) → FitsSigned w32 z → relative_instr m z ≡ Some i
    → one_operand m (Relative (Some z)) ≡ Some (clean_built i)
unfolding one_operand
relative_built m z i h e = rw (value_sound sizes.Qword z h, e) refl

pub relative_code : (m : Mnemonic) (z : ℤ) (i : Instr) → FitsSigned w32 z → relative_instr m z ≡ Some i → has_spelling i ≡ true
    → IsCode m (text.named (codes "rel") (text.signed z)) i
unfolding built
relative_code m z i h e s =
    code_from m (text.named (codes "rel") (text.signed z)) (One (Relative (Some z))) i
    (relative_plain z) (relative_read z h) (relative_built m z i h e) s

ret_built : (n : ℕ) → n < 2 ^ 16 → built words.Ret (One (Value (Number (Some (pos n))))) ≡ Some (clean_built (instrs.RetImm n))
unfolding built one_operand value_built
ret_built n h = rw (lt-ltb n (2 ^ 16) h) refl

pub ret_code : (n : ℕ) → n < 2 ^ 16 → IsCode words.Ret (text.number n ∷ []) (instrs.RetImm n)
ret_code n h =
    code_from words.Ret (text.number n ∷ []) (One (Value (Number (Some (pos n))))) (instrs.RetImm n) (hex_word n, refl, tt)
    (one_read (tokens_of (text.number n ∷ [])) (Value (Number (Some (pos n)))) (number_last n (omega (arith, h)))) (ret_built n h) refl
