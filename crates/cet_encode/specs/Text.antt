-- The text of an instruction. Source: Intel syntax of the SDM (volume 2); how numbers and blanks are written is own.
use Rattle.std.specs.Prelude.{ℕ, zero, suc, ℤ, pos, negsuc, Bool, true, false, List, [], ◌∷◌, ◌++◌, Option, Some, None, codes}
use Rattle.std.specs.Fmt.{decimal, digits}
use Rattle.cet_isa.specs.declared.instructions.Base.{Base}
use Rattle.cet_isa.specs.declared.instructions.Base.TheVariants as bases
use Rattle.cet_isa.specs.declared.instructions.Count.{Count}
use Rattle.cet_isa.specs.declared.instructions.Count.TheVariants as counts
use Rattle.cet_isa.specs.declared.instructions.Instr.{Instr}
use Rattle.cet_isa.specs.declared.instructions.Instr.TheVariants as instrs
use Rattle.cet_isa.specs.declared.instructions.Mem.{Mem}
use Rattle.cet_isa.specs.declared.instructions.Operand.{Operand}
use Rattle.cet_isa.specs.declared.instructions.Operand.TheVariants as operands
use Rattle.cet_isa.specs.declared.instructions.Reg.{Reg}
use Rattle.cet_isa.specs.declared.instructions.Size.{Size}
use Rattle.cet_isa.specs.declared.instructions.Size.TheVariants.{Dword, Qword}
use Rattle.cet_isa.specs.Names.{register_name, condition_name, operation_name}

-- a name or a number, one of `,` `[` `]` `+` `-` `*`, or a space
pub data Piece : Type 0 where
  Word : (bytes : List ℕ) → Piece
  Sign : (byte : ℕ) → Piece
  Space : Piece

abbrev pub bytes_of : Piece → List ℕ
bytes_of (Word bytes) = bytes
bytes_of (Sign byte) = byte ∷ []
bytes_of Space = 32 ∷ []

-- a text and the pieces after it
abbrev pub onto : List ℕ → List Piece → List ℕ
onto text [] = text
onto text (p ∷ ps) = onto (text ++ bytes_of p) ps

-- ---- operands

abbrev pub number : ℕ → Piece
number n = Word (codes "0x" ++ digits 16 false n)

abbrev pub signed : ℤ → List Piece
signed (pos n) = number n ∷ []
signed (negsuc n) = Sign 45 ∷ number (suc n) ∷ []

abbrev pub register : Size → Reg → Piece
register size reg = Word (register_name size reg)

abbrev pub base_part : Base → List Piece
base_part bases.None = []
base_part bases.Rip = Word (codes "rip") ∷ []
base_part (bases.Reg reg) = register Qword reg ∷ []

-- an index and its scale
abbrev pub scaled : Reg → ℕ → List Piece
scaled reg scale = register Qword reg ∷ Sign 42 ∷ Word (decimal scale) ∷ []

-- base and index
abbrev pub front : Base → Option Reg → ℕ → List Piece
front base None scale = base_part base
front bases.None (Some index) scale = scaled index scale
front base (Some index) scale = base_part base ++ Sign 43 ∷ scaled index scale

-- a displacement without base and index
abbrev pub is_alone : Base → Option Reg → Bool
is_alone bases.None None = true
is_alone base index = false

-- the displacement, which is left out where it is 0 and something else is there
abbrev pub displacement : Bool → ℤ → List Piece
displacement true disp = signed disp
displacement false (pos zero) = []
displacement false (pos (suc n)) = Sign 43 ∷ number (suc n) ∷ []
displacement false (negsuc n) = signed (negsuc n)

unfoldable pub memory : Mem → List Piece
memory m = Sign 91 ∷ front m.base m.index m.scale ++ displacement (is_alone m.base m.index) m.disp ++ Sign 93 ∷ []

abbrev pub operand : Size → Operand → List Piece
operand size (operands.Reg reg) = register size reg ∷ []
operand size (operands.Mem mem) = memory mem
operand size (operands.Imm n) = signed n

-- the word for a size of 32 bits that no register tells
abbrev pub size_word : Size → Operand → Operand → List Piece
size_word Dword (operands.Mem mem) (operands.Imm n) = Word (codes "dword") ∷ Space ∷ []
size_word size dst src = []

abbrev pub pair : List Piece → List Piece → List Piece
pair first second = first ++ Sign 44 ∷ Space ∷ second

-- ---- instructions

abbrev pub named : List ℕ → List Piece → List Piece
named name ps = Word name ∷ Space ∷ ps

abbrev pub one : List ℕ → Size → Operand → List Piece
one name size src = named name (operand size src)

abbrev pub two : List ℕ → Size → Operand → Operand → List Piece
two name size dst src = named name (size_word size dst src ++ pair (operand size dst) (operand size src))

abbrev pub locked : List ℕ → Mem → Reg → List Piece
locked name mem reg = named (codes "lock") (two name Qword (operands.Mem mem) (operands.Reg reg))

abbrev pub amount : Count → Piece
amount (counts.Number n) = number n
amount counts.Cl = Word (codes "cl")

abbrev pub shift : List ℕ → Size → Reg → Count → List Piece
shift name size reg count = named name (pair (register size reg ∷ []) (amount count ∷ []))

abbrev pub relative : List ℕ → ℤ → List Piece
relative name disp = named name (named (codes "rel") (signed disp))

abbrev pub indirect : List ℕ → Operand → Bool → List Piece
indirect name target false = one name Qword target
indirect name target true = named (codes "notrack") (one name Qword target)

unfoldable pub pieces : Instr → List Piece
pieces (instrs.Alu op size dst src) = two (operation_name op) size dst src
pieces (instrs.Test size dst src) = two (codes "test") size dst src
pieces (instrs.Mov size dst src) = two (codes "mov") size dst src
pieces (instrs.MovWide dst value) = named (codes "movabs") (pair (register Qword dst ∷ []) (number value ∷ []))
pieces (instrs.MovZero8 dst src) = named (codes "movzx") (pair (register Qword dst ∷ []) (named (codes "byte") (memory src)))
pieces (instrs.MovSign32 dst src) = named (codes "movsxd") (pair (register Qword dst ∷ []) (operand Dword src))
pieces (instrs.Lea size dst src) = two (codes "lea") size (operands.Reg dst) (operands.Mem src)
pieces (instrs.Xchg dst reg) = two (codes "xchg") Qword dst (operands.Reg reg)
pieces (instrs.LockXadd mem reg) = locked (codes "xadd") mem reg
pieces (instrs.LockCmpxchg mem reg) = locked (codes "cmpxchg") mem reg
pieces (instrs.Inc size reg) = one (codes "inc") size (operands.Reg reg)
pieces (instrs.Dec size reg) = one (codes "dec") size (operands.Reg reg)
pieces (instrs.Not size reg) = one (codes "not") size (operands.Reg reg)
pieces (instrs.Neg size reg) = one (codes "neg") size (operands.Reg reg)
pieces (instrs.Imul size dst src) = two (codes "imul") size (operands.Reg dst) src
pieces (instrs.Shl size reg count) = shift (codes "shl") size reg count
pieces (instrs.Shr size reg count) = shift (codes "shr") size reg count
pieces (instrs.Sar size reg count) = shift (codes "sar") size reg count
pieces (instrs.Cmov cc size dst src) = two (codes "cmov" ++ condition_name cc) size (operands.Reg dst) src
pieces (instrs.Push src) = one (codes "push") Qword src
pieces (instrs.Pop dst) = one (codes "pop") Qword (operands.Reg dst)
pieces instrs.Leave = Word (codes "leave") ∷ []
pieces (instrs.CallRel disp) = relative (codes "call") disp
pieces (instrs.CallInd target notrack) = indirect (codes "call") target notrack
pieces (instrs.JmpRel disp) = relative (codes "jmp") disp
pieces (instrs.JmpInd target notrack) = indirect (codes "jmp") target notrack
pieces (instrs.Jcc cc disp) = relative (codes "j" ++ condition_name cc) disp
pieces instrs.Ret = Word (codes "ret") ∷ []
pieces (instrs.RetImm bytes) = named (codes "ret") (number bytes ∷ [])
pieces instrs.Nop = Word (codes "nop") ∷ []
pieces instrs.Pause = Word (codes "pause") ∷ []
pieces instrs.Endbr64 = Word (codes "endbr64") ∷ []
pieces instrs.Ud2 = Word (codes "ud2") ∷ []
pieces instrs.Syscall = Word (codes "syscall") ∷ []
pieces instrs.Stc = Word (codes "stc") ∷ []
pieces instrs.Clc = Word (codes "clc") ∷ []
pieces (instrs.Incsspq reg) = one (codes "incsspq") Qword (operands.Reg reg)
pieces (instrs.Rdsspq reg) = one (codes "rdsspq") Qword (operands.Reg reg)
pieces (instrs.Rstorssp mem) = one (codes "rstorssp") Qword (operands.Mem mem)
pieces instrs.Saveprevssp = Word (codes "saveprevssp") ∷ []
pieces instrs.Setssbsy = Word (codes "setssbsy") ∷ []
pieces (instrs.Clrssbsy mem) = one (codes "clrssbsy") Qword (operands.Mem mem)
pieces (instrs.Wrssq mem reg) = two (codes "wrssq") Qword (operands.Mem mem) (operands.Reg reg)
pieces (instrs.Wrussq mem reg) = two (codes "wrussq") Qword (operands.Mem mem) (operands.Reg reg)

abbrev pub text_of : Instr → List ℕ
text_of instr = onto [] (pieces instr)
