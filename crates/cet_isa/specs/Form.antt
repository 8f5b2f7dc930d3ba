-- A row of the table of instructions: one form of encoding. Source: Intel SDM volume 2, instruction format; the sets of
-- bytes by mask and value are own.
use Rattle.std.specs.Prelude.{ℕ, zero, suc, ◌+◌, ◌*◌, Bool, List, [], ◌∷◌, Option, Some, None}
use Rattle.cet_isa.specs.declared.instructions.Instr.{Instr}

-- a set of bytes: those below `below` that agree with `value` in the bits of `mask`
pub record Pattern : Type 0 where
  pub mask : ℕ
  pub value : ℕ
  pub below : ℕ

-- What a row asks of a REX prefix and its bit W. Sized: W set means 64 bits; W clear or no REX means 32. Set: a REX with
-- W set. Clear: none, or one with W clear. Ignored: any or none. Never: none.
pub data Wide : Type 0 where
  Sized : Wide
  Set : Wide
  Clear : Wide
  Ignored : Wide
  Never : Wide

-- the REX prefix that stands there: none, one with W clear, one with W set
pub data Rex : Type 0 where
  NoRex : Rex
  ClearRex : Rex
  SetRex : Rex

-- the immediate or relative displacement at the end, by its size
pub data Imm : Type 0 where
  NoImm : Imm
  Byte : Imm
  Word : Imm
  Dword : Imm
  Qword : Imm

-- where a shift takes its count from: the immediate, the number 1, the register CL
pub data Amount : Type 0 where
  Given : Amount
  One : Amount
  InCl : Amount

-- Which instruction a row spells, and from which fields: Rm is what mod and rm name, Reg the register of the reg field or
-- of the opcode, Imm the immediate.
pub data Kind : Type 0 where
  AluRmReg : Kind
  AluRegRm : Kind
  AluRmImm : Kind
  AluRaxImm : Kind
  TestRmReg : Kind
  TestRmImm : Kind
  TestRaxImm : Kind
  Imul : Kind
  Inc : Kind
  Dec : Kind
  Not : Kind
  Neg : Kind
  Shl : Amount → Kind
  Shr : Amount → Kind
  Sar : Amount → Kind
  MovRmReg : Kind
  MovRegRm : Kind
  MovRegImm : Kind
  MovRmImm : Kind
  MovWide : Kind
  MovZero8 : Kind
  MovSign32 : Kind
  Lea : Kind
  Xchg : Kind
  LockXadd : Kind
  LockCmpxchg : Kind
  Cmov : Kind
  PushReg : Kind
  PushImm : Kind
  PushMem : Kind
  Pop : Kind
  CallRel : Kind
  CallInd : Bool → Kind
  JmpRel : Kind
  JmpInd : Bool → Kind
  Jcc : Kind
  RetImm : Kind
  Incsspq : Kind
  Rdsspq : Kind
  Rstorssp : Kind
  Clrssbsy : Kind
  Wrssq : Kind
  Wrussq : Kind
  Plain : Instr → Kind

-- up to three prefixes, REX, up to two bytes before the opcode, the opcode, ModRM, immediate
pub record Form : Type 0 where
  pub first : Option Pattern
  pub second : Option Pattern
  pub third : Option Pattern
  pub wide : Wide
  pub escape : Option Pattern
  pub escape2 : Option Pattern
  pub opcode : Pattern
  pub modrm : Option Pattern
  pub imm : Imm
  pub kind : Kind

-- one byte; an opcode with a register, an operation or a condition in it
abbrev pub byte : ℕ → Pattern
byte b = record { mask = 0xff; value = b; below = 256 }

abbrev pub plus_reg : ℕ → Pattern
plus_reg b = record { mask = 0xf8; value = b; below = 256 }

abbrev pub plus_op : ℕ → Pattern
plus_op b = record { mask = 0xc7; value = b; below = 256 }

abbrev pub plus_cond : ℕ → Pattern
plus_cond b = record { mask = 0xf0; value = b; below = 256 }

-- ModRM with a register (mod 3), with memory, with either
abbrev pub register : Pattern
register = record { mask = 0xc0; value = 0xc0; below = 256 }

abbrev pub memory : Pattern
memory = record { mask = 0; value = 0; below = 192 }

abbrev pub either : Pattern
either = record { mask = 0; value = 0; below = 256 }

-- the same with this number in the reg field
abbrev pub register/ : ℕ → Pattern
register/ n = record { mask = 0xf8; value = 0xc0 + 8 * n; below = 256 }

abbrev pub memory/ : ℕ → Pattern
memory/ n = record { mask = 0x38; value = 8 * n; below = 192 }

abbrev pub either/ : ℕ → Pattern
either/ n = record { mask = 0x38; value = 8 * n; below = 256 }

abbrev pub byte_nth : List ℕ → ℕ → Option Pattern
byte_nth [] n = None
byte_nth (b ∷ bs) zero = Some (byte b)
byte_nth (b ∷ bs) (suc n) = byte_nth bs n

-- prefixes, REX, bytes before the opcode, opcode, ModRM, immediate, what it spells
abbrev pub row : List ℕ → Wide → List ℕ → Pattern → Option Pattern → Imm → Kind → Form
row prefixes wide escapes opcode modrm imm kind = record {
  first = byte_nth prefixes 0;
  second = byte_nth prefixes 1;
  third = byte_nth prefixes 2;
  wide = wide;
  escape = byte_nth escapes 0;
  escape2 = byte_nth escapes 1;
  opcode = opcode;
  modrm = modrm;
  imm = imm;
  kind = kind;
}
