-- The code's table, seen as the table of instructions. Source: own.
use Rattle.std.specs.Prelude.{◌≡◌, ℕ, List, Option, Some, None, Result, Ok, Err}
use Rattle.cet_decode.specs.declared.forms.Pattern as pattern
use Rattle.cet_decode.specs.declared.forms.Wide as wide
use Rattle.cet_decode.specs.declared.forms.Wide.TheVariants as wides
use Rattle.cet_decode.specs.declared.forms.Rex as rex
use Rattle.cet_decode.specs.declared.forms.Rex.TheVariants as rexes
use Rattle.cet_decode.specs.declared.forms.Imm as imm
use Rattle.cet_decode.specs.declared.forms.Imm.TheVariants as imms
use Rattle.cet_decode.specs.declared.forms.Kind as kind
use Rattle.cet_decode.specs.declared.forms.Kind.TheVariants as kinds
use Rattle.cet_decode.specs.declared.forms.Form as form
use Rattle.cet_decode.specs.declared.kinds.Amount as amount
use Rattle.cet_decode.specs.declared.kinds.Amount.TheVariants as amounts
use Rattle.cet_decode.specs.declared.kinds.Arith as arith
use Rattle.cet_decode.specs.declared.kinds.Arith.TheVariants as ariths
use Rattle.cet_decode.specs.declared.kinds.Unary as unary
use Rattle.cet_decode.specs.declared.kinds.Unary.TheVariants as unarys
use Rattle.cet_decode.specs.declared.kinds.Move as move
use Rattle.cet_decode.specs.declared.kinds.Move.TheVariants as moves
use Rattle.cet_decode.specs.declared.kinds.Flow as flow
use Rattle.cet_decode.specs.declared.kinds.Flow.TheVariants as flows
use Rattle.cet_decode.specs.declared.kinds.Shadow as shadow
use Rattle.cet_decode.specs.declared.kinds.Shadow.TheVariants as shadows
use Rattle.cet_decode.specs.declared.fields.Parts.{Parts}
use Rattle.cet_decode.specs.declared.reading.Miss as miss
use Rattle.cet_decode.specs.declared.reading.Miss.TheVariants as misses
use Rattle.cet_isa.specs.Form.{Pattern, Wide, Rex, Imm, Amount, Kind, Form}
use Rattle.cet_isa.specs.Form as table
use Rattle.cet_isa.specs.declared.instructions.Instr.{Instr}
use Rattle.cet_isa.specs.Meaning.{Fields, operand_of, instr_of}
use Rattle.cet_isa.specs.Reader.{Miss, Ends, Differs}

abbrev pub pattern_view : pattern.Pattern → Pattern
pattern_view x = record { mask = x.mask; value = x.value; below = x.below }

abbrev pub place_view : Option pattern.Pattern → Option Pattern
place_view None = None
place_view (Some x) = Some (pattern_view x)

abbrev pub wide_view : wide.Wide → Wide
wide_view wides.Sized = table.Sized
wide_view wides.Set = table.Set
wide_view wides.Clear = table.Clear
wide_view wides.Ignored = table.Ignored
wide_view wides.Never = table.Never

abbrev pub rex_view : rex.Rex → Rex
rex_view rexes.Absent = table.NoRex
rex_view rexes.Clear = table.ClearRex
rex_view rexes.Set = table.SetRex

abbrev pub imm_view : imm.Imm → Imm
imm_view imms.Absent = table.NoImm
imm_view imms.Byte = table.Byte
imm_view imms.Word = table.Word
imm_view imms.Dword = table.Dword
imm_view imms.Qword = table.Qword

abbrev pub amount_view : amount.Amount → Amount
amount_view amounts.Given = table.Given
amount_view amounts.One = table.One
amount_view amounts.InCl = table.InCl

abbrev pub arith_view : arith.Arith → Kind
arith_view ariths.AluRmReg = table.AluRmReg
arith_view ariths.AluRegRm = table.AluRegRm
arith_view ariths.AluRmImm = table.AluRmImm
arith_view ariths.AluRaxImm = table.AluRaxImm
arith_view ariths.TestRmReg = table.TestRmReg
arith_view ariths.TestRmImm = table.TestRmImm
arith_view ariths.TestRaxImm = table.TestRaxImm
arith_view ariths.Imul = table.Imul

abbrev pub unary_view : unary.Unary → Kind
unary_view unarys.Inc = table.Inc
unary_view unarys.Dec = table.Dec
unary_view unarys.Not = table.Not
unary_view unarys.Neg = table.Neg
unary_view (unarys.Shl a) = table.Shl (amount_view a)
unary_view (unarys.Shr a) = table.Shr (amount_view a)
unary_view (unarys.Sar a) = table.Sar (amount_view a)

abbrev pub move_view : move.Move → Kind
move_view moves.MovRmReg = table.MovRmReg
move_view moves.MovRegRm = table.MovRegRm
move_view moves.MovRegImm = table.MovRegImm
move_view moves.MovRmImm = table.MovRmImm
move_view moves.MovWide = table.MovWide
move_view moves.MovZero8 = table.MovZero8
move_view moves.MovSign32 = table.MovSign32
move_view moves.Lea = table.Lea
move_view moves.Xchg = table.Xchg
move_view moves.LockXadd = table.LockXadd
move_view moves.LockCmpxchg = table.LockCmpxchg
move_view moves.Cmov = table.Cmov

abbrev pub flow_view : flow.Flow → Kind
flow_view flows.PushReg = table.PushReg
flow_view flows.PushImm = table.PushImm
flow_view flows.PushMem = table.PushMem
flow_view flows.Pop = table.Pop
flow_view flows.CallRel = table.CallRel
flow_view (flows.CallInd notrack) = table.CallInd notrack
flow_view flows.JmpRel = table.JmpRel
flow_view (flows.JmpInd notrack) = table.JmpInd notrack
flow_view flows.Jcc = table.Jcc
flow_view flows.RetImm = table.RetImm

abbrev pub shadow_view : shadow.Shadow → Kind
shadow_view shadows.Incsspq = table.Incsspq
shadow_view shadows.Rdsspq = table.Rdsspq
shadow_view shadows.Rstorssp = table.Rstorssp
shadow_view shadows.Clrssbsy = table.Clrssbsy
shadow_view shadows.Wrssq = table.Wrssq
shadow_view shadows.Wrussq = table.Wrussq

abbrev pub kind_view : kind.Kind → Kind
kind_view (kinds.Arith x) = arith_view x
kind_view (kinds.Unary x) = unary_view x
kind_view (kinds.Move x) = move_view x
kind_view (kinds.Flow x) = flow_view x
kind_view (kinds.Shadow x) = shadow_view x
kind_view (kinds.Plain i) = table.Plain i

abbrev pub form_view : form.Form → Form
form_view x = record {
  first = place_view x.first;
  second = place_view x.second;
  third = place_view x.third;
  wide = wide_view x.wide;
  escape = place_view x.escape;
  escape2 = place_view x.escape2;
  opcode = pattern_view x.opcode;
  modrm = place_view x.modrm;
  imm = imm_view x.imm;
  kind = kind_view x.kind;
}

-- the fields with the immediate's bytes
abbrev pub fields_view : Parts → List ℕ → Fields
fields_view x imm = record { rex = x.rex; opcode = x.opcode; modrm = x.modrm; rm = operand_of x.rex x.modrm x.sib x.disp; imm = imm }

-- the instruction of a row that was found, and the bytes behind it
abbrev pub found_view : kind.Kind → Parts → List ℕ → List ℕ → Instr × List ℕ
found_view k x imm rest = (instr_of (kind_view k) (fields_view x imm), rest)

abbrev pub miss_view : miss.Miss → Miss
miss_view misses.Ends = Ends
miss_view misses.Differs = Differs

-- what a function returned, seen by view, is what the reader gives
abbrev pub Gives : {X Y : Type 0} → (X → Y) → Result X miss.Miss → Result Y Miss → Type 0
Gives view (Ok x) read = read ≡ Ok (view x)
Gives view (Err m) read = read ≡ Err (miss_view m)
