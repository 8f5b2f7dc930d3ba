-- The numbers by which an encoding names registers, operations and conditions. Source: Intel SDM volume 2, appendix B.
use Rattle.std.specs.Prelude.{ℕ, List, [], ◌∷◌, slice_index_or}
use Rattle.cet_isa.specs.declared.instructions.Reg.{Reg}
use Rattle.cet_isa.specs.declared.instructions.Reg.TheVariants as regs
use Rattle.cet_isa.specs.declared.instructions.AluOp.{AluOp}
use Rattle.cet_isa.specs.declared.instructions.AluOp.TheVariants as ops
use Rattle.cet_isa.specs.declared.instructions.Cond.{Cond}
use Rattle.cet_isa.specs.declared.instructions.Cond.TheVariants as conds

-- in the order of their numbers
abbrev pub registers : List Reg
registers = regs.Rax ∷ regs.Rcx ∷ regs.Rdx ∷ regs.Rbx ∷ regs.Rsp ∷ regs.Rbp ∷ regs.Rsi ∷ regs.Rdi ∷ regs.R8 ∷ regs.R9 ∷ regs.R10 ∷ regs.R11 ∷ regs.R12 ∷ regs.R13 ∷ regs.R14 ∷ regs.R15 ∷ []

abbrev pub reg_at : ℕ → Reg
reg_at n = slice_index_or registers n regs.R15

abbrev pub reg_number : Reg → ℕ
reg_number regs.Rax = 0
reg_number regs.Rcx = 1
reg_number regs.Rdx = 2
reg_number regs.Rbx = 3
reg_number regs.Rsp = 4
reg_number regs.Rbp = 5
reg_number regs.Rsi = 6
reg_number regs.Rdi = 7
reg_number regs.R8 = 8
reg_number regs.R9 = 9
reg_number regs.R10 = 10
reg_number regs.R11 = 11
reg_number regs.R12 = 12
reg_number regs.R13 = 13
reg_number regs.R14 = 14
reg_number regs.R15 = 15

abbrev pub operations : List AluOp
operations = ops.Add ∷ ops.Or ∷ ops.Adc ∷ ops.Sbb ∷ ops.And ∷ ops.Sub ∷ ops.Xor ∷ ops.Cmp ∷ []

abbrev pub alu_at : ℕ → AluOp
alu_at n = slice_index_or operations n ops.Cmp

abbrev pub op_number : AluOp → ℕ
op_number ops.Add = 0
op_number ops.Or = 1
op_number ops.Adc = 2
op_number ops.Sbb = 3
op_number ops.And = 4
op_number ops.Sub = 5
op_number ops.Xor = 6
op_number ops.Cmp = 7

abbrev pub conditions : List Cond
conditions = conds.O ∷ conds.No ∷ conds.B ∷ conds.Ae ∷ conds.E ∷ conds.Ne ∷ conds.Be ∷ conds.A ∷ conds.S ∷ conds.Ns ∷ conds.P ∷ conds.Np ∷ conds.L ∷ conds.Ge ∷ conds.Le ∷ conds.G ∷ []

abbrev pub cond_at : ℕ → Cond
cond_at n = slice_index_or conditions n conds.G

abbrev pub cond_number : Cond → ℕ
cond_number conds.O = 0
cond_number conds.No = 1
cond_number conds.B = 2
cond_number conds.Ae = 3
cond_number conds.E = 4
cond_number conds.Ne = 5
cond_number conds.Be = 6
cond_number conds.A = 7
cond_number conds.S = 8
cond_number conds.Ns = 9
cond_number conds.P = 10
cond_number conds.Np = 11
cond_number conds.L = 12
cond_number conds.Ge = 13
cond_number conds.Le = 14
cond_number conds.G = 15
