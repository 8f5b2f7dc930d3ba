-- Canonical spellings, as the GNU assembler writes them.
use Rattle.std.proofs.Common.{◌≡◌, [], ◌∷◌, Some, None, true, refl, pos, negsuc}
use Rattle.cet_isa.specs.declared.instructions.Reg.TheVariants as regs
use Rattle.cet_isa.specs.declared.instructions.AluOp.TheVariants as ops
use Rattle.cet_isa.specs.declared.instructions.Cond.TheVariants as conds
use Rattle.cet_isa.specs.declared.instructions.Size.TheVariants.{Dword, Qword}
use Rattle.cet_isa.specs.declared.instructions.Base.TheVariants as bases
use Rattle.cet_isa.specs.declared.instructions.Count.TheVariants as counts
use Rattle.cet_isa.specs.declared.instructions.Operand.TheVariants as operands
use Rattle.cet_isa.specs.declared.instructions.Instr.TheVariants as instrs
use Rattle.cet_isa.specs.Canonical.{canonical_spelling}

add_eax_5 : canonical_spelling (instrs.Alu ops.Add Dword (operands.Reg regs.Rax) (operands.Imm (pos 5))) ≡ 0x83 ∷ 0xc0 ∷ 0x05 ∷ []
add_eax_5 = refl

mov_rax_5 : canonical_spelling (instrs.Mov Qword (operands.Reg regs.Rax) (operands.Imm (pos 5))) ≡ 0x48 ∷ 0xc7 ∷ 0xc0 ∷ 0x05 ∷ 0x00 ∷ 0x00 ∷ 0x00 ∷ []
mov_rax_5 = refl

mov_rcx_wide : canonical_spelling (instrs.MovWide regs.Rcx 0x200008ff8) ≡ 0x48 ∷ 0xb9 ∷ 0xf8 ∷ 0x8f ∷ 0x00 ∷ 0x00 ∷ 0x02 ∷ 0x00 ∷ 0x00 ∷ 0x00 ∷ []
mov_rcx_wide = refl

rstorssp_rbx : canonical_spelling (instrs.Rstorssp (record { base = (bases.Reg regs.Rbx); index = None; scale = 1; disp = pos 4088 })) ≡ 0xf3 ∷ 0x0f ∷ 0x01 ∷ 0xab ∷ 0xf8 ∷ 0x0f ∷ 0x00 ∷ 0x00 ∷ []
rstorssp_rbx = refl

push_1000 : canonical_spelling (instrs.Push (operands.Imm (pos 1000))) ≡ 0x68 ∷ 0xe8 ∷ 0x03 ∷ 0x00 ∷ 0x00 ∷ []
push_1000 = refl

mov_indexed : canonical_spelling (instrs.Mov Qword (operands.Mem (record { base = (bases.Reg regs.R12); index = Some regs.Rcx; scale = 8; disp = negsuc 7 })) (operands.Reg regs.R9)) ≡ 0x4d ∷ 0x89 ∷ 0x4c ∷ 0xcc ∷ 0xf8 ∷ []
mov_indexed = refl

lea_rip : canonical_spelling (instrs.Lea Qword regs.Rax (record { base = bases.Rip; index = None; scale = 1; disp = pos 5 })) ≡ 0x48 ∷ 0x8d ∷ 0x05 ∷ 0x05 ∷ 0x00 ∷ 0x00 ∷ 0x00 ∷ []
lea_rip = refl

cmp_rbp : canonical_spelling (instrs.Alu ops.Cmp Qword (operands.Mem (record { base = (bases.Reg regs.Rbp); index = None; scale = 1; disp = pos 0 })) (operands.Imm (pos 1))) ≡ 0x48 ∷ 0x83 ∷ 0x7d ∷ 0x00 ∷ 0x01 ∷ []
cmp_rbp = refl

mov_edi_7 : canonical_spelling (instrs.Mov Dword (operands.Reg regs.Rdi) (operands.Imm (pos 7))) ≡ 0xbf ∷ 0x07 ∷ 0x00 ∷ 0x00 ∷ 0x00 ∷ []
mov_edi_7 = refl

xchg_rsp : canonical_spelling (instrs.Xchg (operands.Mem (record { base = (bases.Reg regs.Rsp); index = None; scale = 1; disp = pos 0 })) regs.Rax) ≡ 0x48 ∷ 0x87 ∷ 0x04 ∷ 0x24 ∷ []
xchg_rsp = refl

cmpxchg_absolute : canonical_spelling (instrs.LockCmpxchg (record { base = bases.None; index = None; scale = 1; disp = pos 0x10 }) regs.Rbx) ≡ 0xf0 ∷ 0x48 ∷ 0x0f ∷ 0xb1 ∷ 0x1c ∷ 0x25 ∷ 0x10 ∷ 0x00 ∷ 0x00 ∷ 0x00 ∷ []
cmpxchg_absolute = refl

wrssq_r13 : canonical_spelling (instrs.Wrssq (record { base = (bases.Reg regs.R13); index = None; scale = 1; disp = pos 0 }) regs.R8) ≡ 0x4d ∷ 0x0f ∷ 0x38 ∷ 0xf6 ∷ 0x45 ∷ 0x00 ∷ []
wrssq_r13 = refl

sar_r10 : canonical_spelling (instrs.Sar Qword regs.R10 (counts.Number 3)) ≡ 0x49 ∷ 0xc1 ∷ 0xfa ∷ 0x03 ∷ []
sar_r10 = refl

notrack_jmp : canonical_spelling (instrs.JmpInd (operands.Mem (record { base = bases.None; index = Some regs.Rax; scale = 4; disp = pos 0x10 })) true) ≡ 0x3e ∷ 0xff ∷ 0x24 ∷ 0x85 ∷ 0x10 ∷ 0x00 ∷ 0x00 ∷ 0x00 ∷ []
notrack_jmp = refl

push_r15 : canonical_spelling (instrs.Push (operands.Reg regs.R15)) ≡ 0x41 ∷ 0x57 ∷ []
push_r15 = refl

cmovne_r8d : canonical_spelling (instrs.Cmov conds.Ne Dword regs.R8 (operands.Mem (record { base = (bases.Reg regs.Rsp); index = None; scale = 1; disp = pos 0 }))) ≡ 0x44 ∷ 0x0f ∷ 0x45 ∷ 0x04 ∷ 0x24 ∷ []
cmovne_r8d = refl

mov_ecx_ecx : canonical_spelling (instrs.Mov Dword (operands.Reg regs.Rcx) (operands.Reg regs.Rcx)) ≡ 0x89 ∷ 0xc9 ∷ []
mov_ecx_ecx = refl

sub_rdx_128 : canonical_spelling (instrs.Alu ops.Sub Qword (operands.Reg regs.Rdx) (operands.Imm (pos 0x80))) ≡ 0x48 ∷ 0x81 ∷ 0xea ∷ 0x80 ∷ 0x00 ∷ 0x00 ∷ 0x00 ∷ []
sub_rdx_128 = refl

incsspq_r9 : canonical_spelling (instrs.Incsspq regs.R9) ≡ 0xf3 ∷ 0x49 ∷ 0x0f ∷ 0xae ∷ 0xe9 ∷ []
incsspq_r9 = refl
