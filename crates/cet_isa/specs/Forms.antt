-- The table of instructions: every form that an instruction is spelled in, in groups by what it does. Source: Intel SDM
-- volume 2, the opcode columns of the instruction reference, narrowed to the forms that the machine takes.
-- Above each row stand its bytes in the manual's notation, without a REX prefix that may be missing, and what they spell:
-- +r, +op and +cc are a register, an operation or a condition in the opcode, /r is ModRM, /5 ModRM with 5 in its reg
-- field, and ib, iw, id and iq are immediates of 1, 2, 4 and 8 bytes.
use Rattle.std.specs.Prelude.{true, false, List, [], ◌∷◌, Some, None}
use Rattle.cet_isa.specs.declared.instructions.Instr.TheVariants as instr
use Rattle.cet_isa.specs.Form.{Form, row, byte, plus_op, plus_reg, plus_cond, register, memory, either, register/, memory/, either/, Sized, Set, Clear, Ignored, Never, NoImm, Byte, Word, Dword, Qword}
use Rattle.cet_isa.specs.Form as kind

-- ---- operations of two operands

-- 01+op /r  op r, r
abbrev pub alu_rm_reg : Form
alu_rm_reg = row [] Sized [] (plus_op 0x01) (Some register) NoImm kind.AluRmReg

-- 39 /r  cmp m, r
abbrev pub cmp_mem_reg : Form
cmp_mem_reg = row [] Sized [] (byte 0x39) (Some memory) NoImm kind.AluRmReg

-- 03+op /r  op r, rm
abbrev pub alu_reg_rm : Form
alu_reg_rm = row [] Sized [] (plus_op 0x03) (Some either) NoImm kind.AluRegRm

-- 83 /r ib  op r, i8
abbrev pub alu_reg_imm8 : Form
alu_reg_imm8 = row [] Sized [] (byte 0x83) (Some register) Byte kind.AluRmImm

-- 81 /r id  op r, i32
abbrev pub alu_reg_imm32 : Form
alu_reg_imm32 = row [] Sized [] (byte 0x81) (Some register) Dword kind.AluRmImm

-- 05+op id  op rax, i32
abbrev pub alu_rax_imm32 : Form
alu_rax_imm32 = row [] Sized [] (plus_op 0x05) None Dword kind.AluRaxImm

-- 83 /7 ib  cmp m, i8
abbrev pub cmp_mem_imm8 : Form
cmp_mem_imm8 = row [] Sized [] (byte 0x83) (Some (memory/ 7)) Byte kind.AluRmImm

-- 81 /7 id  cmp m, i32
abbrev pub cmp_mem_imm32 : Form
cmp_mem_imm32 = row [] Sized [] (byte 0x81) (Some (memory/ 7)) Dword kind.AluRmImm

-- 85 /r  test rm, r
abbrev pub test_rm_reg : Form
test_rm_reg = row [] Sized [] (byte 0x85) (Some either) NoImm kind.TestRmReg

-- F7 /0 id  test rm, i32
abbrev pub test_rm_imm32 : Form
test_rm_imm32 = row [] Sized [] (byte 0xf7) (Some (either/ 0)) Dword kind.TestRmImm

-- A9 id  test rax, i32
abbrev pub test_rax_imm32 : Form
test_rax_imm32 = row [] Sized [] (byte 0xa9) None Dword kind.TestRaxImm

-- ---- moves

-- 89 /r  mov r, r
abbrev pub mov_reg_reg : Form
mov_reg_reg = row [] Sized [] (byte 0x89) (Some register) NoImm kind.MovRmReg

-- REX.W 89 /r  mov m, r64
abbrev pub mov_mem_reg : Form
mov_mem_reg = row [] Set [] (byte 0x89) (Some memory) NoImm kind.MovRmReg

-- 8B /r  mov r, rm
abbrev pub mov_reg_rm : Form
mov_reg_rm = row [] Sized [] (byte 0x8b) (Some either) NoImm kind.MovRegRm

-- B8+r id  mov r32, i32
abbrev pub mov_reg_imm32 : Form
mov_reg_imm32 = row [] Clear [] (plus_reg 0xb8) None Dword kind.MovRegImm

-- C7 /0 id  mov r32, i32
abbrev pub mov_dword_reg_imm32 : Form
mov_dword_reg_imm32 = row [] Clear [] (byte 0xc7) (Some (register/ 0)) Dword kind.MovRmImm

-- REX.W C7 /0 id  mov rm, i32
abbrev pub mov_qword_rm_imm32 : Form
mov_qword_rm_imm32 = row [] Set [] (byte 0xc7) (Some (either/ 0)) Dword kind.MovRmImm

-- REX.W B8+r iq  mov r64, u64
abbrev pub mov_wide : Form
mov_wide = row [] Set [] (plus_reg 0xb8) None Qword kind.MovWide

-- 0F B6 /r  movzx r64, byte m
abbrev pub movzx_byte : Form
movzx_byte = row [] Ignored (0x0f ∷ []) (byte 0xb6) (Some memory) NoImm kind.MovZero8

-- REX.W 63 /r  movsxd r64, rm32
abbrev pub movsxd : Form
movsxd = row [] Set [] (byte 0x63) (Some either) NoImm kind.MovSign32

-- 8D /r  lea r, m
abbrev pub lea : Form
lea = row [] Sized [] (byte 0x8d) (Some memory) NoImm kind.Lea

-- REX.W 87 /r  xchg rm, r64
abbrev pub xchg : Form
xchg = row [] Set [] (byte 0x87) (Some either) NoImm kind.Xchg

-- ---- locked exchanges

-- F0 REX.W 0F C1 /r  lock xadd m, r64
abbrev pub lock_xadd : Form
lock_xadd = row (0xf0 ∷ []) Set (0x0f ∷ []) (byte 0xc1) (Some memory) NoImm kind.LockXadd

-- F0 REX.W 0F B1 /r  lock cmpxchg m, r64
abbrev pub lock_cmpxchg : Form
lock_cmpxchg = row (0xf0 ∷ []) Set (0x0f ∷ []) (byte 0xb1) (Some memory) NoImm kind.LockCmpxchg

-- ---- operations of one register

-- FF /0  inc r
abbrev pub inc : Form
inc = row [] Sized [] (byte 0xff) (Some (register/ 0)) NoImm kind.Inc

-- FF /1  dec r
abbrev pub dec : Form
dec = row [] Sized [] (byte 0xff) (Some (register/ 1)) NoImm kind.Dec

-- F7 /2  not r
abbrev pub not_reg : Form
not_reg = row [] Sized [] (byte 0xf7) (Some (register/ 2)) NoImm kind.Not

-- F7 /3  neg r
abbrev pub neg_reg : Form
neg_reg = row [] Sized [] (byte 0xf7) (Some (register/ 3)) NoImm kind.Neg

-- 0F AF /r  imul r, rm
abbrev pub imul : Form
imul = row [] Sized (0x0f ∷ []) (byte 0xaf) (Some either) NoImm kind.Imul

-- C1 /4 ib  shl r, u8
abbrev pub shl_number : Form
shl_number = row [] Sized [] (byte 0xc1) (Some (register/ 4)) Byte (kind.Shl kind.Given)

-- C1 /5 ib  shr r, u8
abbrev pub shr_number : Form
shr_number = row [] Sized [] (byte 0xc1) (Some (register/ 5)) Byte (kind.Shr kind.Given)

-- C1 /7 ib  sar r, u8
abbrev pub sar_number : Form
sar_number = row [] Sized [] (byte 0xc1) (Some (register/ 7)) Byte (kind.Sar kind.Given)

-- D1 /4  shl r, 1
abbrev pub shl_one : Form
shl_one = row [] Sized [] (byte 0xd1) (Some (register/ 4)) NoImm (kind.Shl kind.One)

-- D1 /5  shr r, 1
abbrev pub shr_one : Form
shr_one = row [] Sized [] (byte 0xd1) (Some (register/ 5)) NoImm (kind.Shr kind.One)

-- D1 /7  sar r, 1
abbrev pub sar_one : Form
sar_one = row [] Sized [] (byte 0xd1) (Some (register/ 7)) NoImm (kind.Sar kind.One)

-- D3 /4  shl r, cl
abbrev pub shl_cl : Form
shl_cl = row [] Sized [] (byte 0xd3) (Some (register/ 4)) NoImm (kind.Shl kind.InCl)

-- D3 /5  shr r, cl
abbrev pub shr_cl : Form
shr_cl = row [] Sized [] (byte 0xd3) (Some (register/ 5)) NoImm (kind.Shr kind.InCl)

-- D3 /7  sar r, cl
abbrev pub sar_cl : Form
sar_cl = row [] Sized [] (byte 0xd3) (Some (register/ 7)) NoImm (kind.Sar kind.InCl)

-- ---- conditional moves

-- 0F 40+cc /r  cmovcc r, rm
abbrev pub cmov : Form
cmov = row [] Sized (0x0f ∷ []) (plus_cond 0x40) (Some either) NoImm kind.Cmov

-- ---- the stack

-- 50+r  push r64
abbrev pub push_reg : Form
push_reg = row [] Ignored [] (plus_reg 0x50) None NoImm kind.PushReg

-- 6A ib  push i8
abbrev pub push_imm8 : Form
push_imm8 = row [] Never [] (byte 0x6a) None Byte kind.PushImm

-- 68 id  push i32
abbrev pub push_imm32 : Form
push_imm32 = row [] Never [] (byte 0x68) None Dword kind.PushImm

-- FF /6  push m
abbrev pub push_mem : Form
push_mem = row [] Ignored [] (byte 0xff) (Some (memory/ 6)) NoImm kind.PushMem

-- 58+r  pop r64
abbrev pub pop_reg : Form
pop_reg = row [] Ignored [] (plus_reg 0x58) None NoImm kind.Pop

-- C9  leave
abbrev pub leave : Form
leave = row [] Never [] (byte 0xc9) None NoImm (kind.Plain instr.Leave)

-- ---- calls, jumps and returns

-- E8 id  call d32
abbrev pub call_rel : Form
call_rel = row [] Never [] (byte 0xe8) None Dword kind.CallRel

-- FF /2  call rm
abbrev pub call_rm : Form
call_rm = row [] Ignored [] (byte 0xff) (Some (either/ 2)) NoImm (kind.CallInd false)

-- 3E FF /2  notrack call rm
abbrev pub notrack_call_rm : Form
notrack_call_rm = row (0x3e ∷ []) Ignored [] (byte 0xff) (Some (either/ 2)) NoImm (kind.CallInd true)

-- E9 id  jmp d32
abbrev pub jmp_rel32 : Form
jmp_rel32 = row [] Never [] (byte 0xe9) None Dword kind.JmpRel

-- EB ib  jmp d8
abbrev pub jmp_rel8 : Form
jmp_rel8 = row [] Never [] (byte 0xeb) None Byte kind.JmpRel

-- FF /4  jmp rm
abbrev pub jmp_rm : Form
jmp_rm = row [] Ignored [] (byte 0xff) (Some (either/ 4)) NoImm (kind.JmpInd false)

-- 3E FF /4  notrack jmp rm
abbrev pub notrack_jmp_rm : Form
notrack_jmp_rm = row (0x3e ∷ []) Ignored [] (byte 0xff) (Some (either/ 4)) NoImm (kind.JmpInd true)

-- 0F 80+cc id  jcc d32
abbrev pub jcc_rel32 : Form
jcc_rel32 = row [] Never (0x0f ∷ []) (plus_cond 0x80) None Dword kind.Jcc

-- 70+cc ib  jcc d8
abbrev pub jcc_rel8 : Form
jcc_rel8 = row [] Never [] (plus_cond 0x70) None Byte kind.Jcc

-- C3  ret
abbrev pub ret : Form
ret = row [] Never [] (byte 0xc3) None NoImm (kind.Plain instr.Ret)

-- C2 iw  ret u16
abbrev pub ret_imm16 : Form
ret_imm16 = row [] Never [] (byte 0xc2) None Word kind.RetImm

-- ---- instructions without an operand

-- 90  nop
abbrev pub nop : Form
nop = row [] Never [] (byte 0x90) None NoImm (kind.Plain instr.Nop)

-- 66 90  nop
abbrev pub nop_66 : Form
nop_66 = row (0x66 ∷ []) Never [] (byte 0x90) None NoImm (kind.Plain instr.Nop)

-- 0F 1F /0  nop rm
abbrev pub nop_rm : Form
nop_rm = row [] Never (0x0f ∷ []) (byte 0x1f) (Some (either/ 0)) NoImm (kind.Plain instr.Nop)

-- 66 0F 1F /0  nop rm
abbrev pub nop_66_rm : Form
nop_66_rm = row (0x66 ∷ []) Never (0x0f ∷ []) (byte 0x1f) (Some (either/ 0)) NoImm (kind.Plain instr.Nop)

-- 66 2E 0F 1F /0  nop rm
abbrev pub nop_66_2e_rm : Form
nop_66_2e_rm = row (0x66 ∷ 0x2e ∷ []) Never (0x0f ∷ []) (byte 0x1f) (Some (either/ 0)) NoImm (kind.Plain instr.Nop)

-- 66 66 2E 0F 1F /0  nop rm
abbrev pub nop_66_66_2e_rm : Form
nop_66_66_2e_rm = row (0x66 ∷ 0x66 ∷ 0x2e ∷ []) Never (0x0f ∷ []) (byte 0x1f) (Some (either/ 0)) NoImm (kind.Plain instr.Nop)

-- F3 90  pause
abbrev pub pause : Form
pause = row (0xf3 ∷ []) Never [] (byte 0x90) None NoImm (kind.Plain instr.Pause)

-- F3 0F 1E FA  endbr64
abbrev pub endbr64 : Form
endbr64 = row (0xf3 ∷ []) Never (0x0f ∷ 0x1e ∷ []) (byte 0xfa) None NoImm (kind.Plain instr.Endbr64)

-- 0F 0B  ud2
abbrev pub ud2 : Form
ud2 = row [] Never (0x0f ∷ []) (byte 0x0b) None NoImm (kind.Plain instr.Ud2)

-- 0F 05  syscall
abbrev pub syscall : Form
syscall = row [] Never (0x0f ∷ []) (byte 0x05) None NoImm (kind.Plain instr.Syscall)

-- F9  stc
abbrev pub stc : Form
stc = row [] Never [] (byte 0xf9) None NoImm (kind.Plain instr.Stc)

-- F8  clc
abbrev pub clc : Form
clc = row [] Never [] (byte 0xf8) None NoImm (kind.Plain instr.Clc)

-- ---- the shadow stack

-- F3 REX.W 0F AE /5  incsspq r64
abbrev pub incsspq : Form
incsspq = row (0xf3 ∷ []) Set (0x0f ∷ []) (byte 0xae) (Some (register/ 5)) NoImm kind.Incsspq

-- F3 REX.W 0F 1E /1  rdsspq r64
abbrev pub rdsspq : Form
rdsspq = row (0xf3 ∷ []) Set (0x0f ∷ []) (byte 0x1e) (Some (register/ 1)) NoImm kind.Rdsspq

-- F3 0F 01 /5  rstorssp m
abbrev pub rstorssp : Form
rstorssp = row (0xf3 ∷ []) Ignored (0x0f ∷ []) (byte 0x01) (Some (memory/ 5)) NoImm kind.Rstorssp

-- F3 0F 01 EA  saveprevssp
abbrev pub saveprevssp : Form
saveprevssp = row (0xf3 ∷ []) Never (0x0f ∷ 0x01 ∷ []) (byte 0xea) None NoImm (kind.Plain instr.Saveprevssp)

-- F3 0F 01 E8  setssbsy
abbrev pub setssbsy : Form
setssbsy = row (0xf3 ∷ []) Never (0x0f ∷ 0x01 ∷ []) (byte 0xe8) None NoImm (kind.Plain instr.Setssbsy)

-- F3 0F AE /6  clrssbsy m
abbrev pub clrssbsy : Form
clrssbsy = row (0xf3 ∷ []) Ignored (0x0f ∷ []) (byte 0xae) (Some (memory/ 6)) NoImm kind.Clrssbsy

-- REX.W 0F 38 F6 /r  wrssq m, r64
abbrev pub wrssq : Form
wrssq = row [] Set (0x0f ∷ 0x38 ∷ []) (byte 0xf6) (Some memory) NoImm kind.Wrssq

-- 66 REX.W 0F 38 F5 /r  wrussq m, r64
abbrev pub wrussq : Form
wrussq = row (0x66 ∷ []) Set (0x0f ∷ 0x38 ∷ []) (byte 0xf5) (Some memory) NoImm kind.Wrussq

-- ---- the table

abbrev pub forms : List Form
forms =
    alu_rm_reg
    ∷ cmp_mem_reg
    ∷ alu_reg_rm
    ∷ alu_reg_imm8
    ∷ alu_reg_imm32
    ∷ alu_rax_imm32
    ∷ cmp_mem_imm8
    ∷ cmp_mem_imm32
    ∷ test_rm_reg
    ∷ test_rm_imm32
    ∷ test_rax_imm32
    ∷ mov_reg_reg
    ∷ mov_mem_reg
    ∷ mov_reg_rm
    ∷ mov_reg_imm32
    ∷ mov_dword_reg_imm32
    ∷ mov_qword_rm_imm32
    ∷ mov_wide
    ∷ movzx_byte
    ∷ movsxd
    ∷ lea
    ∷ xchg
    ∷ lock_xadd
    ∷ lock_cmpxchg
    ∷ inc
    ∷ dec
    ∷ not_reg
    ∷ neg_reg
    ∷ imul
    ∷ shl_number
    ∷ shr_number
    ∷ sar_number
    ∷ shl_one
    ∷ shr_one
    ∷ sar_one
    ∷ shl_cl
    ∷ shr_cl
    ∷ sar_cl
    ∷ cmov
    ∷ push_reg
    ∷ push_imm8
    ∷ push_imm32
    ∷ push_mem
    ∷ pop_reg
    ∷ leave
    ∷ call_rel
    ∷ call_rm
    ∷ notrack_call_rm
    ∷ jmp_rel32
    ∷ jmp_rel8
    ∷ jmp_rm
    ∷ notrack_jmp_rm
    ∷ jcc_rel32
    ∷ jcc_rel8
    ∷ ret
    ∷ ret_imm16
    ∷ nop
    ∷ nop_66
    ∷ nop_rm
    ∷ nop_66_rm
    ∷ nop_66_2e_rm
    ∷ nop_66_66_2e_rm
    ∷ pause
    ∷ endbr64
    ∷ ud2
    ∷ syscall
    ∷ stc
    ∷ clc
    ∷ incsspq
    ∷ rdsspq
    ∷ rstorssp
    ∷ saveprevssp
    ∷ setssbsy
    ∷ clrssbsy
    ∷ wrssq
    ∷ wrussq
    ∷ []
