-- The names of registers, conditions and operations. Source: Intel SDM volume 1 (chapter 3) and volume 2.
use Rattle.std.specs.Prelude.{ℕ, List, Option, codes}
use Rattle.std.specs.List.{find}
use Rattle.std.specs.Str.{bytes_eq}
use Rattle.cet_isa.specs.Code.{registers, conditions, operations}
use Rattle.cet_isa.specs.declared.instructions.AluOp.{AluOp}
use Rattle.cet_isa.specs.declared.instructions.AluOp.TheVariants.{Add, Or, Adc, Sbb, And, Sub, Xor, Cmp}
use Rattle.cet_isa.specs.declared.instructions.Cond.{Cond}
use Rattle.cet_isa.specs.declared.instructions.Cond.TheVariants as conds
use Rattle.cet_isa.specs.declared.instructions.Reg.{Reg}
use Rattle.cet_isa.specs.declared.instructions.Reg.TheVariants.{Rax, Rcx, Rdx, Rbx, Rsp, Rbp, Rsi, Rdi, R8, R9, R10, R11, R12, R13, R14, R15}
use Rattle.cet_isa.specs.declared.instructions.Size.{Size}
use Rattle.cet_isa.specs.declared.instructions.Size.TheVariants.{Dword, Qword}

unfoldable pub register_name : Size → Reg → List ℕ
register_name Qword Rax = codes "rax"
register_name Qword Rcx = codes "rcx"
register_name Qword Rdx = codes "rdx"
register_name Qword Rbx = codes "rbx"
register_name Qword Rsp = codes "rsp"
register_name Qword Rbp = codes "rbp"
register_name Qword Rsi = codes "rsi"
register_name Qword Rdi = codes "rdi"
register_name Qword R8 = codes "r8"
register_name Qword R9 = codes "r9"
register_name Qword R10 = codes "r10"
register_name Qword R11 = codes "r11"
register_name Qword R12 = codes "r12"
register_name Qword R13 = codes "r13"
register_name Qword R14 = codes "r14"
register_name Qword R15 = codes "r15"
register_name Dword Rax = codes "eax"
register_name Dword Rcx = codes "ecx"
register_name Dword Rdx = codes "edx"
register_name Dword Rbx = codes "ebx"
register_name Dword Rsp = codes "esp"
register_name Dword Rbp = codes "ebp"
register_name Dword Rsi = codes "esi"
register_name Dword Rdi = codes "edi"
register_name Dword R8 = codes "r8d"
register_name Dword R9 = codes "r9d"
register_name Dword R10 = codes "r10d"
register_name Dword R11 = codes "r11d"
register_name Dword R12 = codes "r12d"
register_name Dword R13 = codes "r13d"
register_name Dword R14 = codes "r14d"
register_name Dword R15 = codes "r15d"

unfoldable pub condition_name : Cond → List ℕ
condition_name conds.O = codes "o"
condition_name conds.No = codes "no"
condition_name conds.B = codes "b"
condition_name conds.Ae = codes "ae"
condition_name conds.E = codes "e"
condition_name conds.Ne = codes "ne"
condition_name conds.Be = codes "be"
condition_name conds.A = codes "a"
condition_name conds.S = codes "s"
condition_name conds.Ns = codes "ns"
condition_name conds.P = codes "p"
condition_name conds.Np = codes "np"
condition_name conds.L = codes "l"
condition_name conds.Ge = codes "ge"
condition_name conds.Le = codes "le"
condition_name conds.G = codes "g"

unfoldable pub operation_name : AluOp → List ℕ
operation_name Add = codes "add"
operation_name Or = codes "or"
operation_name Adc = codes "adc"
operation_name Sbb = codes "sbb"
operation_name And = codes "and"
operation_name Sub = codes "sub"
operation_name Xor = codes "xor"
operation_name Cmp = codes "cmp"

-- ---- from a name

-- the register that has the name at this size
unfoldable pub register_named : Size → List ℕ → Option Reg
register_named size w = find (λ r. bytes_eq w (register_name size r)) registers

unfoldable pub condition_named : List ℕ → Option Cond
condition_named w = find (λ c. bytes_eq w (condition_name c)) conditions

unfoldable pub operation_named : List ℕ → Option AluOp
operation_named w = find (λ op. bytes_eq w (operation_name op)) operations
