-- The words that begin an instruction or a directive. Source: Intel SDM volume 2; which of them there are is own.
use Rattle.std.specs.Prelude.{ℕ, nat_eq, if◌then◌else◌, List, [], ◌∷◌, length, drop, Option, Some, None, codes}
use Rattle.std.specs.List.{find, starts_with}
use Rattle.std.specs.Option.{option_or}
use Rattle.std.specs.Str.{bytes_eq}
use Rattle.cet_isa.specs.Names.{condition_named, operation_named}
use Rattle.cet_isa.specs.declared.instructions.AluOp.{AluOp}
use Rattle.cet_isa.specs.declared.instructions.Cond.{Cond}
use Rattle.cet_isa.specs.declared.instructions.Instr.TheVariants as instrs
use Rattle.cet_syntax.specs.declared.mnemonics.Mnemonic.{Mnemonic}
use Rattle.cet_syntax.specs.declared.mnemonics.Mnemonic.TheVariants as words

-- a word and what it begins
pub record Named : Type 0 where
  pub name : List ℕ
  pub mnemonic : Mnemonic

abbrev pub named : List ℕ → Mnemonic → Named
named name mnemonic = record { name = name; mnemonic = mnemonic }

abbrev pub named_mnemonics : List Named
named_mnemonics =
    named (codes "test") words.Test ∷ named (codes "mov") words.Mov ∷ named (codes "movabs") words.Movabs
    ∷ named (codes "movzx") words.Movzx ∷ named (codes "movsxd") words.Movsxd ∷ named (codes "lea") words.Lea
    ∷ named (codes "xchg") words.Xchg ∷ named (codes "imul") words.Imul
    ∷ named (codes "inc") words.Inc ∷ named (codes "dec") words.Dec ∷ named (codes "not") words.Not ∷ named (codes "neg") words.Neg
    ∷ named (codes "shl") words.Shl ∷ named (codes "shr") words.Shr ∷ named (codes "sar") words.Sar
    ∷ named (codes "push") words.Push ∷ named (codes "pop") words.Pop
    ∷ named (codes "call") words.Call ∷ named (codes "jmp") words.Jmp ∷ named (codes "ret") words.Ret
    ∷ named (codes "incsspq") words.Incsspq ∷ named (codes "rdsspq") words.Rdsspq
    ∷ named (codes "rstorssp") words.Rstorssp ∷ named (codes "clrssbsy") words.Clrssbsy
    ∷ named (codes "wrssq") words.Wrssq ∷ named (codes "wrussq") words.Wrussq
    ∷ named (codes "leave") (words.Alone instrs.Leave) ∷ named (codes "nop") (words.Alone instrs.Nop)
    ∷ named (codes "pause") (words.Alone instrs.Pause) ∷ named (codes "endbr64") (words.Alone instrs.Endbr64)
    ∷ named (codes "ud2") (words.Alone instrs.Ud2) ∷ named (codes "syscall") (words.Alone instrs.Syscall)
    ∷ named (codes "stc") (words.Alone instrs.Stc) ∷ named (codes "clc") (words.Alone instrs.Clc)
    ∷ named (codes "saveprevssp") (words.Alone instrs.Saveprevssp) ∷ named (codes "setssbsy") (words.Alone instrs.Setssbsy)
    ∷ []

abbrev pub mnemonic_in : Option Named → Option Mnemonic
mnemonic_in None = None
mnemonic_in (Some n) = Some n.mnemonic

unfoldable pub plain_mnemonic : List ℕ → Option Mnemonic
plain_mnemonic w = mnemonic_in (find (λ n. bytes_eq w n.name) named_mnemonics)

abbrev pub operation_mnemonic : Option AluOp → Option Mnemonic
operation_mnemonic None = None
operation_mnemonic (Some op) = Some (words.Alu op)

abbrev pub conditional : (Cond → Mnemonic) → Option Cond → Option Mnemonic
conditional f None = None
conditional f (Some c) = Some (f c)

abbrev pub after_prefix : List ℕ → List ℕ → Option (List ℕ)
after_prefix prefix w = if starts_with nat_eq w prefix then Some (drop (length prefix) w) else None

abbrev pub condition_after : List ℕ → List ℕ → Option Cond
condition_after prefix w = go (after_prefix prefix w)
  where
    go : Option (List ℕ) → Option Cond
    go None = None
    go (Some end) = condition_named end

unfoldable pub mnemonic_of : List ℕ → Option Mnemonic
mnemonic_of w =
    option_or (plain_mnemonic w)
    (option_or (operation_mnemonic (operation_named w))
    (option_or (conditional (λ c. words.Cmov c) (condition_after (codes "cmov") w))
    (conditional (λ c. words.Jump c) (condition_after (codes "j") w))))

-- after `lock`
unfoldable pub locked_mnemonic : List ℕ → Option Mnemonic
locked_mnemonic w = if bytes_eq w (codes "xadd") then Some words.Xadd else if bytes_eq w (codes "cmpxchg") then Some words.Cmpxchg else None

-- after `notrack`
unfoldable pub untracked_mnemonic : List ℕ → Option Mnemonic
untracked_mnemonic w = if bytes_eq w (codes "call") then Some words.UntrackedCall else if bytes_eq w (codes "jmp") then Some words.UntrackedJmp else None
