-- The text of each instruction is a line that states it.
use Rattle.std.proofs.Common.{◌≡◌, true, false, codes, [], refl, ap, ◌∙◌}
use Rattle.cet_encode.specs.Text as text
use Rattle.cet_isa.specs.Spelled.{has_spelling, InstrFits}
use Rattle.cet_isa.specs.declared.instructions.Instr.{Instr}
use Rattle.cet_isa.specs.declared.instructions.Instr.TheVariants as instrs
use Rattle.cet_isa.specs.declared.instructions.Size.TheVariants as sizes
use Rattle.cet_syntax.specs.Tokens.{tokens}
use Rattle.cet_syntax.specs.Operands as asm
use Rattle.cet_syntax.specs.Mnemonics.{plain_mnemonic, mnemonic_of, locked_mnemonic, untracked_mnemonic}
use Rattle.cet_syntax.specs.Instructions.{no_fixups, pair_instr, two_operands, shift, register_instr, memory_instr, relative_instr, built}
use Rattle.cet_syntax.specs.Line.{Code, instruction, begun, line_of}
use Rattle.cet_syntax.specs.declared.mnemonics.Mnemonic.TheVariants as words
use Rattle.cet_texts.proofs.PieceTokens.{onto_joined}
use Rattle.cet_texts.proofs.InstructionTexts.{alu_code, test_code, mov_code, imul_code, lea_code, xchg_code, cmov_code, store_code, wide_code, zero_code, sign_code}
use Rattle.cet_texts.proofs.InstructionTexts.{shift_code, one_register_code, one_memory_code, place_code, push_code, relative_code, ret_code}
use Rattle.cet_texts.proofs.LineTexts.{IsLine, alone_line, named_line, prefixed_line}
use Rattle.cet_texts.proofs.MnemonicTexts as word

pub pieces_line : (i : Instr) → InstrFits i → has_spelling i ≡ true → IsLine (text.pieces i) i
unfolding text.pieces begun instruction mnemonic_of plain_mnemonic locked_mnemonic untracked_mnemonic tokens asm.operands
    built two_operands shift pair_instr register_instr memory_instr relative_instr
pieces_line (instrs.Alu op size dst src) fits ok = named_line (word.operation_word op) (alu_code op size dst src fits.0 fits.1 ok)
pieces_line (instrs.Test size dst src) fits ok = named_line word.test_word (test_code size dst src fits.0 fits.1 ok)
pieces_line (instrs.Mov size dst src) fits ok = named_line word.mov_word (mov_code size dst src fits.0 fits.1 ok)
pieces_line (instrs.MovWide dst value) fits ok = named_line word.movabs_word (wide_code dst value fits)
pieces_line (instrs.MovZero8 dst src) fits ok = named_line word.movzx_word (zero_code dst src fits ok)
pieces_line (instrs.MovSign32 dst src) fits ok = named_line word.movsxd_word (sign_code dst src fits ok)
pieces_line (instrs.Lea size dst src) fits ok = named_line word.lea_word (lea_code size dst src fits ok)
pieces_line (instrs.Xchg dst reg) fits ok = named_line word.xchg_word (xchg_code dst reg fits ok)
pieces_line (instrs.LockXadd mem reg) fits ok =
    prefixed_line (codes "lock") (codes "xadd") words.Xadd _ _ refl refl refl
    (store_code words.Xadd mem reg _ fits ok refl refl ok)
pieces_line (instrs.LockCmpxchg mem reg) fits ok =
    prefixed_line (codes "lock") (codes "cmpxchg") words.Cmpxchg _ _ refl refl refl
    (store_code words.Cmpxchg mem reg _ fits ok refl refl ok)
pieces_line (instrs.Inc size reg) fits ok = named_line word.inc_word (one_register_code words.Inc size reg _ refl refl)
pieces_line (instrs.Dec size reg) fits ok = named_line word.dec_word (one_register_code words.Dec size reg _ refl refl)
pieces_line (instrs.Not size reg) fits ok = named_line word.not_word (one_register_code words.Not size reg _ refl refl)
pieces_line (instrs.Neg size reg) fits ok = named_line word.neg_word (one_register_code words.Neg size reg _ refl refl)
pieces_line (instrs.Imul size dst src) fits ok = named_line word.imul_word (imul_code size dst src fits ok)
pieces_line (instrs.Shl size reg count) fits ok =
    named_line word.shl_word (shift_code words.Shl size reg count _ fits refl (λ g h. refl) refl)
pieces_line (instrs.Shr size reg count) fits ok =
    named_line word.shr_word (shift_code words.Shr size reg count _ fits refl (λ g h. refl) refl)
pieces_line (instrs.Sar size reg count) fits ok =
    named_line word.sar_word (shift_code words.Sar size reg count _ fits refl (λ g h. refl) refl)
pieces_line (instrs.Cmov cc size dst src) fits ok = named_line (word.move_word cc) (cmov_code cc size dst src fits ok)
pieces_line (instrs.Push src) fits ok = named_line word.push_word (push_code src fits ok)
pieces_line (instrs.Pop dst) fits ok = named_line word.pop_word (one_register_code words.Pop sizes.Qword dst _ refl refl)
pieces_line instrs.Leave fits ok = alone_line (codes "leave") instrs.Leave refl refl
pieces_line (instrs.CallRel disp) fits ok = named_line word.call_word (relative_code words.Call disp _ fits refl refl)
pieces_line (instrs.CallInd target false) fits ok =
    named_line word.call_word (place_code words.Call (λ o. instrs.CallInd o false) target fits ok (λ r. refl) (λ m. refl) ok)
pieces_line (instrs.CallInd target true) fits ok =
    prefixed_line (codes "notrack") (codes "call") words.UntrackedCall _ _ refl refl refl
    (place_code words.UntrackedCall (λ o. instrs.CallInd o true) target fits ok (λ r. refl) (λ m. refl) ok)
pieces_line (instrs.JmpRel disp) fits ok = named_line word.jmp_word (relative_code words.Jmp disp _ fits refl refl)
pieces_line (instrs.JmpInd target false) fits ok =
    named_line word.jmp_word (place_code words.Jmp (λ o. instrs.JmpInd o false) target fits ok (λ r. refl) (λ m. refl) ok)
pieces_line (instrs.JmpInd target true) fits ok =
    prefixed_line (codes "notrack") (codes "jmp") words.UntrackedJmp _ _ refl refl refl
    (place_code words.UntrackedJmp (λ o. instrs.JmpInd o true) target fits ok (λ r. refl) (λ m. refl) ok)
pieces_line (instrs.Jcc cc disp) fits ok = named_line (word.jump_word cc) (relative_code (words.Jump cc) disp _ fits refl refl)
pieces_line instrs.Ret fits ok = alone_line (codes "ret") instrs.Ret refl refl
pieces_line (instrs.RetImm bytes) fits ok = named_line word.ret_word (ret_code bytes fits)
pieces_line instrs.Nop fits ok = alone_line (codes "nop") instrs.Nop refl refl
pieces_line instrs.Pause fits ok = alone_line (codes "pause") instrs.Pause refl refl
pieces_line instrs.Endbr64 fits ok = alone_line (codes "endbr64") instrs.Endbr64 refl refl
pieces_line instrs.Ud2 fits ok = alone_line (codes "ud2") instrs.Ud2 refl refl
pieces_line instrs.Syscall fits ok = alone_line (codes "syscall") instrs.Syscall refl refl
pieces_line instrs.Stc fits ok = alone_line (codes "stc") instrs.Stc refl refl
pieces_line instrs.Clc fits ok = alone_line (codes "clc") instrs.Clc refl refl
pieces_line (instrs.Incsspq reg) fits ok =
    named_line word.incsspq_word (one_register_code words.Incsspq sizes.Qword reg _ refl refl)
pieces_line (instrs.Rdsspq reg) fits ok = named_line word.rdsspq_word (one_register_code words.Rdsspq sizes.Qword reg _ refl refl)
pieces_line (instrs.Rstorssp mem) fits ok = named_line word.rstorssp_word (one_memory_code words.Rstorssp mem _ fits ok refl ok)
pieces_line instrs.Saveprevssp fits ok = alone_line (codes "saveprevssp") instrs.Saveprevssp refl refl
pieces_line instrs.Setssbsy fits ok = alone_line (codes "setssbsy") instrs.Setssbsy refl refl
pieces_line (instrs.Clrssbsy mem) fits ok = named_line word.clrssbsy_word (one_memory_code words.Clrssbsy mem _ fits ok refl ok)
pieces_line (instrs.Wrssq mem reg) fits ok = named_line word.wrssq_word (store_code words.Wrssq mem reg _ fits ok refl refl ok)
pieces_line (instrs.Wrussq mem reg) fits ok = named_line word.wrussq_word (store_code words.Wrussq mem reg _ fits ok refl refl ok)

pub line_text_of : (i : Instr) → InstrFits i → has_spelling i ≡ true
    → line_of (text.text_of i) ≡ (record { labels = []; statement = Code i no_fixups })
line_text_of i fits ok = ap line_of (onto_joined [] (text.pieces i)) ∙ (pieces_line i fits ok).same
