-- The mnemonics of a text are read as those mnemonics.
use Rattle.std.proofs.Common.{codes, ◌++◌, refl}
use Rattle.cet_isa.specs.Names.{condition_name, operation_name, condition_named, operation_named}
use Rattle.cet_isa.specs.declared.instructions.AluOp.{AluOp}
use Rattle.cet_isa.specs.declared.instructions.AluOp.TheVariants as ops
use Rattle.cet_isa.specs.declared.instructions.Cond.{Cond}
use Rattle.cet_isa.specs.declared.instructions.Cond.TheVariants as conds
use Rattle.cet_syntax.specs.Mnemonics.{plain_mnemonic, mnemonic_of}
use Rattle.cet_syntax.specs.Line.{begun}
use Rattle.cet_syntax.specs.declared.mnemonics.Mnemonic.TheVariants as words
use Rattle.cet_texts.proofs.LineTexts.{IsMnemonic}

pub test_word : IsMnemonic (codes "test") words.Test
unfolding begun mnemonic_of plain_mnemonic
test_word = record { word = refl; begins = λ bytes. refl }

pub mov_word : IsMnemonic (codes "mov") words.Mov
unfolding begun mnemonic_of plain_mnemonic
mov_word = record { word = refl; begins = λ bytes. refl }

pub movabs_word : IsMnemonic (codes "movabs") words.Movabs
unfolding begun mnemonic_of plain_mnemonic
movabs_word = record { word = refl; begins = λ bytes. refl }

pub movzx_word : IsMnemonic (codes "movzx") words.Movzx
unfolding begun mnemonic_of plain_mnemonic
movzx_word = record { word = refl; begins = λ bytes. refl }

pub movsxd_word : IsMnemonic (codes "movsxd") words.Movsxd
unfolding begun mnemonic_of plain_mnemonic
movsxd_word = record { word = refl; begins = λ bytes. refl }

pub lea_word : IsMnemonic (codes "lea") words.Lea
unfolding begun mnemonic_of plain_mnemonic
lea_word = record { word = refl; begins = λ bytes. refl }

pub xchg_word : IsMnemonic (codes "xchg") words.Xchg
unfolding begun mnemonic_of plain_mnemonic
xchg_word = record { word = refl; begins = λ bytes. refl }

pub imul_word : IsMnemonic (codes "imul") words.Imul
unfolding begun mnemonic_of plain_mnemonic
imul_word = record { word = refl; begins = λ bytes. refl }

pub inc_word : IsMnemonic (codes "inc") words.Inc
unfolding begun mnemonic_of plain_mnemonic
inc_word = record { word = refl; begins = λ bytes. refl }

pub dec_word : IsMnemonic (codes "dec") words.Dec
unfolding begun mnemonic_of plain_mnemonic
dec_word = record { word = refl; begins = λ bytes. refl }

pub not_word : IsMnemonic (codes "not") words.Not
unfolding begun mnemonic_of plain_mnemonic
not_word = record { word = refl; begins = λ bytes. refl }

pub neg_word : IsMnemonic (codes "neg") words.Neg
unfolding begun mnemonic_of plain_mnemonic
neg_word = record { word = refl; begins = λ bytes. refl }

pub shl_word : IsMnemonic (codes "shl") words.Shl
unfolding begun mnemonic_of plain_mnemonic
shl_word = record { word = refl; begins = λ bytes. refl }

pub shr_word : IsMnemonic (codes "shr") words.Shr
unfolding begun mnemonic_of plain_mnemonic
shr_word = record { word = refl; begins = λ bytes. refl }

pub sar_word : IsMnemonic (codes "sar") words.Sar
unfolding begun mnemonic_of plain_mnemonic
sar_word = record { word = refl; begins = λ bytes. refl }

pub push_word : IsMnemonic (codes "push") words.Push
unfolding begun mnemonic_of plain_mnemonic
push_word = record { word = refl; begins = λ bytes. refl }

pub pop_word : IsMnemonic (codes "pop") words.Pop
unfolding begun mnemonic_of plain_mnemonic
pop_word = record { word = refl; begins = λ bytes. refl }

pub call_word : IsMnemonic (codes "call") words.Call
unfolding begun mnemonic_of plain_mnemonic
call_word = record { word = refl; begins = λ bytes. refl }

pub jmp_word : IsMnemonic (codes "jmp") words.Jmp
unfolding begun mnemonic_of plain_mnemonic
jmp_word = record { word = refl; begins = λ bytes. refl }

pub ret_word : IsMnemonic (codes "ret") words.Ret
unfolding begun mnemonic_of plain_mnemonic
ret_word = record { word = refl; begins = λ bytes. refl }

pub incsspq_word : IsMnemonic (codes "incsspq") words.Incsspq
unfolding begun mnemonic_of plain_mnemonic
incsspq_word = record { word = refl; begins = λ bytes. refl }

pub rdsspq_word : IsMnemonic (codes "rdsspq") words.Rdsspq
unfolding begun mnemonic_of plain_mnemonic
rdsspq_word = record { word = refl; begins = λ bytes. refl }

pub rstorssp_word : IsMnemonic (codes "rstorssp") words.Rstorssp
unfolding begun mnemonic_of plain_mnemonic
rstorssp_word = record { word = refl; begins = λ bytes. refl }

pub clrssbsy_word : IsMnemonic (codes "clrssbsy") words.Clrssbsy
unfolding begun mnemonic_of plain_mnemonic
clrssbsy_word = record { word = refl; begins = λ bytes. refl }

pub wrssq_word : IsMnemonic (codes "wrssq") words.Wrssq
unfolding begun mnemonic_of plain_mnemonic
wrssq_word = record { word = refl; begins = λ bytes. refl }

pub wrussq_word : IsMnemonic (codes "wrussq") words.Wrussq
unfolding begun mnemonic_of plain_mnemonic
wrussq_word = record { word = refl; begins = λ bytes. refl }

pub operation_word : (op : AluOp) → IsMnemonic (operation_name op) (words.Alu op)
unfolding begun mnemonic_of plain_mnemonic operation_named operation_name
operation_word ops.Add = record { word = refl; begins = λ bytes. refl }
operation_word ops.Or = record { word = refl; begins = λ bytes. refl }
operation_word ops.Adc = record { word = refl; begins = λ bytes. refl }
operation_word ops.Sbb = record { word = refl; begins = λ bytes. refl }
operation_word ops.And = record { word = refl; begins = λ bytes. refl }
operation_word ops.Sub = record { word = refl; begins = λ bytes. refl }
operation_word ops.Xor = record { word = refl; begins = λ bytes. refl }
operation_word ops.Cmp = record { word = refl; begins = λ bytes. refl }

pub move_word : (c : Cond) → IsMnemonic (codes "cmov" ++ condition_name c) (words.Cmov c)
unfolding begun mnemonic_of plain_mnemonic operation_named operation_name condition_named condition_name
move_word conds.O = record { word = refl; begins = λ bytes. refl }
move_word conds.No = record { word = refl; begins = λ bytes. refl }
move_word conds.B = record { word = refl; begins = λ bytes. refl }
move_word conds.Ae = record { word = refl; begins = λ bytes. refl }
move_word conds.E = record { word = refl; begins = λ bytes. refl }
move_word conds.Ne = record { word = refl; begins = λ bytes. refl }
move_word conds.Be = record { word = refl; begins = λ bytes. refl }
move_word conds.A = record { word = refl; begins = λ bytes. refl }
move_word conds.S = record { word = refl; begins = λ bytes. refl }
move_word conds.Ns = record { word = refl; begins = λ bytes. refl }
move_word conds.P = record { word = refl; begins = λ bytes. refl }
move_word conds.Np = record { word = refl; begins = λ bytes. refl }
move_word conds.L = record { word = refl; begins = λ bytes. refl }
move_word conds.Ge = record { word = refl; begins = λ bytes. refl }
move_word conds.Le = record { word = refl; begins = λ bytes. refl }
move_word conds.G = record { word = refl; begins = λ bytes. refl }

pub jump_word : (c : Cond) → IsMnemonic (codes "j" ++ condition_name c) (words.Jump c)
unfolding begun mnemonic_of plain_mnemonic operation_named operation_name condition_named condition_name
jump_word conds.O = record { word = refl; begins = λ bytes. refl }
jump_word conds.No = record { word = refl; begins = λ bytes. refl }
jump_word conds.B = record { word = refl; begins = λ bytes. refl }
jump_word conds.Ae = record { word = refl; begins = λ bytes. refl }
jump_word conds.E = record { word = refl; begins = λ bytes. refl }
jump_word conds.Ne = record { word = refl; begins = λ bytes. refl }
jump_word conds.Be = record { word = refl; begins = λ bytes. refl }
jump_word conds.A = record { word = refl; begins = λ bytes. refl }
jump_word conds.S = record { word = refl; begins = λ bytes. refl }
jump_word conds.Ns = record { word = refl; begins = λ bytes. refl }
jump_word conds.P = record { word = refl; begins = λ bytes. refl }
jump_word conds.Np = record { word = refl; begins = λ bytes. refl }
jump_word conds.L = record { word = refl; begins = λ bytes. refl }
jump_word conds.Ge = record { word = refl; begins = λ bytes. refl }
jump_word conds.Le = record { word = refl; begins = λ bytes. refl }
jump_word conds.G = record { word = refl; begins = λ bytes. refl }
