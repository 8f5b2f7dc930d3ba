-- An instruction has a spelling whatever the addresses of its labels are.
use Rattle.std.proofs.Common.{◌≡◌, ℕ, ℤ, List, Option, Some, None, refl, ◌∙◌}
use Rattle.cet_isa.specs.declared.instructions.AluOp.{AluOp}
use Rattle.cet_isa.specs.declared.instructions.Base.{Base}
use Rattle.cet_isa.specs.declared.instructions.Base.TheVariants as bases
use Rattle.cet_isa.specs.declared.instructions.Instr.{Instr}
use Rattle.cet_isa.specs.declared.instructions.Instr.TheVariants as instrs
use Rattle.cet_isa.specs.declared.instructions.Mem.{Mem}
use Rattle.cet_isa.specs.declared.instructions.Operand.{Operand}
use Rattle.cet_isa.specs.declared.instructions.Operand.TheVariants as operands
use Rattle.cet_isa.specs.declared.instructions.Reg.{Reg}
use Rattle.cet_isa.specs.declared.instructions.Size.{Size}
use Rattle.cet_isa.specs.Spelled.{mem_ok, place_ok, alu_ok, test_ok, mov_ok, push_ok, has_spelling}
use Rattle.cet_syntax.specs.Instructions.{Fixups}
use Rattle.cet_asm.specs.Layout.{operand_memory, operand_immediate, with_memory, with_immediate, with_target, placed_mem, distance, filled}
use Rattle.cet_asm.specs.Filling.{on_address, filled_at, address_for, resolved_in}
use Rattle.cet_asm.specs.declared.filling.ResolvedFixups.{ResolvedFixups}

mem_same : (next a : ℕ) (m : Mem) → mem_ok (placed_mem next a m) ≡ mem_ok m
mem_same next a m = go m.base m.index m.scale m.disp
  where
    go : (b : Base) (i : Option Reg) (s : ℕ) (d : ℤ) → mem_ok (placed_mem next a (record { base = b; index = i; scale = s; disp = d })) ≡ mem_ok (record { base = b; index = i; scale = s; disp = d })
    go bases.Rip i s d = refl
    go bases.None i s d = refl
    go (bases.Reg b) i s d = refl

place_same : (next a : ℕ) (o : Operand) → place_ok (operand_memory (placed_mem next a) o) ≡ place_ok o
place_same next a (operands.Reg r) = refl
place_same next a (operands.Mem m) = mem_same next a m
place_same next a (operands.Imm n) = refl

alu_same : (next a : ℕ) (op : AluOp) (dst src : Operand) → alu_ok op (operand_memory (placed_mem next a) dst) (operand_memory (placed_mem next a) src) ≡ alu_ok op dst src
alu_same next a op (operands.Reg d) (operands.Reg r) = refl
alu_same next a op (operands.Reg d) (operands.Mem m) = mem_same next a m
alu_same next a op (operands.Reg d) (operands.Imm n) = refl
alu_same next a op (operands.Mem m) (operands.Reg r) = rw (mem_same next a m) refl
alu_same next a op (operands.Mem m) (operands.Mem n) = refl
alu_same next a op (operands.Mem m) (operands.Imm n) = rw (mem_same next a m) refl
alu_same next a op (operands.Imm m) src = refl

test_same : (next a : ℕ) (dst src : Operand) → test_ok (operand_memory (placed_mem next a) dst) src ≡ test_ok dst src
test_same next a dst (operands.Reg r) = place_same next a dst
test_same next a dst (operands.Mem m) = refl
test_same next a dst (operands.Imm n) = place_same next a dst

mov_same : (next a : ℕ) (size : Size) (dst src : Operand) → mov_ok size (operand_memory (placed_mem next a) dst) (operand_memory (placed_mem next a) src) ≡ mov_ok size dst src
mov_same next a size (operands.Reg d) (operands.Reg r) = refl
mov_same next a size (operands.Reg d) (operands.Mem m) = mem_same next a m
mov_same next a size (operands.Reg d) (operands.Imm n) = refl
mov_same next a size (operands.Mem m) (operands.Reg r) = rw (mem_same next a m) refl
mov_same next a size (operands.Mem m) (operands.Mem n) = refl
mov_same next a size (operands.Mem m) (operands.Imm n) = rw (mem_same next a m) refl
mov_same next a size (operands.Imm m) src = refl

push_same : (next a : ℕ) (o : Operand) → push_ok (operand_memory (placed_mem next a) o) ≡ push_ok o
push_same next a (operands.Reg r) = refl
push_same next a (operands.Mem m) = mem_same next a m
push_same next a (operands.Imm n) = refl

memory_same : (next a : ℕ) (i : Instr) → has_spelling (with_memory (placed_mem next a) i) ≡ has_spelling i
unfolding with_memory
memory_same next a (instrs.Alu op size dst src) = alu_same next a op dst src
memory_same next a (instrs.Test size dst src) = test_same next a dst src
memory_same next a (instrs.Mov size dst src) = mov_same next a size dst src
memory_same next a (instrs.MovZero8 dst src) = mem_same next a src
memory_same next a (instrs.MovSign32 dst src) = place_same next a src
memory_same next a (instrs.Lea size dst src) = mem_same next a src
memory_same next a (instrs.Xchg dst reg) = place_same next a dst
memory_same next a (instrs.LockXadd mem reg) = mem_same next a mem
memory_same next a (instrs.LockCmpxchg mem reg) = mem_same next a mem
memory_same next a (instrs.Imul size dst src) = place_same next a src
memory_same next a (instrs.Cmov cond size dst src) = place_same next a src
memory_same next a (instrs.Push src) = push_same next a src
memory_same next a (instrs.CallInd target notrack) = place_same next a target
memory_same next a (instrs.JmpInd target notrack) = place_same next a target
memory_same next a (instrs.Rstorssp mem) = mem_same next a mem
memory_same next a (instrs.Clrssbsy mem) = mem_same next a mem
memory_same next a (instrs.Wrssq mem reg) = mem_same next a mem
memory_same next a (instrs.Wrussq mem reg) = mem_same next a mem
memory_same next a i = refl

place_imm : (a : ℕ) (o : Operand) → place_ok (operand_immediate a o) ≡ place_ok o
place_imm a (operands.Reg r) = refl
place_imm a (operands.Mem m) = refl
place_imm a (operands.Imm n) = refl

alu_imm : (a : ℕ) (op : AluOp) (dst src : Operand) → alu_ok op dst (operand_immediate a src) ≡ alu_ok op dst src
alu_imm a op dst (operands.Reg r) = refl
alu_imm a op dst (operands.Mem m) = refl
alu_imm a op (operands.Reg d) (operands.Imm n) = refl
alu_imm a op (operands.Mem d) (operands.Imm n) = refl
alu_imm a op (operands.Imm d) (operands.Imm n) = refl

test_imm : (a : ℕ) (dst src : Operand) → test_ok dst (operand_immediate a src) ≡ test_ok dst src
test_imm a dst (operands.Reg r) = refl
test_imm a dst (operands.Mem m) = refl
test_imm a dst (operands.Imm n) = refl

mov_imm : (a : ℕ) (size : Size) (dst src : Operand) → mov_ok size dst (operand_immediate a src) ≡ mov_ok size dst src
mov_imm a size dst (operands.Reg r) = refl
mov_imm a size dst (operands.Mem m) = refl
mov_imm a size (operands.Reg d) (operands.Imm n) = refl
mov_imm a size (operands.Mem d) (operands.Imm n) = refl
mov_imm a size (operands.Imm d) (operands.Imm n) = refl

push_imm : (a : ℕ) (o : Operand) → push_ok (operand_immediate a o) ≡ push_ok o
push_imm a (operands.Reg r) = refl
push_imm a (operands.Mem m) = refl
push_imm a (operands.Imm n) = refl

immediate_same : (a : ℕ) (i : Instr) → has_spelling (with_immediate a i) ≡ has_spelling i
unfolding with_immediate
immediate_same a (instrs.Alu op size dst src) = alu_imm a op dst src
immediate_same a (instrs.Test size dst src) = test_imm a dst src
immediate_same a (instrs.Mov size dst src) = mov_imm a size dst src
immediate_same a (instrs.MovWide dst value) = refl
immediate_same a (instrs.Push src) = push_imm a src
immediate_same a i = refl

target_same : (disp : ℤ) (i : Instr) → has_spelling (with_target disp i) ≡ has_spelling i
unfolding with_target
target_same disp (instrs.CallRel d) = refl
target_same disp (instrs.JmpRel d) = refl
target_same disp (instrs.Jcc cond d) = refl
target_same disp i = refl

on_same : (o : Option ℕ) (f : ℕ → Instr → Instr) (i : Instr) → ((a : ℕ) (j : Instr) → has_spelling (f a j) ≡ has_spelling j) → has_spelling (on_address o f i) ≡ has_spelling i
on_same None f i h = refl
on_same (Some a) f i h = h a i

pub filled_spelled : (next : ℕ) (x : ResolvedFixups) (i : Instr) → has_spelling (filled_at next x i) ≡ has_spelling i
filled_spelled next x i =
    on_same x.target (λ a. with_target (distance next a)) _ (λ a j. target_same (distance next a) j)
    ∙ (on_same x.immediate with_immediate _ immediate_same
    ∙ on_same x.displacement (λ a. with_memory (placed_mem next a)) i (λ a j. memory_same next a j))

-- the same filling, by what is found
pub filled_resolved : (env : List ℕ → ℕ) (next : ℕ) (u : Fixups) (i : Instr) → filled env next u i ≡ filled_at next (resolved_in env u) i
unfolding filled
filled_resolved env next u i = go u.displacement u.immediate u.target
  where
    go : (d m t : Option (List ℕ)) → filled env next (record { displacement = d; immediate = m; target = t; short = u.short }) i ≡ filled_at next
        (record { displacement = address_for env d; immediate = address_for env m; target = address_for env t }) i
    go None None None = refl
    go None None (Some t) = refl
    go None (Some m) None = refl
    go None (Some m) (Some t) = refl
    go (Some d) None None = refl
    go (Some d) None (Some t) = refl
    go (Some d) (Some m) None = refl
    go (Some d) (Some m) (Some t) = refl

pub ruleset filling_laws = (filled_spelled, filled_resolved)
