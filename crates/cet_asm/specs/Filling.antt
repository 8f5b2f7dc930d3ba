-- Instructions with the addresses of their labels. Source: own.
use Rattle.std.specs.Prelude.{ℕ, ◌<◌, ◌^◌, List, Option, Some, None, IfSome}
use Rattle.cet_isa.specs.declared.instructions.Instr.{Instr}
use Rattle.cet_syntax.specs.Instructions.{Fixups}
use Rattle.cet_asm.specs.Layout.{with_memory, with_immediate, with_target, placed_mem, distance}
use Rattle.cet_asm.specs.declared.filling.ResolvedFixups.{ResolvedFixups}

abbrev pub on_address : Option ℕ → (ℕ → Instr → Instr) → Instr → Instr
on_address None f i = i
on_address (Some a) f i = f a i

abbrev pub filled_at : ℕ → ResolvedFixups → Instr → Instr
filled_at next x i =
    on_address x.target (λ a. with_target (distance next a))
    (on_address x.immediate with_immediate
    (on_address x.displacement (λ a. with_memory (placed_mem next a)) i))

-- the addresses of an instruction's labels
abbrev pub address_for : (List ℕ → ℕ) → Option (List ℕ) → Option ℕ
address_for env None = None
address_for env (Some name) = Some (env name)

abbrev pub resolved_in : (List ℕ → ℕ) → Fixups → ResolvedFixups
resolved_in env u = record { displacement = address_for env u.displacement; immediate = address_for env u.immediate; target = address_for env u.target }

-- each fits a signed number of 32 bits
abbrev pub AreSmall : ResolvedFixups → Type 0
AreSmall x = IfSome x.displacement (λ a. a < 2 ^ 31) × (IfSome x.immediate (λ a. a < 2 ^ 31) × IfSome x.target (λ a. a < 2 ^ 31))
