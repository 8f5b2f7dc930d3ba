-- What an access leaves of a view's children. Source: own.
use Rattle.std.proofs.Common.{◌≡◌, inl, List, [], ◌∷◌, ◌++◌, Option, Some, None, option_map, refl, sym, ap, ◌∙◌, subst}
use Rattle.cet_page.specs.Core.{Core}
use Rattle.cet_cpu.specs.Cpu.{CpuData}
use Rattle.cet_cpu.specs.declared.threads.Taken.{Taken}
use Rattle.cet_shared.specs.Held.{Held, gathered, new_thread, newborn}
use Rattle.cet_shared.specs.Performed.{Performs}
use Rattle.cet_shared.specs.Rule.{Among}

module _ (old new : Held) (answer : Taken) (p : Performs old new answer) where
  pub child_born : (cpu : CpuData) → answer.child ≡ Some cpu → new.born ≡ new_thread cpu.core ∷ old.born
  child_born cpu is =
      ap (λ (v : Held). v.born) p.moves.view
      ∙ ap (λ (o : Option Core). newborn o ++ old.born) (sym p.child ∙ ap (λ (o : Option CpuData). option_map (λ (c : CpuData). c.core) o) is)

  pub child_among : (cpu : CpuData) → answer.child ≡ Some cpu → Among (new_thread cpu.core) new.born
  child_among cpu is = subst (Among (new_thread cpu.core)) (sym (child_born cpu is)) (inl refl)

  pub nobody_born : answer.child ≡ None → new.born ≡ old.born
  nobody_born is =
      ap (λ (v : Held). v.born) p.moves.view
      ∙ ap (λ (o : Option Core). newborn o ++ old.born) (sym p.child ∙ ap (λ (o : Option CpuData). option_map (λ (c : CpuData). c.core) o) is)

  pub gathered_stay : gathered new ≡ gathered old
  gathered_stay = ap gathered p.moves.view
