use Rattle.std.proofs.Common.{ℕ, ◌≡◌, ◌∙◌, ap, inr, subst, sym}
use Rattle.cet_cli.specs.Faults.{HasCause}
use Rattle.cet_cli.specs.Grammar.{FaultyWord}
use Rattle.cet_cli.specs.Words.{IsPlain}
use Rattle.cet_top.specs.declared.status.Status.TheVariants as status
use Rattle.cet_cli.proofs.Faulty.{faulty_same}
use Rattle.cet_top.proofs.Serving.{means_serves, none_read, served_completes, served_no_usage, served_too_long}
use Rattle.cet_top.proofs.programs.plain.Goals as goal

usage_same : (a b : ℕ) → status.Usage a ≡ status.Usage b → a ≡ b
usage_same a b e = cc

pub returns-in-Ok-clause-command : goal.returns-in-Ok-clause-command
returns-in-Ok-clause-command g c = inr (c.in-Ok.command, c.in-Ok.ensures.means)

pub returns-in-Ok-clause-usage : goal.returns-in-Ok-clause-usage
returns-in-Ok-clause-usage g c = λ n. (
  λ e. absurd (served_no_usage c.in-Ok.command _ _ _ _ c.serve.result n c.serve.ensures e),
  λ f. absurd (f.refused (c.in-Ok.command, c.in-Ok.ensures.means)),
)

pub returns-in-Ok-clause-unread : goal.returns-in-Ok-clause-unread
returns-in-Ok-clause-unread g c = λ n f. absurd (f.refused (c.in-Ok.command, c.in-Ok.ensures.means))

pub returns-in-Ok-clause-serves : goal.returns-in-Ok-clause-serves
returns-in-Ok-clause-serves g c = λ d m. means_serves _ c.in-Ok.command d _ _ _ _ _ c.in-Ok.ensures.means m c.serve.ensures

pub returns-in-Ok-clause-completes : goal.returns-in-Ok-clause-completes
returns-in-Ok-clause-completes g c = λ d m. served_completes _ _ _ _ _ _ _ (means_serves _ c.in-Ok.command d _ _ _ _ _ c.in-Ok.ensures.means m c.serve.ensures)

pub returns-in-Ok-clause-too_long : goal.returns-in-Ok-clause-too_long
returns-in-Ok-clause-too_long g c = λ much. served_too_long _ _ _ _ _ _ c.serve.result c.serve.ensures much

pub returns-in-Err-Usage-clause-usage : goal.returns-in-Err-Usage-clause-usage
returns-in-Err-Usage-clause-usage g c =
    let faulty : FaultyWord IsPlain _ c.in-Err-Usage.number = subst (HasCause IsPlain _) c.in-Err-Usage.field-0-is (c.in-Err-Usage.ensures {u = tt}).means in
    λ n. (
      λ e. subst (FaultyWord IsPlain _) (sym c.in-Err-Usage.number-is ∙ usage_same _ n e) faulty,
      λ f. ap status.Usage (c.in-Err-Usage.number-is ∙ faulty_same IsPlain _ c.in-Err-Usage.number n faulty f),
    )

pub returns-in-Err-NoMemory-clause-serves : goal.returns-in-Err-NoMemory-clause-serves
returns-in-Err-NoMemory-clause-serves g c = λ d m. none_read d _ _
