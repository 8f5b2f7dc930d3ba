use Rattle.cet_cli.proofs.SignalLaws.{kept_valid}
use Rattle.cet_cli.proofs.options.Settings.with_signals.Goals as goal

pub invariant_of-result : goal.invariant_of-result
invariant_of-result c =
    let v = kept_valid c.args.value.now _ _ c.unwrap_or.result (c.in_ok-signals.ensures {u = tt}) c.unwrap_or.ensures c.self.invariant.few c.self.invariant.signals in
    record {
      limit_low = c.self.invariant.limit_low;
      limit_high = c.self.invariant.limit_high;
      procs_low = c.self.invariant.procs_low;
      procs_high = c.self.invariant.procs_high;
      few = v.0;
      signals = v.1;
    }
