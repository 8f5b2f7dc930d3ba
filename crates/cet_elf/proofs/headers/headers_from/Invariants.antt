use Rattle.std.proofs.Common.{◌≡◌}
use Rattle.cet_elf.specs.Headers.{headers_from}
use Rattle.cet_elf.proofs.headers.headers_from.Given as goal

abbrev pub invariant-loop-index : goal.invariant-loop-index
invariant-loop-index l = l.headers.items ≡ headers_from l.bytes l.table l.index
