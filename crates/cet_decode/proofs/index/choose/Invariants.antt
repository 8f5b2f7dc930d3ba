use Rattle.std.proofs.Common.{◌≡◌, drop}
use Rattle.cet_decode.specs.Lead.{chosen}
use Rattle.cet_decode.proofs.index.choose.Given as goal

abbrev pub invariant-loop-number : goal.invariant-loop-number
invariant-loop-number l = chosen l.rows l.numbers l.rex l.bytes ≡ chosen l.rows (drop l.number-index l.numbers) l.rex l.bytes
