use Rattle.std.proofs.Common.{◌≡◌, drop, Err}
use Rattle.cet_isa.specs.Reader.{or_else}
use Rattle.cet_decode.specs.Index.{some_at}
use Rattle.cet_decode.specs.Views.{miss_view}
use Rattle.cet_decode.proofs.index.read_some.Given as goal

abbrev pub invariant-loop-number : goal.invariant-loop-number
invariant-loop-number l = some_at l.rows l.numbers l.bytes ≡ or_else (Err (miss_view l.miss)) (some_at l.rows (drop l.number-index l.numbers) l.bytes)
