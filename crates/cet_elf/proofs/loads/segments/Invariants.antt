use Rattle.std.proofs.Common.{◌≡◌, take}
use Rattle.cet_elf.specs.Accepts.{segments_of}
use Rattle.cet_elf.proofs.loads.segments.Given as goal

abbrev pub invariant-loop-header : goal.invariant-loop-header
invariant-loop-header l = l.segments ≡ segments_of l.bytes (take l.header-index l.headers)
