use Rattle.std.proofs.Common.{◌≡◌, length}
use Rattle.cet_words.proofs.tests.bytes_of.Given as goal

abbrev pub invariant-loop-byte : goal.invariant-loop-byte
invariant-loop-byte l = length l.bytes ≡ l.byte-index
