-- what is said so far, and the lines of the rest after it, are the lines of all code
use Rattle.std.proofs.Common.{ℕ, ◌≡◌, ◌-◌, ◌≤◌, List, ◌++◌, length}
use Rattle.cet_top.proofs.Listed.{SaidAt}
use Rattle.cet_top.proofs.listing.put_code.Given as goal

abbrev pub invariant-pieces : goal.invariant-pieces
invariant-pieces l = record {
  within : l.at ≤ length l.code;
  lines : (said : List ℕ) × SaidAt l.addr l.at l.code said × (l.out ≡ l.initial.out ++ said);
}

abbrev pub decreases-pieces : goal.decreases-pieces
decreases-pieces l = length l.code - l.at
