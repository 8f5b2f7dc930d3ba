use Rattle.std.proofs.Common.{length, ◌-◌, ◌≡◌, ◌≤◌, ◌++◌, take, drop}
use Rattle.cet_syntax.specs.Tokens.{front, behind}
use Rattle.cet_syntax.proofs.classes.split_class.Given as goal

abbrev pub invariant-loop-at : goal.invariant-loop-at
invariant-loop-at l = record {
  within : l.at ≤ length l.text;
  front : take l.at l.text ++ front l.class (drop l.at l.text) ≡ front l.class l.text;
  behind : behind l.class (drop l.at l.text) ≡ behind l.class l.text;
}

abbrev pub decreases-loop-at : goal.decreases-loop-at
decreases-loop-at l = length l.text - l.at
