-- How long a program may get.
use Rattle.std.proofs.Common.{◌≡◌, ℕ, ◌≤◌, ◌<◌, true, false, arith}
use Rattle.cet_words.specs.Layout.{page_up}
use Rattle.cet_asm.specs.Layout.{grown, exceeds, program_limit}
use Rattle.cet_asm.specs.declared.sections.LocationCounter.{LocationCounter}

pub page_up_least : (n : ℕ) → n ≤ page_up n
page_up_least n = omega arith

pub long_exceeds : (h : LocationCounter) (n : ℕ) → program_limit < n → exceeds (grown h n) ≡ true
long_exceeds h n l = grind (arith, page_up_least)

pub ruleset layout_laws = (long_exceeds)

pub within_size : (h : LocationCounter) (n : ℕ) → exceeds (grown h n) ≡ false → n ≤ program_limit
within_size h n e = grind (arith, long_exceeds h n)
