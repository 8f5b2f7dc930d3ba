use Rattle.std.proofs.Common.{◌≡◌, ◌<◌, ◌^◌, true, take}
use Rattle.std.specs.List.{list_all}
use Rattle.std.specs.Char.{is_digit}
use Rattle.std.specs.Str.Parse.{digits_value}
use Rattle.cet_base.proofs.read.digits_number.Given as goal

abbrev pub invariant-loop-code : goal.invariant-loop-code
invariant-loop-code l =
    (l.value ≡ digits_value l.radix (take l.code-index l.digits)) × (list_all (λ c. is_digit c l.radix) (take l.code-index l.digits) ≡ true)
    × (l.value < 2 ^ 64)
