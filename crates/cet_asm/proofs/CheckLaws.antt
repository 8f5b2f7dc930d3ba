-- A line that breaks no rule.
use Rattle.std.proofs.Common.{◌≡◌, ℕ, ◌≤◌, Bool, true, false, not, Option, Some, None, refl}
use Rattle.std.specs.Option.{option_or}
use Rattle.cet_syntax.specs.Line.{Statement}
use Rattle.cet_asm.specs.Layout.{is_too_long, size_of, program_limit}
use Rattle.cet_asm.specs.Program.{Symbols, broken_at, rule_unless, own_fault, directive_fault, knows_all, is_in_reach}
use Rattle.cet_syntax.specs.declared.rules.Rule.{Rule}
use Rattle.cet_syntax.specs.declared.rules.Rule.TheVariants as rules
use Rattle.cet_asm.specs.declared.sections.LocationCounter.{LocationCounter}
use Rattle.cet_asm.proofs.LayoutLaws.{within_size}

chain : Option Rule → Bool → Bool → Bool → Option Rule → Bool → Option Rule
chain own knows twice reach directive long =
    option_or own (option_or (rule_unless knows rules.UnknownLabel) (option_or (rule_unless (not twice) rules.DefinedBefore) (option_or (rule_unless reach rules.OutOfReach) (option_or directive (rule_unless (not long) rules.TooLong)))))

chain_sound : (own : Option Rule) (knows twice reach : Bool) (directive : Option Rule) (long : Bool) → chain own knows twice reach directive long ≡ None → (reach ≡ true) × (long ≡ false)
unfolding chain
chain_sound (Some r) knows twice reach directive long e = absurd cc
chain_sound None false twice reach directive long e = absurd cc
chain_sound None true true reach directive long e = absurd cc
chain_sound None true false false directive long e = absurd cc
chain_sound None true false true (Some r) long e = absurd cc
chain_sound None true false true None true e = absurd cc
chain_sound None true false true None false e = (refl, refl)

sound : (w : Symbols) (t : Bool) (h : LocationCounter) (s : Statement) → broken_at w t h s ≡ None → (is_in_reach w h s ≡ true) × (is_too_long h s ≡ false)
unfolding broken_at chain
sound w t h s e = chain_sound (own_fault s) (knows_all w s) t (is_in_reach w h s) (directive_fault s) (is_too_long h s) e

pub sound_reach : (w : Symbols) (t : Bool) (h : LocationCounter) (s : Statement) → broken_at w t h s ≡ None → is_in_reach w h s ≡ true
sound_reach w t h s e = (sound w t h s e).0

pub sound_size : (w : Symbols) (t : Bool) (h : LocationCounter) (s : Statement) (size : ℕ) → broken_at w t h s ≡ None → size ≡ size_of s → size ≤ program_limit
unfolding is_too_long
sound_size w t h s size e k = let l = within_size h (size_of s) (sound w t h s e).1 in rw k l

pub ruleset check_laws = (sound_reach, sound_size)
