use Rattle.std.proofs.Common.{◌≡◌, ◌+◌, drop, map}
use Rattle.std.specs.Prelude.{option_map}
use Rattle.cet_cli.specs.Values.{place_among}
use Rattle.cet_cli.proofs.values.place_among.Given as goal

abbrev pub invariant-loop-place : goal.invariant-loop-place
invariant-loop-place l =
    place_among (map (λ w. w.now) l.words) l.text ≡ option_map (λ n. l.place + n) (place_among (map (λ w. w.now) (drop l.place l.words)) l.text)
