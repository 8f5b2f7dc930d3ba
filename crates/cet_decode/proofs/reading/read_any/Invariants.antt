use Rattle.std.proofs.Common.{◌≡◌, drop, map, Err}
use Rattle.cet_isa.specs.Reader.{or_else}
use Rattle.cet_isa.specs.Reading.{any_at}
use Rattle.cet_decode.specs.Views.{form_view, miss_view}
use Rattle.cet_decode.proofs.reading.read_any.Given as goal

abbrev pub invariant-loop-form : goal.invariant-loop-form
invariant-loop-form l = any_at (map form_view l.rows) l.bytes ≡ or_else (Err (miss_view l.miss)) (any_at (map form_view (drop l.form-index l.rows)) l.bytes)
