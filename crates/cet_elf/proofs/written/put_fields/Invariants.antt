use Rattle.std.proofs.Common.{◌≡◌, ◌++◌, take}
use Rattle.std.specs.List.{flat_map}
use Rattle.cet_elf.specs.Written.{field_bytes}
use Rattle.cet_elf.proofs.written.put_fields.Given as goal

abbrev pub invariant-loop-field : goal.invariant-loop-field
invariant-loop-field l = l.out ≡ l.initial.out ++ flat_map field_bytes (take l.field-index l.fields)
