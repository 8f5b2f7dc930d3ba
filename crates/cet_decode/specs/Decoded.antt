-- The decoder's answer, seen as what the table of instructions reads. Source: own.
use Rattle.std.specs.Prelude.{ℕ, ◌≤◌}
use Rattle.cet_decode.specs.declared.decoder.Decoded.{Decoded}
use Rattle.cet_decode.specs.declared.decoder.Decoded.TheVariants as answers
use Rattle.cet_isa.specs.Reading.{Decoding, Read, Short, Unknown}

abbrev pub decoding : Decoded → Decoding
decoding (answers.Ok instr len) = Read instr len
decoding answers.Short = Short
decoding answers.Unknown = Unknown

-- the length is at most this
abbrev pub LenAtMost : ℕ → Decoded → Type 0
LenAtMost most (answers.Ok instr len) = len ≤ most
LenAtMost most answers.Short = Unit {0}
LenAtMost most answers.Unknown = Unit {0}
