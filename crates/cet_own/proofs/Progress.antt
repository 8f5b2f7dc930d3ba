-- What a row has done so far, as far as claims need to know of it. Source: own.
use Rattle.std.specs.Prelude.{Bool, false, List}
use Rattle.cet_page.specs.Trail.{Visit}
use Rattle.cet_own.specs.Past.{frame_pushed, drew, numbered}

-- a further fact of the kind is a further field
pub record Progress : Type 0 where
  pub framed : Bool
  pub drawing : Bool
  pub numbering : Bool

abbrev pub progress : List Visit → Progress
progress past = record { framed = frame_pushed past; drawing = drew past; numbering = numbered past }

abbrev pub untouched : Progress
untouched = record { framed = false; drawing = false; numbering = false }
