-- The code at an address, as it was read. Source: own.
use Rattle.std.specs.Prelude.{◌≡◌, ℕ, ◌+◌, ◌^◌, ◌<◌, List, length}
use Rattle.cet_words.specs.declared.images.Segment.{Segment}
use Rattle.cet_decode.specs.Decoded.{decoding}
use Rattle.cet_isa.specs.Reading.{decoded}
use Rattle.cet_page.specs.Fetch.{fetchable}
use Rattle.cet_cpu.specs.declared.fetches.Code.{Code}

-- it is what the bytes that can be fetched there are, at most 15
pub record IsCode (segments : List Segment) (addr : ℕ) (code : Code) : Type 0 where
  pub reads : decoding code.decoded ≡ decoded (fetchable segments addr 15)
  pub count : code.fetched ≡ length (fetchable segments addr 15)
  pub room : addr + code.fetched < 2 ^ 64
