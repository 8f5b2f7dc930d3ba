-- An image and a job as plain data, and what holds of each. Source: System V ABI for x86-64; limits are own.
use Rattle.std.specs.Prelude.{◌≡◌, ℕ, ◌+◌, ◌-◌, ◌/◌, ◌<◌, ◌≤◌, Bool, false, ◌&&◌, nat_lt, nat_le, List, length, All, AllPairs, Any, IsTrue, ◌⊎◌}
use Rattle.cet_words.specs.declared.images.Segment.{Segment}
use Rattle.cet_words.specs.declared.images.Signal.{Signal}
use Rattle.cet_words.specs.Layout.{image_start, image_end, thread_limit}

-- the first and the last page number of a segment that has pages, counted from address 0
abbrev pub first_page : Segment → ℕ
first_page s = s.start / 4096

abbrev pub last_page : Segment → ℕ
last_page s = (s.start + s.size - 1) / 4096

-- the segment has a byte in the page that begins at 4096 * n
abbrev pub covers : ℕ → Segment → Bool
covers n s = nat_lt 0 s.size && nat_le (first_page s) n && nat_le n (last_page s)

-- no page is in both
abbrev pub SharesNoPage : Segment → Segment → Type 0
SharesNoPage s t = (s.size ≡ 0) ⊎ (t.size ≡ 0) ⊎ (last_page s < first_page t) ⊎ (last_page t < first_page s)

-- a segment lies in the image range, has no more bytes than its size, and isn't both writable and executable
pub record IsSegment (s : Segment) : Type 0 where
  pub low : image_start ≤ s.start
  pub high : s.start + s.size ≤ image_end
  pub filled : length s.bytes ≤ s.size
  pub rights : (s.write && s.exec) ≡ false

-- the address lies in an executable segment
abbrev pub IsEntry : ℕ → Segment → Type 0
IsEntry addr s = IsTrue s.exec × (s.start ≤ addr) × (addr < s.start + s.size)

pub record IsImage (entry : ℕ) (segments : List Segment) : Type 0 where
  pub each : All IsSegment segments
  pub apart : AllPairs SharesNoPage segments
  pub starts : Any (IsEntry entry) segments

-- an image
pub record ImageData : Type 0 where
  pub entry : ℕ
  pub marked : Bool
  pub tracked : Bool
  pub segments : List Segment

-- what a run is given
pub record JobData : Type 0 where
  pub image : ImageData
  pub procs : ℕ
  pub limit : ℕ
  pub signals : List Signal

pub record IsSignal (s : Signal) : Type 0 where
  pub thread : s.thread < thread_limit
  pub low : 1 ≤ s.number
  pub high : s.number ≤ 31

pub record IsJob (job : JobData) : Type 0 where
  pub image : IsImage job.image.entry job.image.segments
  pub procs_low : 1 ≤ job.procs
  pub procs_high : job.procs ≤ 8
  pub limit_low : 1 ≤ job.limit
  pub limit_high : job.limit ≤ 100000
  pub few : length job.signals ≤ 256
  pub signals : All IsSignal job.signals
