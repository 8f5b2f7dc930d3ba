-- the bytes so far, and those that can be fetched from there on, are all
use Rattle.std.proofs.Common.{◌≡◌, ◌+◌, ◌-◌, ◌^◌, ◌<◌, ◌++◌, length, take}
use Rattle.cet_page.specs.Fetch.{fetchable}
use Rattle.cet_page.proofs.fetches.fetch_each.Given as goal

abbrev pub invariant-loop-at : goal.invariant-loop-at
invariant-loop-at l = record {
  bytes : take l.at l.buffer ++ fetchable l.image.segments (l.addr + l.at) (length l.buffer - l.at) ≡ fetchable l.image.segments l.addr (length l.buffer);
  room : l.addr + l.at < 2 ^ 64;
}
