-- What an access does to the counter of draws and to that of threads, and births. Source: own.
use Rattle.std.proofs.Common.{◌≡◌, ◌≢◌, ℕ, ◌+◌, ◌^◌, ◌<◌, ◌≤◌, false, List, [], ◌∷◌, None}
use Rattle.std.specs.Prelude.{slice_index}
use Rattle.cet_words.specs.Change.{Change, Born}
use Rattle.cet_words.specs.declared.accesses.Access.{Access}
use Rattle.cet_book.specs.Book.{Book}
use Rattle.cet_book.proofs.Kept.{NoneBorn}
use Rattle.cet_page.specs.Script.{birth}
use Rattle.cet_own.specs.Claims.{HasNone, alters}
use Rattle.cet_own.specs.Past.{draw_word, next_word}
use Rattle.cet_words.specs.Layout.{thread_limit}

-- the access changes neither counter
pub record LeavesCounters (a : Access) : Type 0 where
  pub draws : alters a draw_word ≡ false
  pub births : alters a next_word ≡ false

-- changes without a birth bear nobody
pub none_born : (changes : List Change) (y : ℕ) → birth changes ≡ None → NoneBorn changes y
none_born [] y e = tt
none_born (Born child start ∷ cs) y e = cc
none_born (c ∷ cs) y e = (tt, none_born cs y e)

-- what the counters tell a thread t: they don't wrap, and the next number is that of a thread not yet born
pub record CountersTell (words : List ℕ) (t : ℕ) (b : Book) : Type 0 where
  pub draws : slice_index words draw_word + 1024 ≤ 2 ^ 64
  pub nexts : slice_index words next_word + 1 < 2 ^ 64
  pub none : slice_index words next_word < thread_limit → HasNone (slice_index words next_word) b
  pub other : slice_index words next_word < thread_limit → t ≢ slice_index words next_word
