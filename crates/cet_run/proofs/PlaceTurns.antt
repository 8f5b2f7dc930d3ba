-- A turn of the live thread at a place.
use Rattle.std.proofs.Common.{◌≡◌, ℕ, ◌+◌, ◌<◌, List, length, get_or, Some, refl, sym, ap, ◌∙◌, arith}
use Rattle.std.specs.Prelude.{slice_get}
use Rattle.std.proofs.lemmas.List.{length-map}
use Rattle.std.proofs.lemmas.Option.{slice_get_read}
use Rattle.cet_words.specs.Job.{JobData}
use Rattle.cet_page.specs.Machine.{Machine, step}
use Rattle.cet_run.specs.Schedule.{live_from}
use Rattle.cet_run.specs.TracedThreads.{TracedThreadData, thread_of, threads_of}
use Rattle.cet_run.specs.Turns.{IsGoing, IsStill, IsTurned, TurnedAt}
use Rattle.cet_run.proofs.LiveThreads.{live_at, next_goes, next_stays}

-- the number at a place of the list of the live ones
pub place_live : (all_traced : List TracedThreadData) (live : List ℕ) (place at : ℕ) → live ≡ live_from (threads_of all_traced) 0 → place < length live → at ≡ get_or live place at →
    slice_get (live_from (threads_of all_traced) 0) place ≡ Some at
place_live all_traced live place at numbers l is = ap (λ xs. slice_get xs place) (sym numbers) ∙ slice_get_read live (length live) place at refl l is

pub place_inside : (all_traced : List TracedThreadData) (live : List ℕ) (place at : ℕ) → live ≡ live_from (threads_of all_traced) 0 → place < length live → at ≡ get_or live place at → at < length all_traced
place_inside all_traced live place at numbers l is =
    let there = (live_at (threads_of all_traced) place at (place_live all_traced live place at numbers l is)).inside in
    let size : length (threads_of all_traced) ≡ length all_traced = length-map all_traced thread_of in
    omega arith

pub place_going : (all_traced : List TracedThreadData) (live : List ℕ) (place at : ℕ) → live ≡ live_from (threads_of all_traced) 0 → place < length live → at ≡ get_or live place at → IsGoing (threads_of all_traced) at
place_going all_traced live place at numbers l is = (live_at (threads_of all_traced) place at (place_live all_traced live place at numbers l is)).going

-- the thread goes on, or has ended now
pub turned_goes : (job : JobData) (m m' : Machine) (place at : ℕ) → slice_get (live_from m.threads 0) place ≡ Some at → m' ≡ step job m at → IsTurned m.threads m'.threads at → IsGoing m'.threads at →
    TurnedAt job m m' place (place + 1)
turned_goes job m m' place at is stepped turned going = record { thread = at; at = is; step = stepped; later = next_goes m.threads m'.threads place at is turned going }

pub turned_stays : (job : JobData) (m m' : Machine) (place at : ℕ) → slice_get (live_from m.threads 0) place ≡ Some at → m' ≡ step job m at → IsTurned m.threads m'.threads at → IsStill m'.threads at →
    TurnedAt job m m' place place
turned_stays job m m' place at is stepped turned still = record { thread = at; at = is; step = stepped; later = next_stays m.threads m'.threads place at is turned still }
