-- Each add to a counter is paid for by a record of its thread, so the counters stay small. They are sums over the machine's
-- threads, outside of what claims speak of. Source: own.
use Rattle.std.proofs.Common.{◌≡◌, ◌≢◌, ℕ, ◌+◌, ◌*◌, ◌%◌, ◌^◌, ◌<◌, ◌≤◌, Bool, true, false, List, length, Option, Some, None, refl, sym, ap, subst, arith, get_or, get_or-set_same, get_or-set_other}
use Rattle.std.specs.Prelude.{slice_index, slice_set, slice_get, ◌==◌, ◌||◌, if◌then◌else◌, min, sum_by, All, bit_or, bit_and}
use Rattle.std.proofs.lemmas.Bool.Decides.{nat_tests}
use Rattle.std.proofs.lemmas.List.Elements.{All-from_get_or}
use Rattle.std.proofs.lemmas.List.Sums.{sum_by-set, sum_by-le}
use Rattle.std.proofs.lemmas.Option.{get_or_from_slice_get, slice_get-get_or, slice_get_past, slice_get_within}
use Rattle.cet_words.specs.Layout.{word_count}
use Rattle.cet_words.specs.Access.{after}
use Rattle.cet_words.specs.Job.{JobData, IsJob}
use Rattle.cet_words.specs.declared.accesses.Access.{Access}
use Rattle.cet_words.specs.declared.accesses.Access.TheVariants as access
use Rattle.cet_isa.specs.declared.threads.Arch.{Arch}
use Rattle.cet_words.specs.Change.{Change}
use Rattle.cet_book.specs.Book.{Book}
use Rattle.cet_book.specs.Facts.{one}
use Rattle.cet_page.specs.Core.{Core, unheld, core_by}
use Rattle.cet_page.specs.Machine.{Thread}
use Rattle.cet_page.proofs.Walk.{OnOver}
use Rattle.cet_page.proofs.WalkRows.{Ends}
use Rattle.cet_page.specs.Script.{Played, Completed, Faulted, Wants}
use Rattle.cet_page.specs.ValsData.{ValsData}
use Rattle.cet_page.specs.declared.finishes.Finish.{Finish}
use Rattle.cet_page.specs.declared.finishes.Finish.TheVariants.{Noted, Posted, Exited, Stopped}
use Rattle.cet_own.specs.Threads as calls
use Rattle.cet_page.specs.Trail.{Visit, row_trail, trail_of}
use Rattle.cet_own.proofs.Frame.{OnCame}
use Rattle.cet_own.specs.Owed.{State, rules}
use Rattle.cet_own.specs.Threads.{During, Fails}
use Rattle.cet_own.specs.Past.{draw_word, next_word, is_draw, drew, is_number, numbered}
use Rattle.cet_own.proofs.Counters.{CountersTell}
use Rattle.cet_own.specs.Claims.{CountsBy, no_count, draws_pages, bears_child, bears_nobody, alters, HasNone}
use Rattle.cet_own.specs.Facts.{paid_births, paid_draws, thread_births, thread_draws}

-- ---- one access

apart_word : (words : List ℕ) (word w x : ℕ) → (word == w) ≡ false → slice_index (slice_set words word x) w ≡ slice_index words w
apart_word words word w x e = let n : w ≢ word = grind (arith, nat_tests) in get_or-set_other words word w x 0 n

apart_if : (words : List ℕ) (word w x : ℕ) (c : Bool) → (word == w) ≡ false → slice_index (if c then slice_set words word x else words) w ≡ slice_index words w
apart_if words word w x true e = apart_word words word w x e
apart_if words word w x false e = refl

pub unaltered : (a : Access) (words : List ℕ) (w : ℕ) → alters a w ≡ false → slice_index (after words a) w ≡ slice_index words w
unaltered (access.Look page) words w e = refl
unaltered (access.Load word) words w e = refl
unaltered (access.Store word value) words w e = apart_word words word w value e
unaltered (access.Swap word value) words w e = apart_word words word w value e
unaltered (access.FetchAdd word value) words w e = apart_word words word w ((slice_index words word + value) % 2 ^ 64) e
unaltered (access.FetchOr word value) words w e = apart_word words word w (bit_or (slice_index words word) value) e
unaltered (access.FetchAnd word value) words w e = apart_word words word w (bit_and (slice_index words word) value) e
unaltered (access.CompareExchange word expected value) words w e = apart_if words word w value (slice_index words word == expected) e

no_draw : (a : Access) → alters a draw_word ≡ false → is_draw a ≡ false
no_draw (access.FetchAdd word value) e = e
no_draw a e = refl

no_number : (a : Access) → alters a next_word ≡ false → is_number a ≡ false
no_number (access.FetchAdd word value) e = e
no_number a e = refl

-- by an access the counters grow no more than the row owes for it
pub record Counted (words : List ℕ) (a : Access) (past : List Visit) : Type 0 where
  pub draws : slice_index (after words a) draw_word + 1023 * one (drew past) ≤ slice_index words draw_word + 1023 * one (is_draw a || drew past)
  pub nexts : slice_index (after words a) next_word + one (numbered past) ≤ slice_index words next_word + one (is_number a || numbered past)

added : (words : List ℕ) (a : Access) (past : List Visit) → length words ≡ word_count → a ≡ access.FetchAdd next_word 1 → numbered past ≡ false → Counted words a past
added words a past size e once =
    subst (λ c. Counted words c past) (sym e) (record {
      draws = (let same = unaltered (access.FetchAdd next_word 1) words draw_word refl in omega arith);
      nexts =
          (let inside : next_word < length words = omega arith in
          let now = get_or-set_same words next_word ((slice_index words next_word + 1) % 2 ^ 64) 0 inside in
          rw once (omega arith));
    })

pub counted : {t v : ℕ} {b : Book} {changes : List Change} (words : List ℕ) (a : Access) (past : List Visit) → length words ≡ word_count → CountsBy t past b a v changes → Counted words a past
counted words a past size (no_count d n none) = record {
  draws = (let same = unaltered a words draw_word d in let free = no_draw a d in rw free (omega arith));
  nexts = (let same = unaltered a words next_word n in let free = no_number a n in rw free (omega arith));
}
counted words a past size (draws_pages n most e once none) =
    subst (λ c. Counted words c past) (sym e) (record {
      draws =
          (let inside : draw_word < length words = omega arith in
          let now = get_or-set_same words draw_word ((slice_index words draw_word + n) % 2 ^ 64) 0 inside in
          rw once (omega arith));
      nexts = (let same = unaltered (access.FetchAdd draw_word n) words next_word refl in omega arith);
    })
counted words a past size (bears_child s start e few h once ev) = added words a past size e once
counted words a past size (bears_nobody e many once none) = added words a past size e once

-- ---- what the row has come to

pub one_most : (c : Bool) → one c ≤ 1
one_most true = omega arith
one_most false = omega arith

-- where the row ends, its record pays; the region that the kernel made stays the thread's
pub record Pays (job : JobData) (arch : Arch) (past : List Visit) (next : Core) : Type 0 where
  pub draws : arch.count + one (drew past) ≤ paid_draws job next
  pub nexts : arch.count + one (numbered past) ≤ paid_births job next
  pub count : next.arch.count ≤ arch.count + 1
  pub made : next.arch.made ≡ arch.made

pub came_pays : (job : JobData) (arch : Arch) (held : Option ℕ) (seen : ValsData) (before s : State) (c : Played Finish) →
    OnCame (rules job arch.number) (During (unheld arch)) (calls.Ends job (unheld arch)) (λ p. Fails job (unheld arch)) (row_trail job arch seen) before s c → OnOver (Ends job (unheld arch)) c →
    Pays job arch (row_trail job arch seen) (core_by job arch held seen c)
came_pays job arch held seen before s (Wants a changes) o k = record { draws = omega arith; nexts = omega arith; count = omega arith; made = refl }
came_pays job arch held seen before s (Faulted e) o k = record {
  draws = (let l = one_most (drew (row_trail job arch seen)) in omega arith);
  nexts = (let l = one_most (numbered (row_trail job arch seen)) in omega arith);
  count = omega arith;
  made = refl;
}
came_pays job arch held seen before s (Completed (Noted next r) left values) o k =
    let same : next.count ≡ arch.count + 1 = k.count in
    record {
      draws = (let l = one_most (drew (row_trail job arch seen)) in omega arith);
      nexts = (let l = one_most (numbered (row_trail job arch seen)) in omega arith);
      count = omega arith;
      made = k.made;
    }
came_pays job arch held seen before s (Completed (Posted next) left values) o k =
    let same : next.count ≡ arch.count = k.count in
    let none : one (drew (row_trail job arch seen)) ≡ 0 = ap one o.1 in
    let none' : one (numbered (row_trail job arch seen)) ≡ 0 = ap one o.2 in
    record { draws = omega arith; nexts = omega arith; count = omega arith; made = k.made }
came_pays job arch held seen before s (Completed (Exited next r status) left values) o k =
    let same : next.count ≡ arch.count + 1 = k.count in
    record {
      draws = (let l = one_most (drew (row_trail job arch seen)) in omega arith);
      nexts = (let l = one_most (numbered (row_trail job arch seen)) in omega arith);
      count = omega arith;
      made = k.made;
    }
came_pays job arch held seen before s (Completed Stopped left values) o k =
    let none : one (drew (row_trail job arch seen)) ≡ 0 = ap one o.1 in
    let none' : one (numbered (row_trail job arch seen)) ≡ 0 = ap one o.2 in
    record { draws = omega arith; nexts = omega arith; count = omega arith; made = refl }

-- ---- all threads

-- the number of threads by their counter, and both counters by what threads have paid
pub record Paid (job : JobData) (words : List ℕ) (threads : List Thread) : Type 0 where
  pub least : 1 ≤ slice_index words next_word
  pub number : length threads ≡ min (slice_index words next_word) 32
  pub counts : (t : ℕ) (thread : Thread) → slice_get threads t ≡ Some thread → thread.core.arch.count ≤ job.limit
  pub draws : slice_index words draw_word ≤ 9 + 1023 * sum_by (thread_draws job) threads
  pub nexts : slice_index words next_word ≤ 1 + sum_by (thread_births job) threads

-- 32 threads of at most 100,001 each
pub few_sum : (job : JobData) (threads : List Thread) (d : Thread) (f : Thread → ℕ) → length threads ≤ 32 → ((t : ℕ) (thread : Thread) → slice_get threads t ≡ Some thread → f thread ≤ 100001) →
    sum_by f threads ≤ 3200032
few_sum job threads d f few each =
    let all : All (λ x. f x ≤ 100001) threads = All-from_get_or (λ x. f x ≤ 100001) threads d (λ i l. each i (get_or threads i d) (slice_get-get_or threads i d l)) in
    let sum = sum_by-le f 100001 threads all in
    omega arith

-- so the counters don't wrap, and the next number is of no thread
pub counters_tell : (job : JobData) (words : List ℕ) (threads : List Thread) (t : ℕ) (thread : Thread) (b : Book) → IsJob job → Paid job words threads → slice_get threads t ≡ Some thread →
    ((y : ℕ) → slice_get threads y ≡ None → HasNone y b) → CountersTell words t b
counters_tell job words threads t thread b j p found none =
    let limit = j.limit_high in
    let number = p.number in
    let draws = p.draws in
    let nexts = p.nexts in
    let there = slice_get_within threads t thread found in
    let d = few_sum job threads thread (thread_draws job) (omega arith) (λ i x e. let c = p.counts i x e in let o = one_most (drew (trail_of job x.core)) in omega arith) in
    let n = few_sum job threads thread (thread_births job) (omega arith) (λ i x e. let c = p.counts i x e in let o = one_most (numbered (trail_of job x.core)) in omega arith) in
    record {
      draws = omega arith;
      nexts = omega arith;
      none = λ few. none (slice_index words next_word) (slice_get_past threads (slice_index words next_word) (omega arith));
      other = λ few z. omega arith;
    }

-- the sum, where one thread moves on
pub sum_moved : (threads : List Thread) (t : ℕ) (thread next : Thread) (f : Thread → ℕ) → t < length threads → slice_get threads t ≡ Some thread → sum_by f (slice_set threads t next) + f thread ≡ sum_by f threads + f next
sum_moved threads t thread next f inside found =
    let sum = sum_by-set f threads t next thread inside in
    let here : f (get_or threads t thread) ≡ f thread = ap f (get_or_from_slice_get threads t thread thread found) in
    omega arith
