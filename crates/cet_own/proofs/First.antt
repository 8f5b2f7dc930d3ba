-- The start words and the first book are in step, and thread 0 is at rest. Source: own.
use Rattle.std.proofs.Common.{Some, ◌≡◌, ◌≢◌, ℕ, zero, suc, ◌+◌, ◌-◌, ◌*◌, ◌%◌, ◌<◌, ◌≤◌, ◌⊎◌, inl, inr, Bool, true, false, List, [], ◌∷◌, length, refl, sym, ◌∙◌, ap, subst, arith}
use Rattle.std.specs.Prelude.{slice_index, slice_get, nat_lt, ◌==◌}
use Rattle.std.proofs.lemmas.Bool.{cases_lt, false≢true}
use Rattle.std.proofs.lemmas.Bool.Decides.{nat_tests}
use Rattle.std.proofs.lemmas.List.{get_or_past}
use Rattle.cet_words.specs.Entries.{entry_of}
use Rattle.cet_words.specs.Job.{JobData, IsJob, ImageData}
use Rattle.cet_words.specs.Layout.{exit_word, entry_word, token, token_word, first_entry_word, first_kernel_page, first_kernel_word, first_mmap_page, first_region_end, first_shadow_page, first_stack_word, page_count, first_action_word}
use Rattle.cet_words.specs.Start.{kernel_word, is_present, start_entry, start_word, IsStart}
use Rattle.cet_book.specs.declared.entries.Holder.TheVariants.{Parked, Current}
use Rattle.cet_book.specs.Book.{region, top, current_of, stack_of, first_book}
use Rattle.cet_book.proofs.Addresses.{first_returns}
use Rattle.cet_book.proofs.Edits.{current_holds}
use Rattle.cet_book.proofs.First.{no_stack, first_empty, first_current, first_is_book}
use Rattle.cet_book.specs.Stack.{slot, slot_word, tops}
use Rattle.cet_book.specs.Facts.{Stack, Place, LiesIn}
use Rattle.cet_page.specs.Core.{first_core, unheld}
use Rattle.cet_page.specs.Machine.{Machine, Thread, Starts}
use Rattle.cet_page.proofs.WithinLaws.{first_waits}
use Rattle.cet_own.specs.ExitWord.{IsExitWord}
use Rattle.cet_own.specs.Past.{restorer_word, next_word, draw_word}
use Rattle.cet_own.specs.Holds.{Marks, Pages, Gates, Holds}
use Rattle.cet_own.specs.Facts.{Restorers, IsEntry, busy, HasMade}
use Rattle.cet_book.specs.Relied.{Free}
use Rattle.cet_book.proofs.Held.{held_free}
use Rattle.cet_own.specs.Claims.{AtRest, HasNone, Still}
use Rattle.cet_own.proofs.Rows.{row_claim}
use Rattle.cet_page.specs.Trail.{trail_of}
use Rattle.cet_own.proofs.Paid.{Paid}
use Rattle.cet_own.proofs.Still.{still_none}
use Rattle.cet_own.specs.Threads.{InRow, ThreadStands}

-- ---- words

-- an entry at the start, also past the last page
first_entry : (image : ImageData) (words : List ℕ) (page : ℕ) → IsStart image words → page < page_count → slice_index words (entry_word page) ≡ start_entry image page
unfolding start_word
first_entry image words page s l =
    let n : entry_word page - first_entry_word ≡ page = omega arith in
    let a : nat_lt (entry_word page) first_stack_word ≡ false = grind (arith, nat_tests) in
    let b : nat_lt (entry_word page) first_kernel_word ≡ false = grind (arith, nat_tests) in
    let c : nat_lt (entry_word page) first_entry_word ≡ false = grind (arith, nat_tests) in
    s.each (entry_word page) (omega arith) ∙ rw (a, b, c) (ap (start_entry image) n)

is_entry : (image : ImageData) (page : ℕ) (c : Bool) → is_present page ≡ c → IsEntry image page (start_entry image page)
unfolding start_entry
is_entry image page true e = inr (rw e refl)
is_entry image page false e = inl (rw e refl)

present_is : (image : ImageData) (page : ℕ) → is_present page ≡ true → start_entry image page ≡ entry_of image page
unfolding start_entry
present_is image page e = rw e refl

absent_is : (image : ImageData) (page : ℕ) → is_present page ≡ false → start_entry image page ≡ 0
unfolding start_entry
absent_is image page e = rw e refl

-- a present page of the shadow area is one of the first region's
shadow_present : (page : ℕ) (c : Bool) → is_present page ≡ c → first_shadow_page ≤ page → page < first_kernel_page → ((c ≡ true) → (first_shadow_page < page) × (page < 2121))
shadow_present page true e lo hi f = (grind (arith, nat_tests), grind (arith, nat_tests))
shadow_present page false e lo hi f = absurd (false≢true f)

first_lies : (image : ImageData) (words : List ℕ) (page : ℕ) → IsStart image words → first_shadow_page ≤ page → page < first_kernel_page → slice_index words (entry_word page) ≢ 0 → (c : Bool) →
    is_present page ≡ c → LiesIn (region first_book 0) page
first_lies image words page s lo hi n true e = let p = shadow_present page true e lo hi refl in let low = p.0 in let high = p.1 in record { low = omega arith; high = omega arith }
first_lies image words page s lo hi n false e = absurd (n (first_entry image words page s (omega arith) ∙ absent_is image page e))

fixed_present : (page : ℕ) → (page < first_mmap_page) ⊎ ((first_kernel_page ≤ page) × (page < page_count)) → is_present page ≡ true
fixed_present page (inl l) = grind (arith, nat_tests)
fixed_present page (inr r) = let low = r.0 in grind (arith, nat_tests)

fixed_below : (page : ℕ) → (page < first_mmap_page) ⊎ ((first_kernel_page ≤ page) × (page < page_count)) → page < page_count
fixed_below page (inl l) = omega arith
fixed_below page (inr r) = r.1

first_pages : (image : ImageData) (words : List ℕ) → IsStart image words → Pages image words first_book
first_pages image words s = record {
  entries = λ page. elim (cases_lt page page_count) [
    | inl l ↦ subst (IsEntry image page) (sym (first_entry image words page s l)) (is_entry image page (is_present page) refl)
    | inr g ↦ inl (let size = s.size in let past : length words ≤ entry_word page = omega arith in get_or_past words (entry_word page) 0 past)
  ];
  fixed = λ page f. first_entry image words page s (fixed_below page f) ∙ present_is image page (fixed_present page f);
  shadow = λ page lo hi n. (0, first_lies image words page s lo hi n (is_present page) refl);
}

token_start : (k : ℕ) → k < 8 → kernel_word (1535 + 1024 * k) ≡ token k
unfolding kernel_word
token_start k l =
    let a : (1535 + 1024 * k == 1) ≡ false = grind (arith, nat_tests) in
    let b : (1535 + 1024 * k == 2) ≡ false = grind (arith, nat_tests) in
    let c : nat_lt 511 (1535 + 1024 * k) ≡ true = grind (arith, nat_tests) in
    let r : (1535 + 1024 * k) % 1024 ≡ 511 = omega arith in
    let d : ((1535 + 1024 * k) % 1024 == 511) ≡ true = grind (arith, nat_tests) in
    rw (a, b, c, d) (omega arith)

first_gates : (image : ImageData) (words : List ℕ) → IsStart image words → Gates words first_book
unfolding start_word
first_gates image words s k l =
    let a : nat_lt (token_word k) first_stack_word ≡ false = grind (arith, nat_tests) in
    let b : nat_lt (token_word k) first_kernel_word ≡ false = grind (arith, nat_tests) in
    let c : nat_lt (token_word k) first_entry_word ≡ true = grind (arith, nat_tests) in
    let n : token_word k - first_kernel_word ≡ 1535 + 1024 * k = omega arith in
    let is : start_word image (token_word k) ≡ token k = rw (a, b, c) (ap kernel_word n ∙ token_start k l) in
    let none : busy (stack_of first_book k) ≡ 0 = ap busy (no_stack k) in
    s.each (token_word k) (omega arith) ∙ is ∙ omega arith

-- the words of signals are 0
action_start : (image : ImageData) (words : List ℕ) (n : ℕ) → IsStart image words → n < 256 → slice_index words (first_action_word + n) ≡ 0
unfolding start_word kernel_word
action_start image words n s l =
    let a : nat_lt (first_action_word + n) first_stack_word ≡ false = grind (arith, nat_tests) in
    let b : nat_lt (first_action_word + n) first_kernel_word ≡ false = grind (arith, nat_tests) in
    let c : nat_lt (first_action_word + n) first_entry_word ≡ true = grind (arith, nat_tests) in
    let at : first_action_word + n - first_kernel_word ≡ 64 + n = omega arith in
    let d : (64 + n == 1) ≡ false = grind (arith, nat_tests) in
    let e : (64 + n == 2) ≡ false = grind (arith, nat_tests) in
    let f : nat_lt 511 (64 + n) ≡ false = grind (arith, nat_tests) in
    let zero : kernel_word (64 + n) ≡ 0 = rw (d, e, f) refl in
    s.each (first_action_word + n) (omega arith) ∙ rw (a, b, c) (ap kernel_word at ∙ zero)

first_restorers : (image : ImageData) (words : List ℕ) → IsStart image words → Restorers image words
first_restorers image words s = record {
  executable = λ k l. inl (let at : restorer_word k ≡ first_action_word + (4 * k + 2) = omega arith in ap (slice_index words) at ∙ action_start image words (4 * k + 2) s (omega arith));
  shown = λ k l above. (let none = action_start image words (4 * k) s (omega arith) in absurd (omega arith));
}

shadow_start : (image : ImageData) (words : List ℕ) (p : ℕ) → IsStart image words → Place p → slot_word words p ≡ 0
unfolding start_word
shadow_start image words p s pp =
    let low = pp.low in
    let high = pp.high in
    let a : nat_lt (slot p) first_stack_word ≡ false = grind (arith, nat_tests) in
    let b : nat_lt (slot p) first_kernel_word ≡ true = grind (arith, nat_tests) in
    s.each (slot p) (omega arith) ∙ rw (a, b) refl

pub draw_start : (image : ImageData) (words : List ℕ) → IsStart image words → slice_index words draw_word ≡ 9
unfolding start_word kernel_word
draw_start image words s = s.each draw_word (omega arith)

pub next_start : (image : ImageData) (words : List ℕ) → IsStart image words → slice_index words next_word ≡ 1
unfolding start_word kernel_word
next_start image words s = s.each next_word (omega arith)

first_parked : (i : ℕ) → (region first_book i).holder ≢ Parked
first_parked zero e = cc
first_parked (suc i) e = cc

first_end : (i : ℕ) → (region first_book i).end ≤ first_region_end
first_end zero = omega arith
first_end (suc i) = omega arith

first_marks : (image : ImageData) (words : List ℕ) → IsStart image words → Marks words first_book
first_marks image words s = record {
  parked = λ i e. absurd (first_parked i e);
  token = λ p pp e. absurd (let z = shadow_start image words p s pp in omega arith);
  zeros = λ p pp n. absurd (n (shadow_start image words p s pp));
  drawn = λ i. (let e = draw_start image words s in let l = first_end i in omega arith);
}

first_ending : (image : ImageData) (words : List ℕ) → IsStart image words → IsExitWord (slice_index words exit_word)
unfolding start_word kernel_word
first_ending image words s = inl (s.each exit_word (omega arith))

pub first_holds : (image : ImageData) (words : List ℕ) → IsStart image words → Holds image words first_book
first_holds image words s = record {
  size = s.size;
  sound = record { book = first_is_book; returns = first_returns };
  stacks = λ i. subst (Stack words (tops first_book) (top (region first_book i))) (sym (first_empty i)) tt;
  pages = first_pages image words s;
  gates = first_gates image words s;
  restorers = first_restorers image words s;
  marks = first_marks image words s;
  ending = first_ending image words s;
}

-- ---- threads

none_free : (t : ℕ) → Free t first_book
none_free t k e = let n = no_stack k in cc

first_rest : AtRest 0 first_book first_region_end
first_rest = record {
  stacked = record {
    top = record { has = (let e = first_current in omega arith); at = sym (ap (λ i. top (region first_book i)) first_current); aligned = refl };
    low = omega arith;
    high = omega arith;
  };
  free = none_free 0;
}

-- no other thread is born
first_none : (t : ℕ) → HasNone (suc t) first_book
first_none t = record {
  regions = elim (cases_lt (current_of (suc t) first_book) (length first_book.regions)) [
    | inl l ↦ absurd (
        let h = current_holds (suc t) first_book l in
        let z : current_of (suc t) first_book ≡ 0 = omega arith in
        let e : Current 0 ≡ Current (suc t) = subst (λ i. (region first_book i).holder ≡ Current (suc t)) z h in
        let f : 0 ≡ suc t = cc in
        omega arith)
    | inr g ↦ g
  ];
  free = none_free (suc t);
}

first_row : (job : JobData) → IsJob job → InRow job 0 (record { book = first_book }) (first_core job)
first_row job j =
    let w = first_waits job j in
    record {
      waits = w;
      number = refl;
      holding = refl;
      own = λ k e. cc;
      told = tt;
      before = record { book = first_book };
      left = row_claim job j (unheld (first_core job).arch) (record { book = first_book }) (record { book = first_book }) (record { number = w.state.number; made = w.state.made }) first_rest;
    }

first_thread : (job : JobData) → IsJob job → (t : ℕ) → ThreadStands job t (record { book = first_book }) (slice_get (record { core = first_core job; trace = [] } ∷ []) t)
first_thread job j zero = (held_free 0 first_book (none_free 0), first_row job j)
first_thread job j (suc t) = first_none t

pub first_threads : (job : JobData) (start : Machine) → IsJob job → Starts job start → (t : ℕ) → ThreadStands job t (record { book = first_book }) (slice_get start.threads t)
first_threads job start j s t = subst (λ (l : List Thread). ThreadStands job t (record { book = first_book }) (slice_get l t)) (sym s.threads) (first_thread job j t)

-- no row has begun
still_by : (job : JobData) (words : List ℕ) (t : ℕ) (x : Thread) → slice_get {X = Thread} (record { core = first_core job; trace = [] } ∷ []) t ≡ Some x → Still words t first_book (trail_of job x.core)
still_by job words zero x e =
    let threads : List Thread = record { core = first_core job; trace = [] } ∷ [] in
    let e' : slice_get threads 0 ≡ Some x = e in
    let f : slice_get threads 0 ≡ Some (record { core = first_core job; trace = [] }) = refl in
    let is : record { core = first_core job; trace = [] } ≡ x = cc in
    subst (λ (z : Thread). Still words zero first_book (trail_of job z.core)) is (still_none words zero first_book)
still_by job words (suc t) x e = cc

pub first_still : (job : JobData) (start : Machine) → Starts job start → (t : ℕ) (x : Thread) → slice_get start.threads t ≡ Some x → Still start.words t first_book (trail_of job x.core)
first_still job start s t x e = still_by job start.words t x (subst (λ (l : List Thread). slice_get l t ≡ Some x) s.threads e)

-- ---- draws

count_by : (job : JobData) (t : ℕ) (x : Thread) → slice_get {X = Thread} (record { core = first_core job; trace = [] } ∷ []) t ≡ Some x → x.core.arch.count ≤ job.limit
count_by job zero x e =
    let threads : List Thread = record { core = first_core job; trace = [] } ∷ [] in
    let e' : slice_get threads 0 ≡ Some x = e in
    let f : slice_get threads 0 ≡ Some (record { core = first_core job; trace = [] }) = refl in
    let is : record { core = first_core job; trace = [] } ≡ x = cc in
    subst (λ (z : Thread). z.core.arch.count ≤ job.limit) is (omega arith)
count_by job (suc t) x e = cc

pub first_paid : (job : JobData) (start : Machine) → Starts job start → Paid job start.words start.threads
first_paid job start s = subst (Paid job start.words) (sym s.threads) (record {
  least = (let e = next_start job.image start.words s.words in omega arith);
  number = (let e = next_start job.image start.words s.words in omega arith);
  counts = λ t x e. count_by job t x e;
  nexts = (let e = next_start job.image start.words s.words in omega arith);
  draws = (let e = draw_start job.image start.words s.words in omega arith);
})

-- ---- the region that the kernel made

made_by : (job : JobData) (t : ℕ) (x : Thread) → slice_get {X = Thread} (record { core = first_core job; trace = [] } ∷ []) t ≡ Some x → HasMade x.core.arch.made first_book
made_by job zero x e =
    let threads : List Thread = record { core = first_core job; trace = [] } ∷ [] in
    let e' : slice_get threads 0 ≡ Some x = e in
    let f : slice_get threads 0 ≡ Some (record { core = first_core job; trace = [] }) = refl in
    let is : record { core = first_core job; trace = [] } ≡ x = cc in
    subst (λ (z : Thread). HasMade z.core.arch.made first_book) is (record { number = 0; there = omega arith; first = refl; last = refl })
made_by job (suc t) x e = cc

pub first_made : (job : JobData) (start : Machine) → Starts job start → (t : ℕ) (x : Thread) → slice_get start.threads t ≡ Some x → HasMade x.core.arch.made first_book
first_made job start s t x e = made_by job t x (subst (λ (l : List Thread). slice_get l t ≡ Some x) s.threads e)
