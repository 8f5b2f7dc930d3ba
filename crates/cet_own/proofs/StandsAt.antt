-- The facts of the ownership invariant, from what is carried from turn to turn. Source: own.
use Rattle.cet_book.proofs.Supervisor.{stack_there}
use Rattle.cet_own.specs.Claims.{Still}
use Rattle.cet_own.specs.Past.{held_in, left_in}
use Rattle.cet_own.proofs.Told.{free_note}
use Rattle.cet_book.specs.Relied.{Free, Held}
use Rattle.cet_page.specs.Trail.{Visit, row_trail, trail_of}
use Rattle.cet_words.specs.Layout.{token_word, kernel_return}
use Rattle.std.proofs.Common.{◌≡◌, ℕ, ◌+◌, ◌-◌, ◌<◌, inl, inr, List, Option, Some, None, ap, sym, ◌∙◌, subst, arith, true, refl}
use Rattle.std.specs.Prelude.{◌↔◌, ◌%◌, slice_get, bit_or, is_some, slice_index}
use Rattle.std.proofs.lemmas.Bool.Decides.{eqb_tells}
use Rattle.cet_words.specs.Job.{JobData}
use Rattle.cet_isa.specs.declared.threads.End.{End}
use Rattle.cet_isa.specs.declared.threads.End.TheVariants as ending
use Rattle.cet_book.specs.Book.{Book, region, top, stack_of}
use Rattle.cet_book.specs.Facts.{Place}
use Rattle.cet_book.specs.Stack.{slot_word}
use Rattle.cet_book.proofs.Hand.{Made, made_empty}
use Rattle.cet_page.specs.Machine.{Machine, Thread}
use Rattle.cet_page.specs.Core.{Core}
use Rattle.cet_page.specs.Within.{CoreAt, Rests}
use Rattle.cet_own.specs.ToldTokens.{IsToken}
use Rattle.cet_own.specs.Facts.{AllTold, ShadowPages, AllBounds, below_token}
use Rattle.cet_own.specs.Stands.{Stands}
use Rattle.cet_own.specs.Holds.{Marks}
use Rattle.cet_own.proofs.TokenWords.{restore_token_is}
use Rattle.cet_own.specs.Owed.{State}
use Rattle.cet_own.proofs.Seeded.{making_zero}
use Rattle.cet_own.specs.Threads.{CoreStands, ThreadStands}
use Rattle.cet_own.proofs.Turns.{Invariant, safe_at}

-- a word is a restore token exactly where a parked region has its token
pub token_found : (words : List ℕ) (b : Book) (p : ℕ) → Marks words b → Place p → slot_word words p ≡ p + 9 ↔ IsToken b p
token_found words b p h place = (
  λ e. (let found = h.token p place e in (found.0, found.1.parked, found.1.top_is)),
  λ k.
      let at = k.2 in
      let here : top (region b k.0) - 8 ≡ p = omega arith in
      subst (λ n. slot_word words n ≡ top (region b k.0) + 1) here (h.parked k.0 k.1) ∙ omega arith,
)

pub core_at : (job : JobData) (t : ℕ) (s : State) (thread : Thread) (over : Option End) → CoreStands job t s thread.core over → CoreAt job thread.core over
core_at job t s thread None h = h.waits
core_at job t s thread (Some (ending.Exit status)) h = h.1
core_at job t s thread (Some ending.Group) h = h.2
core_at job t s thread (Some ending.Limit) h = h.2

-- a thread at an end holds nothing, and is in no row
none_held : (job : JobData) (t : ℕ) (s : State) (core : Core) → Rests job core → Free t s.book → Held t s.book core.arch.held → core.arch.held ≡ held_in (trail_of job core)
none_held job t s core rests free held = free_note t s.book core.arch.held free held ∙ sym (ap (λ vals. held_in (row_trail job core.arch vals)) rests.vals)

core_held : (job : JobData) (t : ℕ) (s : State) (core : Core) (over : Option End) → CoreStands job t s core over → Held t s.book core.arch.held → core.arch.held ≡ held_in (trail_of job core)
core_held job t s core None h held = h.holding
core_held job t s core (Some (ending.Exit status)) h held = none_held job t s core h.1 h.0.free held
core_held job t s core (Some ending.Group) h held = none_held job t s core h.2 h.0.free held
core_held job t s core (Some ending.Limit) h held = none_held job t s core h.2 h.0.free held

core_own : (job : JobData) (t : ℕ) (s : State) (core : Core) (over : Option End) → CoreStands job t s core over → Held t s.book core.arch.held → (k : ℕ) → core.arch.held ≡ Some k → k ≡ core.arch.number % job.procs
core_own job t s core None h held k e = h.own k e
core_own job t s core (Some (ending.Exit status)) h held k e = absurd (h.0.free k ((held k).0 e))
core_own job t s core (Some ending.Group) h held k e = absurd (h.0.free k ((held k).0 e))
core_own job t s core (Some ending.Limit) h held k e = absurd (h.0.free k ((held k).0 e))

none_told : (job : JobData) (s : State) (core : Core) → Rests job core → AllTold job.image s.book (trail_of job core)
none_told job s core rests = subst (λ vals. AllTold job.image s.book (row_trail job core.arch vals)) (sym rests.vals) tt

core_told : (job : JobData) (t : ℕ) (s : State) (core : Core) (over : Option End) → CoreStands job t s core over → AllTold job.image s.book (trail_of job core)
core_told job t s core None h = h.told
core_told job t s core (Some (ending.Exit status)) h = none_told job s core h.1
core_told job t s core (Some ending.Group) h = none_told job s core h.2
core_told job t s core (Some ending.Limit) h = none_told job s core h.2

core_below : (job : JobData) (t : ℕ) (s : State) (thread : Thread) (over : Option End) → over ≡ None → CoreStands job t s thread.core over → thread.core.arch.count < job.limit
core_below job t s thread None e h = h.waits.count
core_below job t s thread (Some x) e h = cc

module _ (job : JobData) (m : Machine) (s : State) (st : Invariant job m s) where
  thread_at : (t : ℕ) (thread : Thread) → slice_get m.threads t ≡ Some thread → ThreadStands job t s (Some thread)
  thread_at t thread e = subst (ThreadStands job t s) e (st.threads t)

  shadow_pages : ShadowPages m.words s.book
  shadow_pages = record {
    present = st.holds.pages.shadow;
    outside = λ p place none. elim (eqb_tells (slot_word m.words p) 0) [
      | inl u ↦ u.1
      | inr u ↦ absurd (let used = st.holds.marks.zeros p place u.1 in none used.0 used.1.inside)
    ];
    making = λ p t i place e inn. making_zero m.words s.book t i p (record { shape = st.holds.sound.book.shape; maker = e }) st.holds.marks place inn;
    empty = λ t i e. (let made : Made t i s.book = record { shape = st.holds.sound.book.shape; maker = e } in made_empty made);
  }

  tokens : (p : ℕ) → Place p → slot_word m.words p ≡ bit_or (p + 8) 1 ↔ IsToken s.book p
  tokens p place =
      let even = place.even in
      let bits : bit_or (p + 8) 1 ≡ p + 9 = restore_token_is (p + 8) (omega arith) ∙ omega arith in
      subst (λ n. slot_word m.words p ≡ n ↔ IsToken s.book p) (sym bits) (token_found m.words s.book p st.holds.marks place)

  all_bounds : AllBounds job.image m.words s.book
  all_bounds = record {
    regions = st.holds.sound.book.shape.bounds;
    room = λ i. (st.holds.sound.book.shape.fits i).room;
    returns = st.holds.sound.returns;
    entries = st.holds.pages.entries;
    fixed = st.holds.pages.fixed;
  }

  -- what stands below the token of a stack that a thread holds
  below_told : (t k : ℕ) (past : List Visit) → Still m.words t s.book past → stack_of s.book k ≡ Some t → (left : Option ℕ) → left_in past (token_word k - 1) ≡ left → is_some left ≡ true →
      slice_index m.words (token_word k - 1) ≡ kernel_return
  below_told t k past still own None e q = cc
  below_told t k past still own (Some x) e q =
      let eight = st.holds.sound.book.stacks.eight in
      let there = stack_there t k s.book own in
      let few : k < 8 = omega arith in
      still.word (token_word k - 1) x (below_token k few own refl) e ∙ still.below k x few own e

  pub stands_at : Stands job m s.book
  stands_at = record {
    safe = safe_at job m s st;
    shadow_pages = shadow_pages;
    entries_written = st.holds.stacks;
    tokens = tokens;
    previous_left = st.holds.sound.book.shape.chain;
    supervisor_tokens = record {
      token = st.holds.gates;
      below = λ t thread e k own q. below_told t k (trail_of job thread.core) (st.still t thread e) own (left_in (trail_of job thread.core) (token_word k - 1)) refl q;
    };
    restorers = st.holds.restorers;
    steady_rows = λ t thread e. record {
      word = (st.still t thread e).place;
      below = λ k x l own q. (st.still t thread e).word (token_word k - 1) x (below_token k l own refl) q;
      claimed = (st.still t thread e).claimed;
    };
    counters = record { drawn = st.holds.marks.drawn; least = st.paid.least; number = st.paid.number };
    made = st.made;
    bounds = all_bounds;
    row_values = λ t thread e. record {
      waits = core_at job t s thread thread.core.over (thread_at t thread e).1;
      restorer = (st.still t thread e).restorer;
      held = core_held job t s thread.core thread.core.over (thread_at t thread e).1 (thread_at t thread e).0;
      own = core_own job t s thread.core thread.core.over (thread_at t thread e).1 (thread_at t thread e).0;
      told = core_told job t s thread.core thread.core.over (thread_at t thread e).1;
    };
    counts = record {
      most = st.paid.counts;
      below = λ t thread e over. core_below job t s thread thread.core.over over (thread_at t thread e).1;
      draws = st.paid.draws;
      births = st.paid.nexts;
    };
    size = st.holds.size;
    eight = st.holds.sound.book.stacks.eight;
    ending = st.holds.ending;
    rows = st.threads;
  }
