-- What is carried from turn to turn, from the public invariant: so that one is inductive. Source: own.
use Rattle.std.proofs.Common.{◌≡◌, ◌≢◌, ℕ, ◌+◌, ◌-◌, ◌<◌, ◌≤◌, ◌⊎◌, inl, inr, zero, suc, List, [], ◌∷◌, length, Bool, true, false, Option, Some, None, refl, sym, ◌∙◌, ap, subst, arith}
use Rattle.std.specs.Prelude.{slice_get, slice_index, is_some, if◌then◌else◌}
use Rattle.std.proofs.lemmas.Bool.{cases_lt}
use Rattle.cet_words.specs.Job.{JobData}
use Rattle.cet_words.specs.Layout.{token_word}
use Rattle.cet_book.specs.declared.entries.Holder.{Holder}
use Rattle.cet_book.specs.declared.entries.Holder.TheVariants.{Maker, Current, Parked, Left, Lost}
use Rattle.cet_book.specs.Book.{Book, region, top, stack_of}
use Rattle.cet_book.specs.Facts.{In, Place}
use Rattle.cet_book.specs.Shape.{HolderFits, IsBook, Shape}
use Rattle.cet_book.specs.Stack.{slot, slot_word}
use Rattle.cet_book.proofs.Edits.{current_of_is, is_there}
use Rattle.cet_page.specs.Machine.{Machine, Thread}
use Rattle.cet_page.specs.Tokens.{restore_token}
use Rattle.cet_page.specs.Trail.{Visit, trail_of}
use Rattle.cet_own.specs.Claims.{Still}
use Rattle.cet_own.specs.Facts.{IsOwnPlace, OwnWord, below_token, own_slot}
use Rattle.cet_own.specs.Holds.{Holds, InUse, IsMaker, Marks}
use Rattle.cet_own.specs.Past.{leaves_word, left_in, left_row, takes_any, touches}
use Rattle.cet_own.specs.Stands.{Stands}
use Rattle.cet_own.proofs.Marks.{parked_place}
use Rattle.cet_own.proofs.TokenWords.{restore_token_is}
use Rattle.cet_own.proofs.Turns.{Invariant}
use Rattle.cet_own.proofs.Writes.{in_there}

-- the restore token at p is the address above it with the low bit
token_is : (p : ℕ) → Place p → restore_token (p + 8) ≡ p + 9
token_is p place = let even = place.even in restore_token_is (p + 8) (omega arith) ∙ omega arith

-- ---- the region of an address

out_of : (b : Book) (p n : ℕ) → ((i : ℕ) → i < n → In (region b i) p → ⊥) → (In (region b n) p → ⊥) → (i : ℕ) → i < n + 1 → In (region b i) p → ⊥
out_of b p n none last i l h = elim (cases_lt i n) [
  | inl m ↦ none i m h
  | inr m ↦ last (let is : i ≡ n = omega arith in subst (λ k. In (region b k) p) is h)
]

-- among the first n regions
found_in : (b : Book) (p n : ℕ) → ((i : ℕ) × In (region b i) p) ⊎ ((i : ℕ) → i < n → In (region b i) p → ⊥)
found_in b p zero = inr (λ i l h. omega arith)
found_in b p (suc n) = elim (found_in b p n) [
  | inl x ↦ inl x
  | inr none ↦ elim (cases_lt p (region b n).start) [
    | inl low ↦ inr (λ i l h. out_of b p n none (λ at. (let start = at.low in omega arith)) i (omega arith) h)
    | inr up ↦ elim (cases_lt p (region b n).end) [
      | inl high ↦ inl (n, record { low = omega arith; high = high })
      | inr past ↦ inr (λ i l h. out_of b p n none (λ at. (let end = at.high in omega arith)) i (omega arith) h)
    ]
  ]
]

-- ---- what a row has seen

last_seen : (taking touching : Bool) (now x : ℕ) (seen row : Option ℕ) → (seen ≡ Some x → row ≡ Some x) → (if taking then None else (if touching then Some now else seen)) ≡ Some x →
    (if touching then Some now else row) ≡ Some x
last_seen true touching now x seen row h e = cc
last_seen false true now x seen row h e = e
last_seen false false now x seen row h e = h e

-- what it has seen since it took a stack is what it has seen last
seen_last : (past : List Visit) (w x : ℕ) → left_in past w ≡ Some x → left_row past w ≡ Some x
seen_last [] w x e = e
seen_last (y ∷ past) w x e =
    last_seen (takes_any y.changes) (touches y.access w) (leaves_word y.access y.answer) x (left_in past w) (left_row past w) (λ q. seen_last past w x q) e

steady_word : (words : List ℕ) (t : ℕ) (b : Book) (past : List Visit) (w x : ℕ) → ((addr x : ℕ) → Place addr → IsOwnPlace t b addr → left_row past (slot addr) ≡ Some x → slot_word words addr ≡ x) →
    ((k x : ℕ) → k < 8 → stack_of b k ≡ Some t → left_in past (token_word k - 1) ≡ Some x → slice_index words (token_word k - 1) ≡ x) → OwnWord t b w → left_in past w ≡ Some x → slice_index words w ≡ x
steady_word words t b past w x place below (own_slot addr at own is) e =
    subst (λ n. slice_index words n ≡ x) (sym is) (place addr x at own (seen_last past (slot addr) x (subst (λ n. left_in past n ≡ Some x) is e)))
steady_word words t b past w x place below (below_token k l own is) e = subst (λ n. slice_index words n ≡ x) (sym is) (below k x l own (subst (λ n. left_in past n ≡ Some x) is e))

-- ---- what is carried

module _ (job : JobData) (m : Machine) (b : Book) (st : Stands job m b) where
  not_making : (p i : ℕ) (h : Holder) → Place p → slot_word m.words p ≢ 0 → In (region b i) p → (region b i).holder ≡ h → IsMaker h → ⊥
  not_making p i (Maker t) place other inn e k = other (st.shadow_pages.making p t i place e inn)
  not_making p i (Current t) place other inn e k = k
  not_making p i Parked place other inn e k = k
  not_making p i (Left q) place other inn e k = k
  not_making p i Lost place other inn e k = k

  -- a word other than 0 lies in a region that isn't being made
  zeros : (p : ℕ) → Place p → slot_word m.words p ≢ 0 → (i : ℕ) × InUse (region b i) p
  zeros p place other = elim (found_in b p (length b.regions)) [
    | inl x ↦ (x.0, record { inside = x.1; made = λ k. not_making p x.0 (region b x.0).holder place other x.1 refl k })
    | inr none ↦ absurd (other (st.shadow_pages.outside p place (λ i h. none i (in_there b i p h) h)))
  ]

  -- a parked region has room for its token: else that would stand in the page below, where all words are 0
  has_room : (i : ℕ) → (region b i).holder ≡ Parked → (region b i).start + 8 ≤ top (region b i)
  has_room i e = elim (cases_lt (top (region b i)) ((region b i).start + 8)) [
    | inr g ↦ omega arith
    | inl l ↦ absurd (
        let inside : i < length b.regions = is_there b i (λ z. cc) in
        let bounds = st.bounds.regions i inside in
        let low = bounds.low in
        let high = bounds.high in
        let full = bounds.full in
        let first = bounds.first in
        let last = bounds.last in
        let room = st.bounds.room i in
        let p : ℕ = (region b i).start - 8 in
        let place : Place p = record { low = omega arith; high = omega arith; even = omega arith } in
        let top_is : top (region b i) ≡ p + 8 = omega arith in
        let word : slot_word m.words p ≡ p + 9 = (st.tokens p place).1 (i, e, top_is) ∙ token_is p place in
        let used = zeros p place (λ z. omega arith) in
        let inn = used.1.inside in
        let from = inn.low in
        let to = inn.high in
        let there = in_there b used.0 p inn in
        let end = (st.bounds.regions used.0 there).last in
        elim (cases_lt used.0 i) [
          | inl q ↦ (let apart = st.safe.apart used.0 i q inside in omega arith)
          | inr q ↦ elim (cases_lt i used.0) [
            | inl q' ↦ (let apart = st.safe.apart i used.0 q' there in omega arith)
            | inr q' ↦ (let same : used.0 ≡ i = omega arith in let start : (region b i).start ≤ p = subst (λ n. (region b n).start ≤ p) same from in omega arith)
          ]
        ])
  ]

  holder_fits : (i : ℕ) (h : Holder) → (region b i).holder ≡ h → HolderFits (region b i) h
  holder_fits i (Maker t) e = st.shadow_pages.empty t i e
  holder_fits i (Current t) e = tt
  holder_fits i Parked e = has_room i e
  holder_fits i (Left q) e = tt
  holder_fits i Lost e = tt

  shape : Shape b
  shape = record {
    bounds = st.bounds.regions;
    fits = λ i. record { room = st.bounds.room i; held = holder_fits i (region b i).holder refl };
    apart = st.safe.apart;
    alone = λ t i e.
        (let owner = st.safe.owners t i e in
        let stack = st.safe.stacks t owner.0 owner.1 owner.2 in
        current_of_is t b i e (λ j f. stack.only j f ∙ sym (stack.only i e)));
    chain = st.previous_left;
  }

  book : IsBook b
  book = record {
    shape = shape;
    stacks = record {
      eight = st.eight;
      alone = λ t k j e f.
          (let holder = st.safe.holders t k e in
          let one = (st.safe.held t holder.0 holder.1 k).1 e in
          let two = (st.safe.held t holder.0 holder.1 j).1 f in
          cc);
    };
  }

  marks : Marks m.words b
  marks = record {
    parked = λ i e.
        (let place = (parked_place b i shape e).0 in
        let low = place.low in
        (st.tokens (top (region b i) - 8) place).1 (i, e, omega arith) ∙ token_is (top (region b i) - 8) place ∙ omega arith);
    token = λ p place e. (let k = (st.tokens p place).0 (e ∙ sym (token_is p place)) in (k.0, record { parked = k.1; top_is = k.2 }));
    zeros = zeros;
    drawn = st.counters.drawn;
  }

  holds : Holds job.image m.words b
  holds = record {
    size = st.size;
    sound = record { book = book; returns = st.bounds.returns };
    stacks = st.entries_written;
    pages = record { entries = st.bounds.entries; fixed = st.bounds.fixed; shadow = st.shadow_pages.present };
    gates = st.supervisor_tokens.token;
    restorers = st.restorers;
    marks = marks;
    ending = st.ending;
  }

  still : (t : ℕ) (thread : Thread) → slice_get m.threads t ≡ Some thread → Still m.words t b (trail_of job thread.core)
  still t thread e =
      let steady = st.steady_rows t thread e in
      record {
        word = λ w x own q. steady_word m.words t b (trail_of job thread.core) w x steady.word steady.below own q;
        place = steady.word;
        restorer = (st.row_values t thread e).restorer;
        claimed = steady.claimed;
        below = λ k x l own q. sym (steady.below k x l own q) ∙ st.supervisor_tokens.below t thread e k own (ap (λ (o : Option ℕ). is_some o) q);
      }

  -- the public invariant is all that is carried
  pub carried : Invariant job m (record { book = b })
  carried = record {
    holds = holds;
    threads = st.rows;
    still = still;
    paid = record { least = st.counters.least; number = st.counters.number; counts = st.counts.most; draws = st.counts.draws; nexts = st.counts.births };
    made = st.made;
  }
