-- RSTORSSP's exchange: the token of a parked region becomes the word of the region that the thread leaves, or no token is found
-- and nothing changes. Source: own.
use Rattle.cet_own.proofs.Still.{tells_below, not_below, not_freed}
use Rattle.std.proofs.Common.{◌<◌, ◌≡◌, ◌≢◌, ℕ, ◌+◌, ◌-◌, ◌*◌, inl, List, [], ◌∷◌, length, refl, sym, ◌∙◌, ap, subst, arith}
use Rattle.std.specs.Prelude.{slice_index, slice_set}
use Rattle.cet_words.specs.Layout.{first_kernel_word}
use Rattle.cet_words.specs.Access.{answer, after}
use Rattle.cet_words.specs.Change.{Change, Acquired}
use Rattle.cet_words.specs.Job.{ImageData}
use Rattle.cet_words.specs.declared.accesses.Access.{Access}
use Rattle.cet_words.specs.declared.accesses.Access.TheVariants as access
use Rattle.cet_book.specs.Book.{Book, Region, region, top, acquire}
use Rattle.cet_book.specs.Facts.{In, Owns, Place, Stack}
use Rattle.cet_book.specs.Shape.{Shape}
use Rattle.cet_book.specs.Stack.{slot, tops}
use Rattle.cet_book.specs.declared.entries.Entry.TheVariants.{Previous}
use Rattle.cet_book.specs.declared.entries.Holder.TheVariants.{Current, Left, Parked}
use Rattle.cet_book.proofs.Acquire.{Takes, taken_there, taken_apart, acquire_all, acquire_same, acquire_top, acquire_other, acquire_taken, unlinked, parked_fits}
use Rattle.cet_book.proofs.Ways.{acquired_way}
use Rattle.cet_page.specs.Script.{birth}
use Rattle.cet_page.specs.Trail.{Visit}
use Rattle.cet_own.specs.Class.{class_at}
use Rattle.cet_own.specs.Past.{draw_word, next_word}
use Rattle.cet_own.specs.declared.access_classes.Class.TheVariants as class
use Rattle.cet_own.proofs.Changed.{Spares, changed, place_spares, place_restorers}
use Rattle.cet_own.proofs.ClassLaws.{exchange_does, exchange_fails}
use Rattle.cet_own.proofs.Classes.{Spared, leaves_by, next_other, no_count_by, other_word, quiet}
use Rattle.cet_own.specs.Holds.{IsMaker, Sound, Holds}
use Rattle.cet_own.proofs.Kept.{ending_out, restorers_out, size_kept, pages_out, pages_same, gates_out, gates_same}
use Rattle.cet_own.proofs.Marks.{WritesAt, marks_write}
use Rattle.cet_own.proofs.Fits.{of_class, is_acquire}
use Rattle.cet_own.proofs.HeldAfter.{exchange_misses, keeps_note, no_token, notes_gate}
use Rattle.cet_own.specs.Owed.{Owed}
use Rattle.cet_own.proofs.Writes.{in_place, list_kept, list_free, slot_same, top_even}

-- region q, which thread t may take from its own region m, has its token at p
pub record Token (t m q p : ℕ) (b : Book) : Type 0 where
  pub takes : Takes t m q b
  pub at : top (region b q) ≡ p + 8

module _ {t m q p : ℕ} {b : Book} (k : Token t m q p b) where
  abbrev pub taken : Book
  taken = acquire t m q b

  pub token_place : Place p × In (region b q) p
  token_place =
      let s = k.takes.owned.shape in
      let fits = parked_fits (region b q) (s.fits q) k.takes.parked in
      let room = (s.fits q).room in
      let bounds = s.bounds q (taken_there k.takes) in
      let last = bounds.last in
      let at = k.at in
      let inn : In (region b q) p = record { low = omega arith; high = omega arith } in
      (in_place b q p s inn (omega arith), inn)

  -- afterwards no region has its token there
  token_goes : (x : ℕ) → x ≡ top (region b m) + 3 → WritesAt p x q b taken
  token_goes x is =
      let s = k.takes.owned.shape in
      let place = token_place in
      let even = place.0.even in
      let even' = top_even b m s in
      let at = k.at in
      let current = k.takes.owned.current in
      record {
        same = acquire_same k.takes;
        place = place.0;
        inside = place.1;
        on = λ i e n. acquire_other k.takes i (λ z. n (subst (λ j. top (region b j) ≡ p + 8) (sym z) at))
            (λ z. (let d : (region b m).holder ≡ Parked = subst (λ j. (region b j).holder ≡ Parked) z e in cc));
        back = λ i. acquire_all k.takes (λ i r. i ≢ q → r.holder ≡ Parked → r ≡ region b i) (λ n. absurd (n refl)) (λ n e. (let z : Left q ≡ Parked = e in cc)) (λ i n n' _ _. refl) i;
        at_k = λ e. (let z : Current t ≡ Parked = sym (ap (λ (r : Region). r.holder) (acquire_taken k.takes)) ∙ e in cc);
        token = λ e. absurd (omega arith);
        not_maker = λ e. subst (λ (r : Region). IsMaker r.holder) (acquire_taken k.takes) e;
        makers = acquire_all k.takes (λ i r. IsMaker r.holder → IsMaker (region b i).holder) (λ z. absurd z) (λ z. absurd z) (λ i n n' z. z);
      }

  pub holds_take : (image : ImageData) (words : List ℕ) (x : ℕ) → x ≡ top (region b m) + 3 → Sound taken → Holds image words b → Holds image (slice_set words (slot p) x) taken
  holds_take image words x is sound h =
      let s = k.takes.owned.shape in
      let place = token_place in
      let low = place.0.low in
      let high = place.0.high in
      let at = k.at in
      let room = (s.fits q).room in
      let old : (i : ℕ) → Stack (slice_set words (slot p) x) (tops taken) (top (region b i)) (region b i).entries = λ i.
      list_kept words (slice_set words (slot p) x) b taken q i s (λ i. unlinked q i Parked s k.takes.parked refl) (acquire_top k.takes)
      (λ a lo hi even. list_free words b p x q i a s place.0 place.1 (omega arith) lo hi even) (h.stacks i) in
      let now : (region b q).end - 8 * length (Previous m ∷ (region b q).entries) ≡ p = omega arith in
      record {
        size = size_kept words (slot p) x h.size;
        sound = sound;
        stacks = acquire_all k.takes (λ i r. Stack (slice_set words (slot p) x) (tops taken) (top r) r.entries)
            (subst (λ a. Stack (slice_set words (slot p) x) (tops taken) a (Previous m ∷ (region b q).entries)) (sym now) (
              slot_same words p x h.size place.0 ∙ is ∙ ap (λ n. n + 3) (sym (acquire_top k.takes m (taken_apart k.takes))),
              subst (λ a. Stack (slice_set words (slot p) x) (tops taken) a (region b q).entries) k.at (old q),
            ))
            (old m) (λ i n n'. old i);
        pages = pages_same image (slice_set words (slot p) x) b taken (acquire_same k.takes) (pages_out image words b (slot p) x (omega arith) h.pages);
        gates = gates_same (slice_set words (slot p) x) b taken refl (gates_out words b (slot p) x (λ j l. omega arith) h.gates);
        restorers = restorers_out image words (slot p) x (inl (omega arith)) h.restorers;
        marks = marks_write words (token_goes x is) h.size s h.marks;
        ending = ending_out words (slot p) x (omega arith) h.ending;
      }

module _ {image : ImageData} {t k : ℕ} {past : List Visit} {b : Book} {a : Access} {v : ℕ} {changes : List Change} where
  -- the token is found
  pub takes : (m q p : ℕ) → (region b m).holder ≡ Current t → (region b q).holder ≡ Parked → top (region b q) ≡ p + 8 → a ≡ access.CompareExchange (slot p) (p + 9) (top (region b m) + 3) → v ≡ p + 9 →
      changes ≡ Acquired p ∷ [] → Owed image t k past b a v changes
  takes m q p current parked at e found ev =
      changed (Acquired p) (acquire t m q b) ev tt
      (λ words is h ssp held stands note. of_class class.Acquire (Acquired p ∷ []) ev refl
      (ap (λ c. class_at c ssp held v) e ∙ is_acquire p ssp v held (token_place (token h.sound.book.shape)).0 (p + 9) (top (region b m) + 3) found))
      (λ words is h. let high = (token_place (token h.sound.book.shape)).0.high in no_count_by (leaves_by e (other_word (slot p) (omega arith)) (next_other (slot p) (omega arith))) (ap birth ev))
      (λ words is h. let high = (token_place (token h.sound.book.shape)).0.high in tells_below t b v e (λ j l. not_below (slot p) j (λ z. omega arith)) (λ j l. not_freed (slot p) (p + 9) (top (region b m) + 3) j (λ z w. omega arith)))
      (λ words is h. let high = (token_place (token h.sound.book.shape)).0.high in notes_gate v e ev (no_token (slot p) (p + 9) (top (region b m) + 3) v (λ j l z. omega arith)) (λ held j q. inl q))
      (λ words is h. acquired_way (token h.sound.book.shape).takes p at)
      (λ words is h sound.
      let l = token h.sound.book.shape in
      let place = token_place l in
      subst (λ c. Holds image (after words c) (acquire t m q b) × Spares t b words (after words c)) (sym e)
      (subst (λ now. Holds image now (acquire t m q b) × Spares t b words now) (sym (exchange_does words (slot p) (p + 9) (top (region b m) + 3) (here words is))) (
        holds_take l image words (top (region b m) + 3) refl sound h,
        record {
          own = λ y n w own. place_spares words b q p (top (region b m) + 3) y place.0 place.1 (λ z. subst (Owns y) parked z) w own;
          restorers = place_restorers words p (top (region b m) + 3) place.0;
        },
      )))
    where
      token : Shape b → Token t m q p b
      token s = record { takes = record { owned = record { shape = s; current = current }; parked = parked }; at = at }

      here : (words : List ℕ) → v ≡ answer words a → slice_index words (slot p) ≡ p + 9
      here words is = sym (is ∙ ap (answer words) e) ∙ found

  -- another word is found
  pub misses : (word expected value : ℕ) → a ≡ access.CompareExchange word expected value → word ≢ draw_word → word ≢ next_word → word < first_kernel_word → v ≢ expected → changes ≡ [] → Owed image t k past b a v changes
  misses word expected value e no_draw no_next low n ev =
      quiet ev (leaves_by e (other_word word no_draw) (next_other word no_next))
      (tells_below t b v e (λ j l. not_below word j (λ z. omega arith)) (λ j l. not_freed word expected value j (λ z w. omega arith))) (keeps_note v e (exchange_misses word expected value v n)) (λ words is h.
      let none : after words a ≡ words = ap (after words) e ∙ exchange_fails words word expected value (λ z. n (is ∙ ap (answer words) e ∙ z)) in
      subst (λ now. Holds image now b × Spared b words now) (sym none) (h, record { own = λ y w own. refl; restorers = λ s l m. m }))
