-- The store of a new stack's restore token: the region that was being made is parked, with blanks above its token. Source: own.
use Rattle.cet_own.proofs.Still.{tells_below, not_below}
use Rattle.std.proofs.Common.{zero, suc, ◌≡◌, ◌≢◌, ℕ, ◌+◌, ◌-◌, ◌*◌, ◌%◌, ◌<◌, ◌≤◌, inl, inr, List, [], ◌∷◌, length, replicate, Some, refl, sym, ◌∙◌, ap, subst, arith}
use Rattle.std.specs.Prelude.{slice_set}
use Rattle.std.proofs.lemmas.Bool.Decides.{eqb_tells}
use Rattle.std.proofs.lemmas.List.{length-replicate}
use Rattle.cet_words.specs.Access.{after}
use Rattle.cet_words.specs.Change.{Change, Seeded}
use Rattle.cet_words.specs.Job.{ImageData}
use Rattle.cet_words.specs.declared.accesses.Access.{Access}
use Rattle.cet_words.specs.declared.accesses.Access.TheVariants as access
use Rattle.cet_book.specs.Book.{Book, Region, region, top, stack_of}
use Rattle.cet_book.specs.Facts.{In, IsParkedAt, Owns, Place, Stack}
use Rattle.cet_book.specs.Shape.{Shape}
use Rattle.cet_book.specs.Stack.{slot, slot_word, tops}
use Rattle.cet_book.specs.declared.entries.Entry.{Entry}
use Rattle.cet_book.specs.declared.entries.Entry.TheVariants.{Blank}
use Rattle.cet_book.specs.declared.entries.Holder.TheVariants.{Maker, Parked}
use Rattle.cet_book.proofs.Acquire.{unlinked}
use Rattle.cet_book.proofs.Hand.{hand, Made, made_there, made_empty, seeds, hand_all, hand_same, hand_here, hand_other}
use Rattle.cet_book.proofs.Ways.{seeded_way}
use Rattle.cet_page.specs.Script.{birth}
use Rattle.cet_page.specs.Trail.{Visit}
use Rattle.cet_own.specs.Class.{class_at}
use Rattle.cet_own.specs.declared.access_classes.Class.TheVariants as class
use Rattle.cet_own.proofs.Changed.{Spares, changed, place_spares, place_restorers}
use Rattle.cet_own.proofs.Classes.{leaves_by, next_other, no_count_by, other_word}
use Rattle.cet_own.specs.Holds.{IsMaker, Marks, Sound, Holds}
use Rattle.cet_own.proofs.Kept.{ending_out, restorers_out, size_kept, pages_out, pages_same, gates_out, gates_same}
use Rattle.cet_own.proofs.Marks.{WritesAt, marks_write}
use Rattle.cet_own.proofs.Fits.{of_class, some_held, is_seed}
use Rattle.cet_own.proofs.HeldAfter.{notes_gate}
use Rattle.cet_own.specs.Owed.{Owed}
use Rattle.cet_own.proofs.Writes.{in_one, in_place, list_kept, list_free, slot_other}

-- blanks stand where the words are 0
blanks_stand : (words : List ℕ) (f : ℕ → ℕ) (a n : ℕ) → ((x : ℕ) → a ≤ x → x < a + 8 * n → x % 8 ≡ a % 8 → slot_word words x ≡ 0) → Stack words f a (replicate n Blank)
blanks_stand words f a zero h = tt
blanks_stand words f a (suc n) h = (h a (omega arith) (omega arith) refl, blanks_stand words f (a + 8) n (λ x lo hi e. h x (omega arith) (omega arith) (omega arith)))

-- the words of a region that is being made are 0
pub making_zero : (words : List ℕ) (b : Book) (t s p : ℕ) → Made t s b → Marks words b → Place p → In (region b s) p → slot_word words p ≡ 0
making_zero words b t s p m h pp inn = elim (eqb_tells (slot_word words p) 0) [
  | inl u ↦ u.1
  | inr u ↦ absurd (
      let k = h.zeros p pp u.1 in
      let same = in_one b k.0 s p m.shape k.1.inside inn in
      let made : IsMaker (region b s).holder = subst IsMaker (sym m.maker) tt in
      k.1.made (subst (λ j. IsMaker (region b j).holder) (sym same) made))
]

module _ {t s : ℕ} {b : Book} (m : Made t s b) (n p : ℕ) (room : (region b s).start + 8 * n + 8 ≤ (region b s).end) (at : p + 8 + 8 * n ≡ (region b s).end) where
  abbrev pub seeded : Book
  seeded = hand s (replicate n Blank) Parked b

  abbrev pub with_token : (words : List ℕ) → List ℕ
  with_token words = slice_set words (slot p) (p + 9)

  pub seed_place : Place p × In (region b s) p
  seed_place =
      let bounds = m.shape.bounds s (made_there m) in
      let low = bounds.low in
      let last = bounds.last in
      let inn : In (region b s) p = record { low = omega arith; high = omega arith } in
      (in_place b s p m.shape inn (omega arith), inn)

  seed_here : IsParkedAt p (region seeded s)
  seed_here = record {
    parked = ap (λ (r : Region). r.holder) (hand_here (seeds m n));
    top_is = ap (λ (r : Region). top r) (hand_here (seeds m n)) ∙ (let len = length-replicate n Blank in omega arith);
  }

  token_comes : WritesAt p (p + 9) s b seeded
  token_comes = record {
    same = hand_same (seeds m n);
    place = seed_place.0;
    inside = seed_place.1;
    on = λ i e _. hand_other (seeds m n) i (λ z. (let c = m.maker in let d = subst (λ j. (region b j).holder ≡ Parked) z e in cc));
    back = hand_all (seeds m n) (λ i r. i ≢ s → r.holder ≡ Parked → r ≡ region b i) (λ z. absurd (z refl)) (λ i z _ _. refl);
    at_k = λ e. (seed_here.top_is, refl);
    token = λ _. seed_here;
    not_maker = λ z. subst (λ (r : Region). IsMaker r.holder) (hand_here (seeds m n)) z;
    makers = hand_all (seeds m n) (λ i r. IsMaker r.holder → IsMaker (region b i).holder) (λ z. absurd z) (λ i u z. z);
  }

  pub holds_seed : (image : ImageData) (words : List ℕ) → Sound seeded → Holds image words b → Holds image (with_token words) seeded
  holds_seed image words sound h =
      let place = seed_place in
      let low = place.0.low in
      let high = place.0.high in
      let even = place.0.even in
      let none : length (region b s).entries ≡ 0 = ap (λ (l : List Entry). length l) (made_empty m) in
      let len = length-replicate n Blank in
      let first = (m.shape.bounds s (made_there m)).low in
      let old : (i : ℕ) → Stack (with_token words) (tops seeded) (top (region b i)) (region b i).entries = λ i.
      list_kept words (with_token words) b seeded s i m.shape (λ i. unlinked s i (Maker t) m.shape m.maker refl) (λ j u. ap (λ (r : Region). top r) (hand_other (seeds m n) j u))
      (λ a lo hi e. list_free words b p (p + 9) s i a m.shape place.0 place.1 (omega arith) lo hi e) (h.stacks i) in
      let now : (region b s).end - 8 * length (replicate n Blank) ≡ p + 8 = omega arith in
      record {
        size = size_kept words (slot p) (p + 9) h.size;
        sound = sound;
        stacks = hand_all (seeds m n) (λ i r. Stack (with_token words) (tops seeded) (top r) r.entries)
            (subst (λ a. Stack (with_token words) (tops seeded) a (replicate n Blank)) (sym now)
            (blanks_stand (with_token words) (tops seeded) (p + 8) n (λ x lo hi e.
            let inn : In (region b s) x = record { low = omega arith; high = omega arith } in
            let pp = in_place b s x m.shape inn (omega arith) in
            slot_other words p x (p + 9) place.0 pp (omega arith) ∙ making_zero words b t s x m h.marks pp inn)))
            (λ i u. old i);
        pages = pages_same image (with_token words) b seeded (hand_same (seeds m n)) (pages_out image words b (slot p) (p + 9) (omega arith) h.pages);
        gates = gates_same (with_token words) b seeded refl (gates_out words b (slot p) (p + 9) (λ k lk. omega arith) h.gates);
        restorers = restorers_out image words (slot p) (p + 9) (inl (omega arith)) h.restorers;
        marks = marks_write words token_comes h.size m.shape h.marks;
        ending = ending_out words (slot p) (p + 9) (omega arith) h.ending;
      }

pub seeds_region : {image : ImageData} {t k : ℕ} {past : List Visit} {b : Book} {a : Access} {v : ℕ} {changes : List Change} → (s n p start : ℕ) → (region b s).holder ≡ Maker t →
    (region b s).start ≡ start → start + 8 * n + 8 ≤ (region b s).end → p + 8 + 8 * n ≡ (region b s).end → stack_of b k ≡ Some t → a ≡ access.Store (slot p) (p + 9) → changes ≡ Seeded start n ∷ [] →
    Owed image t k past b a v changes
seeds_region {image = image} {t = t} {k = k} {b = b} {v = v} s n p start maker first room at inside e ev =
    changed (Seeded start n) (hand s (replicate n Blank) Parked b) ev tt
    (λ words is h ssp held stands note. of_class class.Seed (Seeded start n ∷ []) ev refl
    (ap (λ c. class_at c ssp held v) e ∙ is_seed p ssp v held (seed_place (made h.sound.book.shape) n p (omega arith) at).0 (some_held b held k inside note)))
    (λ words is h. let high = (seed_place (made h.sound.book.shape) n p (omega arith) at).0.high in no_count_by (leaves_by e (other_word (slot p) (omega arith)) (next_other (slot p) (omega arith))) (ap birth ev))
    (λ words is h. let high = (seed_place (made h.sound.book.shape) n p (omega arith) at).0.high in tells_below t b v e (λ j l. not_below (slot p) j (λ z. omega arith)) (λ j l. refl))
    (λ words is h. notes_gate v e ev (λ held. refl) (λ held j q. inl q))
    (λ words is h. seeded_way (made h.sound.book.shape) n start first (omega arith))
    (λ words is h sound.
    let m = made h.sound.book.shape in
    let place = seed_place m n p (omega arith) at in
    subst (λ c. Holds image (after words c) (hand s (replicate n Blank) Parked b) × Spares t b words (after words c)) (sym e) (
      holds_seed m n p (omega arith) at image words sound h,
      record {
        own = λ y u w own. place_spares words b s p (p + 9) y place.0 place.1 (λ z. u (subst (Owns y) maker z)) w own;
        restorers = place_restorers words p (p + 9) place.0;
      },
    ))
  where
    made : Shape b → Made t s b
    made shape = record { shape = shape; maker = maker }
