-- The draw of a thread's number: a thread is born onto the shadow stack that was made for it, or there is no number left.
-- Source: own.
use Rattle.cet_own.proofs.Still.{tells_below, not_below}
use Rattle.std.proofs.Common.{◌≡◌, ℕ, ◌+◌, ◌%◌, ◌^◌, ◌<◌, ◌≤◌, inl, inr, true, false, List, [], ◌∷◌, Option, refl, sym, ◌∙◌, ap, subst, arith}
use Rattle.std.specs.Prelude.{nat_lt, slice_index, slice_set}
use Rattle.std.proofs.lemmas.Bool.Decides.{nat_tests}
use Rattle.cet_words.specs.Access.{after}
use Rattle.cet_words.specs.Change.{Change, Born}
use Rattle.cet_words.specs.Job.{ImageData}
use Rattle.cet_words.specs.Layout.{thread_limit}
use Rattle.cet_words.specs.declared.accesses.Access.{Access}
use Rattle.cet_words.specs.declared.accesses.Access.TheVariants as access
use Rattle.cet_book.specs.Book.{Book, region, top}
use Rattle.cet_book.specs.Shape.{Shape}
use Rattle.cet_book.specs.Facts.{Stack}
use Rattle.cet_book.specs.Stack.{tops}
use Rattle.cet_book.specs.declared.entries.Holder.TheVariants.{Current, Parked}
use Rattle.cet_book.proofs.Changes.{same_book}
use Rattle.cet_book.proofs.Hand.{hand, Made, bears, hand_all, hand_same, hand_other}
use Rattle.cet_book.proofs.Ways.{born_way}
use Rattle.cet_page.specs.Script.{birth}
use Rattle.cet_page.specs.Trail.{Visit}
use Rattle.cet_own.specs.Class.{class_at}
use Rattle.cet_own.specs.Past.{next_word, numbered}
use Rattle.cet_own.specs.Facts.{OwnWord, own_slot, below_token}
use Rattle.cet_own.specs.declared.access_classes.Class.TheVariants as class
use Rattle.cet_own.proofs.Changed.{Spares, changed}
use Rattle.cet_own.proofs.Classes.{Spared, word_other, keeps_restorers}
use Rattle.cet_own.specs.Claims.{Bears, bears_child, bears_nobody}
use Rattle.cet_own.proofs.Fits.{of_class, none_of}
use Rattle.cet_own.specs.Holds.{IsMaker, Sound, Holds}
use Rattle.cet_own.proofs.Kept.{ending_out, restorers_out, size_kept, lists_out, pages_out, pages_same, gates_out, gates_same}
use Rattle.cet_own.proofs.Marks.{SameTokens, marks_out, marks_same}
use Rattle.cet_own.proofs.HeldAfter.{notes_gate}
use Rattle.cet_own.specs.Owed.{Owed}
use Rattle.cet_own.proofs.Writes.{stack_agrees, top_even}

-- the counter is no thread's own
next_apart : (words : List ℕ) (y x w : ℕ) (b : Book) → OwnWord y b w → slice_index (slice_set words next_word x) w ≡ slice_index words w
next_apart words y x w b (own_slot addr p o e) = let high = p.high in word_other words next_word x w (λ z. omega arith)
next_apart words y x w b (below_token k l h e) = word_other words next_word x w (λ z. omega arith)

-- the counter alone
holds_numbered : (image : ImageData) (words : List ℕ) (b : Book) (x : ℕ) → Holds image words b → Holds image (slice_set words next_word x) b
holds_numbered image words b x h = record {
  size = size_kept words next_word x h.size;
  sound = h.sound;
  stacks = lists_out words b next_word x h.sound.book.shape (inr (omega arith)) h.stacks;
  pages = pages_out image words b next_word x (omega arith) h.pages;
  gates = gates_out words b next_word x (λ j l. omega arith) h.gates;
  restorers = restorers_out image words next_word x (inl (omega arith)) h.restorers;
  marks = marks_out words b next_word x (inr (omega arith)) (omega arith) h.sound.book.shape h.marks;
  ending = ending_out words next_word x (omega arith) h.ending;
}

-- ---- the book with the child

module _ {t s : ℕ} {b : Book} (m : Made t s b) (child : ℕ) where
  abbrev pub with_born : Book
  with_born = hand s (region b s).entries (Current child) b

  tokens_born : SameTokens b with_born
  tokens_born = record {
    same = hand_same (bears m child);
    on = λ i e. hand_other (bears m child) i (λ z. (let c = m.maker in let d = subst (λ j. (region b j).holder ≡ Parked) z e in cc));
    back = hand_all (bears m child) (λ i r. r.holder ≡ Parked → r ≡ region b i) (λ e. cc) (λ i n e. refl);
    makers = hand_all (bears m child) (λ i r. IsMaker r.holder → IsMaker (region b i).holder) (λ z. absurd z) (λ i n z. z);
  }

  holds_born : (image : ImageData) (words : List ℕ) → Sound with_born → Holds image words b → Holds image words with_born
  holds_born image words sound h =
      let same : (i : ℕ) → top (region with_born i) ≡ top (region b i) = hand_all (bears m child) (λ i r. top r ≡ top (region b i)) refl (λ i n. refl) in
      let agrees : (i : ℕ) → Stack words (tops with_born) (top (region b i)) (region b i).entries
      = λ i. stack_agrees words words (tops b) (tops with_born) (top (region b i)) (region b i).entries (top_even b i m.shape) (λ a lo hi even. refl) (λ j n. same j) (h.stacks i) in
      record {
        size = h.size;
        sound = sound;
        stacks = hand_all (bears m child) (λ i r. Stack words (tops with_born) (top r) r.entries) (agrees s) (λ i n. agrees i);
        pages = pages_same image words b with_born (hand_same (bears m child)) h.pages;
        gates = gates_same words b with_born refl h.gates;
        restorers = h.restorers;
        marks = marks_same words tokens_born h.marks;
        ending = h.ending;
      }

-- ---- the two kinds

is_birth : (ssp v : ℕ) (held : Option ℕ) → v < thread_limit → class_at (access.FetchAdd next_word 1) ssp held v ≡ class.Seed
is_birth ssp v held few = let low : nat_lt v thread_limit ≡ true = grind (arith, nat_tests) in rw low refl

module _ {image : ImageData} {t k : ℕ} {past : List Visit} {b : Book} {a : Access} {v : ℕ} {changes : List Change} where
  -- the child stands on the stack that the row has made for it
  pub births : (s start : ℕ) → a ≡ access.FetchAdd next_word 1 → v < thread_limit → Bears t v s start b → numbered past ≡ false → changes ≡ Born v start ∷ [] → Owed image t k past b a v changes
  births s start e few child once ev =
      changed (Born v start) (hand s (region b s).entries (Current v) b) ev tt
      (λ words is h ssp held stands note. of_class class.Seed (Born v start ∷ []) ev refl (ap (λ c. class_at c ssp held v) e ∙ is_birth ssp v held few))
      (λ words is h. bears_child s start e few child once ev)
      (λ words is h. tells_below t b v e (λ j l. not_below next_word j (λ z. omega arith)) (λ j l. refl))
      (λ words is h. notes_gate v e ev (λ held. refl) (λ held j q. inl q))
      (λ words is h. born_way (made h.sound.book.shape) v start child.first child.none.regions)
      (λ words is h sound.
      subst (λ c. Holds image (after words c) (hand s (region b s).entries (Current v) b) × Spares t b words (after words c)) (sym e) (
        holds_born (made h.sound.book.shape) v image (slice_set words next_word ((slice_index words next_word + 1) % 2 ^ 64)) sound
            (holds_numbered image words b ((slice_index words next_word + 1) % 2 ^ 64) h),
        record {
          own = λ y n w own. next_apart words y ((slice_index words next_word + 1) % 2 ^ 64) w b own;
          restorers = keeps_restorers words next_word ((slice_index words next_word + 1) % 2 ^ 64) (inl (omega arith));
        },
      ))
    where
      made : Shape b → Made t s b
      made shape = record { shape = shape; maker = child.maker }

  -- nobody is born
  pub unborn : a ≡ access.FetchAdd next_word 1 → thread_limit ≤ v → numbered past ≡ false → changes ≡ [] → Owed image t k past b a v changes
  unborn e many once ev = record {
    below = λ words is h. tells_below t b v e (λ j l. not_below next_word j (λ z. omega arith)) (λ j l. refl);
    notes = λ words is h. notes_gate v e ev (λ held. refl) (λ held j q. inl q);
    counts = λ words is h. bears_nobody e many once (ap birth ev);
    fits = λ words is h ssp held stands note. none_of _ ev;
    keeps = λ words next is h still q. subst (Holds image (after words a)) (same_book t b next changes ev q) (does words h).0;
    spares = λ words is h y u w own. (does words h).1.own y w own;
    restorers = λ words is h. (does words h).1.restorers;
  }
    where
      does : (words : List ℕ) → Holds image words b → Holds image (after words a) b × Spared b words (after words a)
      does words h =
          subst (λ c. Holds image (after words c) b × Spared b words (after words c)) (sym e) (
            holds_numbered image words b ((slice_index words next_word + 1) % 2 ^ 64) h,
            record {
              own = λ y w own. next_apart words y ((slice_index words next_word + 1) % 2 ^ 64) w b own;
              restorers = keeps_restorers words next_word ((slice_index words next_word + 1) % 2 ^ 64) (inl (omega arith));
            },
          )
