-- The stores of rt_sigaction: a restorer, a handler, and the flags and the mask of a signal. Source: own.
use Rattle.std.proofs.Common.{◌≡◌, ◌≢◌, ℕ, ◌+◌, ◌<◌, ◌≤◌, ◌⊎◌, inl, inr, true, List, [], length, refl, sym, ◌∙◌, ap, subst, arith, get_or-set_same}
use Rattle.std.specs.Prelude.{slice_index, slice_set}
use Rattle.std.proofs.lemmas.Bool.Decides.{eqb_tells}
use Rattle.cet_words.specs.Access.{after}
use Rattle.cet_words.specs.Change.{Change}
use Rattle.cet_words.specs.Job.{ImageData}
use Rattle.cet_words.specs.Layout.{action_word, first_action_word, word_count}
use Rattle.cet_words.specs.declared.accesses.Access.{Access}
use Rattle.cet_words.specs.declared.accesses.Access.TheVariants as access
use Rattle.cet_book.specs.Book.{Book}
use Rattle.cet_book.proofs.Changes.{same_book}
use Rattle.cet_page.specs.Script.{birth}
use Rattle.cet_page.specs.Trail.{Visit}
use Rattle.cet_own.specs.Past.{has_restorer, restorer_word}
use Rattle.cet_own.specs.Facts.{IsRestorer, Restorers, OwnWord, own_slot, below_token}
use Rattle.cet_own.proofs.Classes.{leaves_by, next_other, no_count_by, other_word, word_other}
use Rattle.cet_own.proofs.Fits.{none_of}
use Rattle.cet_own.specs.Holds.{Holds}
use Rattle.cet_own.proofs.Kept.{ending_out, gates_out, lists_out, pages_out, size_kept}
use Rattle.cet_own.proofs.Marks.{marks_out}
use Rattle.cet_own.proofs.HeldAfter.{notes_gate}
use Rattle.cet_own.specs.Owed.{Owed}
use Rattle.cet_own.proofs.Still.{not_below, tells_below}
use Rattle.cet_own.specs.Claims.{KeepsRestorers, Still}

-- a word of a signal
pub record IsAction (word : ℕ) : Type 0 where
  pub low : first_action_word ≤ word
  pub high : word < first_action_word + 256

-- is no thread's own
own_action : (y w word : ℕ) (b : Book) → IsAction word → OwnWord y b w → w ≢ word
own_action y w word b at (own_slot addr p o e) z =
    let low = at.low in
    let high = p.high in
    omega arith
own_action y w word b at (below_token k l h e) z = let high = at.high in omega arith

holds_action : (image : ImageData) (words : List ℕ) (b : Book) (word x : ℕ) → IsAction word → Restorers image (slice_set words word x) → Holds image words b → Holds image (slice_set words word x) b
holds_action image words b word x at restorers h =
    let low = at.low in
    let high = at.high in
    record {
      size = size_kept words word x h.size;
      sound = h.sound;
      stacks = lists_out words b word x h.sound.book.shape (inr (omega arith)) h.stacks;
      pages = pages_out image words b word x (omega arith) h.pages;
      gates = gates_out words b word x (λ j l. omega arith) h.gates;
      restorers = restorers;
      marks = marks_out words b word x (inr (omega arith)) (omega arith) h.sound.book.shape h.marks;
      ending = ending_out words word x (omega arith) h.ending;
    }

-- a word that is no restorer is written
others_keep : (words : List ℕ) (word x : ℕ) → ((s : ℕ) → s < 64 → restorer_word s ≢ word) → KeepsRestorers words (slice_set words word x)
others_keep words word x other s l n z = n (sym (word_other words word x (restorer_word s) (other s l)) ∙ z)

-- and then what stands as restorers is as it was
same_restorers : (image : ImageData) (words : List ℕ) (word x : ℕ) → ((s : ℕ) → s < 64 → restorer_word s ≢ word) → Restorers image words → (s : ℕ) → s < 64 →
    IsRestorer image (slice_index (slice_set words word x) (restorer_word s))
same_restorers image words word x other h s l = subst (IsRestorer image) (sym (word_other words word x (restorer_word s) (other s l))) (h.executable s l)

module _ {image : ImageData} {t k : ℕ} {past : List Visit} {b : Book} {a : Access} {v : ℕ} {changes : List Change} where
  acts : (word x : ℕ) → IsAction word → a ≡ access.Store word x → changes ≡ [] → ((words : List ℕ) → Holds image words b → Still words t b past → Restorers image (slice_set words word x)) →
      ((words : List ℕ) → Holds image words b → KeepsRestorers words (slice_set words word x)) → Owed image t k past b a v changes
  acts word x at e ev restorers keeps = record {
    notes = λ words is h. notes_gate v e ev (λ held. refl) (λ held j q. inl q);
    below = λ words is h. (let high = at.high in tells_below t b v e (λ j l. not_below word j (λ z. omega arith)) (λ j l. refl));
    fits = λ words is h ssp held stands note. none_of _ ev;
    counts = λ words is h. (let low = at.low in no_count_by (leaves_by e (other_word word (omega arith)) (next_other word (omega arith))) (ap birth ev));
    keeps = λ words next is h still q.
        subst (λ c. Holds image (after words c) next) (sym e)
        (subst (Holds image (slice_set words word x)) (same_book t b next changes ev q) (holds_action image words b word x at (restorers words h still) h));
    spares = λ words is h y n w own.
        subst (λ c. slice_index (after words c) w ≡ slice_index words w) (sym e) (word_other words word x w (own_action y w word b at own));
    restorers = λ words is h. subst (λ c. KeepsRestorers words (after words c)) (sym e) (keeps words h);
  }

  -- a handler is stored: 0 or 1, or that of a signal which the row has seen to have a restorer
  pub sets_handler : (s x : ℕ) → s < 64 → (x ≤ 1) ⊎ (has_restorer past s ≡ true) → a ≡ access.Store (action_word s) x → changes ≡ [] → Owed image t k past b a v changes
  sets_handler s x l seen e ev =
      acts (action_word s) x (record { low = omega arith; high = omega arith }) e ev
      (λ words h still. record {
        executable = same_restorers image words (action_word s) x (λ j lj z. omega arith) h.restorers;
        shown = λ j lj above z.
            let same = word_other words (action_word s) x (restorer_word j) (λ z. omega arith) in
            elim (eqb_tells j s) [
              | inl u ↦
                  let here : slice_index (slice_set words (action_word s) x) (action_word j) ≡ x
                  = subst (λ i. slice_index (slice_set words (action_word s) x) (action_word i) ≡ x) (sym u.1) (get_or-set_same words (action_word s) x 0 (let size = h.size in omega arith)) in
                  elim seen [
                    | inl few ↦ omega arith
                    | inr shows ↦ still.restorer s l shows (subst (λ i. slice_index words (restorer_word i) ≡ 0) u.1 (sym same ∙ z))
                  ]
              | inr u ↦
                  let n = u.1 in
                  let other = word_other words (action_word s) x (action_word j) (λ z. n (omega arith)) in
                  h.restorers.shown j lj (omega arith) (sym same ∙ z)
            ];
      }) (λ words h. others_keep words (action_word s) x (λ j lj z. omega arith))

  -- a restorer is stored, which is code
  pub sets_restorer : (s x : ℕ) → s < 64 → 0 < x → IsRestorer image x → a ≡ access.Store (restorer_word s) x → changes ≡ [] → Owed image t k past b a v changes
  sets_restorer s x l some is e ev =
      acts (restorer_word s) x (record { low = omega arith; high = omega arith }) e ev
      (λ words h still. record {
        executable = λ j lj. elim (eqb_tells j s) [
          | inl u ↦ subst (λ i. IsRestorer image (slice_index (slice_set words (restorer_word s) x) (restorer_word i))) (sym u.1) (subst (IsRestorer image) (sym (here words h.size)) is)
          | inr u ↦
              let n = u.1 in
              subst (IsRestorer image) (sym (word_other words (restorer_word s) x (restorer_word j) (λ z. n (omega arith)))) (h.restorers.executable j lj)
        ];
        shown = λ j lj above.
            let same = word_other words (restorer_word s) x (action_word j) (λ z. omega arith) in
            kept words h.size j lj (h.restorers.shown j lj (omega arith));
      }) (λ words h. kept words h.size)
    where
      here : (words : List ℕ) → length words ≡ word_count → slice_index (slice_set words (restorer_word s) x) (restorer_word s) ≡ x
      here words size = let inside : restorer_word s < length words = omega arith in get_or-set_same words (restorer_word s) x 0 inside

      kept : (words : List ℕ) → length words ≡ word_count → KeepsRestorers words (slice_set words (restorer_word s) x)
      kept words size j lj n z = elim (eqb_tells j s) [
        | inl u ↦
            let now = here words size in
            let none : slice_index (slice_set words (restorer_word s) x) (restorer_word s) ≡ 0 = subst (λ i. slice_index (slice_set words (restorer_word s) x) (restorer_word i) ≡ 0) u.1 z in
            omega arith
        | inr u ↦
            let m = u.1 in
            n (sym (word_other words (restorer_word s) x (restorer_word j) (λ z. m (omega arith))) ∙ z)
      ]

  -- the flags or the mask are stored
  pub sets_other : (s n x : ℕ) → s < 64 → (n ≡ 1) ⊎ (n ≡ 3) → a ≡ access.Store (action_word s + n) x → changes ≡ [] → Owed image t k past b a v changes
  sets_other s n x l which e ev =
      acts (action_word s + n) x (record { low = omega arith; high = few }) e ev
      (λ words h still. record {
        executable = same_restorers image words (action_word s + n) x no_restorer h.restorers;
        shown = λ j lj above z.
            let same = word_other words (action_word s + n) x (restorer_word j) (no_restorer j lj) in
            let other = word_other words (action_word s + n) x (action_word j) (no_handler j) in
            h.restorers.shown j lj (omega arith) (sym same ∙ z);
      }) (λ words h. others_keep words (action_word s + n) x no_restorer)
    where
      few : action_word s + n < first_action_word + 256
      few = elim which [ inl e ↦ omega arith | inr e ↦ omega arith ]

      no_restorer : (j : ℕ) → j < 64 → restorer_word j ≢ action_word s + n
      no_restorer j lj z = elim which [ inl e ↦ omega arith | inr e ↦ omega arith ]

      no_handler : (j : ℕ) → action_word j ≢ action_word s + n
      no_handler j z = elim which [ inl e ↦ omega arith | inr e ↦ omega arith ]
