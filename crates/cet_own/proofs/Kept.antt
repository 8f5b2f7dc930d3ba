-- What a write leaves of the facts on words: one lemma a fact for a write that it doesn't see, and for a change of the book
-- that it doesn't see. Source: own.
use Rattle.std.proofs.Common.{◌-◌, ◌≡◌, ◌≢◌, ℕ, ◌+◌, ◌<◌, ◌≤◌, ◌⊎◌, inl, inr, List, length, Option, None, refl, sym, ◌∙◌, ap, subst, arith, get_or, length-set, get_or-set_other, get_or-set_same}
use Rattle.std.specs.Prelude.{slice_index, slice_set}
use Rattle.std.proofs.lemmas.Bool.Decides.{eqb_tells}
use Rattle.cet_words.specs.Job.{ImageData}
use Rattle.cet_words.specs.Layout.{exit_word, entry_word, token, token_word, action_word, first_entry_word, first_kernel_page, first_kernel_word, first_mmap_page, first_shadow_page, first_shadow_word, word_count}
use Rattle.cet_book.specs.Book.{Book, region, top, stack_of, put_stack}
use Rattle.cet_book.specs.Shape.{Shape}
use Rattle.cet_book.proofs.Edits.{SameBounds}
use Rattle.cet_book.proofs.Supervisor.{stack_of-put_stack}
use Rattle.cet_book.specs.Facts.{Stack, LiesIn}
use Rattle.cet_book.specs.Stack.{tops}
use Rattle.cet_own.specs.ExitWord.{IsEnding, IsExitWord}
use Rattle.cet_own.specs.Past.{restorer_word}
use Rattle.cet_own.specs.Holds.{NoAction, Pages, Gates, Holds, IsOut}
use Rattle.cet_own.specs.Facts.{IsRestorer, Restorers, IsEntry, busy}
use Rattle.cet_own.proofs.Writes.{stack_agrees, top_even, list_out}
use Rattle.cet_own.proofs.Marks.{marks_out}

-- the lists, where no word of the shadow area was written
pub lists_out : (words : List ℕ) (b : Book) (w x : ℕ) → Shape b → (w < first_shadow_word) ⊎ (first_kernel_word ≤ w) → ((i : ℕ) → Stack words (tops b) (top (region b i)) (region b i).entries) →
    (i : ℕ) → Stack (slice_set words w x) (tops b) (top (region b i)) (region b i).entries
lists_out words b w x s out h i =
    let o = (s.fits i).room in
    stack_agrees words (slice_set words w x) (tops b) (tops b) (top (region b i)) (region b i).entries (top_even b i s)
    (λ a lo hi even. list_out words b w x i a s out lo (omega arith) even) (λ s n. refl) (h i)

-- the pages, where no entry was written
pub pages_out : (image : ImageData) (words : List ℕ) (b : Book) (w x : ℕ) → w < first_entry_word → Pages image words b → Pages image (slice_set words w x) b
pages_out image words b w x l h =
    let same : (page : ℕ) → slice_index (slice_set words w x) (entry_word page) ≡ slice_index words (entry_word page) = λ page. (let n : entry_word page ≢ w = omega arith in get_or-set_other words w (entry_word page) x 0 n) in
    record {
      entries = λ page. subst (IsEntry image page) (sym (same page)) (h.entries page);
      fixed = λ page f. same page ∙ h.fixed page f;
      shadow = λ page lo hi n. h.shadow page lo hi (λ z. n (same page ∙ z));
    }

lies_same : (b next : Book) (i page : ℕ) → SameBounds b next → LiesIn (region b i) page → LiesIn (region next i) page
lies_same b next i page s l =
    let e = s.start i in
    let f = s.end i in
    let lo = l.low in
    let hi = l.high in
    record { low = omega arith; high = omega arith }

-- the pages see the bounds of regions alone
pub pages_same : (image : ImageData) (words : List ℕ) (b next : Book) → SameBounds b next → Pages image words b → Pages image words next
pages_same image words b next s h = record {
  entries = h.entries;
  fixed = h.fixed;
  shadow = λ page lo hi n. (let l = h.shadow page lo hi n in (l.0, lies_same b next l.0 page s l.1));
}

-- the tokens, where none was written
pub gates_out : (words : List ℕ) (b : Book) (w x : ℕ) → ((k : ℕ) → k < 8 → token_word k ≢ w) → Gates words b → Gates (slice_set words w x) b
gates_out words b w x n h k l = let other = n k l in get_or-set_other words w (token_word k) x 0 other ∙ h k l

-- the tokens see the holders of supervisor stacks alone
pub gates_same : (words : List ℕ) (b next : Book) → next.stacks ≡ b.stacks → Gates words b → Gates words next
gates_same words b next e h k l = h k l ∙ ap (λ s. token k + busy (get_or s k None)) (sym e)

-- a token becomes what the new holder asks
pub gates_set : (words : List ℕ) (b : Book) (k x : ℕ) (o : Option ℕ) → length words ≡ word_count → length b.stacks ≡ 8 → k < 8 → x ≡ token k + busy o → Gates words b →
    Gates (slice_set words (token_word k) x) (put_stack b k o)
gates_set words b k x o size eight l e h j lj =
    let within : k < length b.stacks = omega arith in
    let now = stack_of-put_stack b k j o within in
    elim (eqb_tells j k) [
      | inl u ↦
          let inside : token_word k < length words = omega arith in
          subst (λ i. slice_index (slice_set words (token_word k) x) (token_word i) ≡ token i + busy (stack_of (put_stack b k o) i)) (sym u.1)
          (get_or-set_same words (token_word k) x 0 inside ∙ e ∙ ap (λ q. token k + busy q) (sym (get_or-set_same b.stacks k o None within)))
      | inr u ↦
          let n = u.1 in
          let other : token_word j ≢ token_word k = omega arith in
          get_or-set_other words (token_word k) (token_word j) x 0 other ∙ h j lj ∙ ap (λ q. token j + busy q) (sym (rw u.0 at now))
    ]

-- handlers and restorers, where none was written
pub restorers_out : (image : ImageData) (words : List ℕ) (w x : ℕ) → NoAction w → Restorers image words → Restorers image (slice_set words w x)
restorers_out image words w x out h =
    let restorer : (s : ℕ) → s < 64 → slice_index (slice_set words w x) (restorer_word s) ≡ slice_index words (restorer_word s) =
    λ s l. (let other : restorer_word s ≢ w = elim out [ inl p ↦ omega arith | inr g ↦ omega arith ] in get_or-set_other words w (restorer_word s) x 0 other) in
    record {
      executable = λ s l. subst (IsRestorer image) (sym (restorer s l)) (h.executable s l);
      shown = λ s l above.
          let other : action_word s ≢ w = elim out [ inl p ↦ omega arith | inr g ↦ omega arith ] in
          let same = get_or-set_other words w (action_word s) x 0 other in
          λ z. h.shown s l (omega arith) (sym (restorer s l) ∙ z);
    }

-- EXIT, where another word was written
pub ending_out : (words : List ℕ) (w x : ℕ) → w ≢ exit_word → IsExitWord (slice_index words exit_word) → IsExitWord (slice_index (slice_set words w x) exit_word)
ending_out words w x n h =
    let other : exit_word ≢ w = λ z. n (sym z) in
    subst IsExitWord (sym (get_or-set_other words w exit_word x 0 other)) h

pub size_kept : (words : List ℕ) (w x : ℕ) → length words ≡ word_count → length (slice_set words w x) ≡ word_count
size_kept words w x e = length-set words w x ∙ e

-- ---- writes that leave the book as it is

pub holds_out : (image : ImageData) (words : List ℕ) (b : Book) (w x : ℕ) → IsOut w → Holds image words b → Holds image (slice_set words w x) b
holds_out image words b w x out h = record {
  size = size_kept words w x h.size;
  sound = h.sound;
  stacks = lists_out words b w x h.sound.book.shape out.shadow h.stacks;
  pages = pages_out image words b w x out.entry h.pages;
  gates = gates_out words b w x out.token h.gates;
  restorers = restorers_out image words w x out.actions h.restorers;
  marks = marks_out words b w x out.shadow out.draw h.sound.book.shape h.marks;
  ending = ending_out words w x out.exit h.ending;
}

-- EXIT is written
pub holds_ended : (image : ImageData) (words : List ℕ) (b : Book) (x : ℕ) → IsEnding x → Holds image words b → Holds image (slice_set words exit_word x) b
holds_ended image words b x is h =
    let size = h.size in
    let inside : exit_word < length words = omega arith in
    record {
      size = size_kept words exit_word x h.size;
      sound = h.sound;
      stacks = lists_out words b exit_word x h.sound.book.shape (inr (omega arith)) h.stacks;
      pages = pages_out image words b exit_word x (omega arith) h.pages;
      gates = gates_out words b exit_word x (λ k l. omega arith) h.gates;
      restorers = restorers_out image words exit_word x (inl (omega arith)) h.restorers;
      marks = marks_out words b exit_word x (inr (omega arith)) (omega arith) h.sound.book.shape h.marks;
      ending = subst IsExitWord (sym (get_or-set_same words exit_word x 0 inside)) (inr is);
    }

-- the word below a supervisor token is written
pub holds_below_token : (image : ImageData) (words : List ℕ) (b : Book) (k x : ℕ) → k < 8 → Holds image words b → Holds image (slice_set words (token_word k - 1) x) b
holds_below_token image words b k x l h = record {
  size = size_kept words (token_word k - 1) x h.size;
  sound = h.sound;
  stacks = lists_out words b (token_word k - 1) x h.sound.book.shape (inr (omega arith)) h.stacks;
  pages = pages_out image words b (token_word k - 1) x (omega arith) h.pages;
  gates = gates_out words b (token_word k - 1) x (λ j lj. omega arith) h.gates;
  restorers = restorers_out image words (token_word k - 1) x (inr (omega arith)) h.restorers;
  marks = marks_out words b (token_word k - 1) x (inr (omega arith)) (omega arith) h.sound.book.shape h.marks;
  ending = ending_out words (token_word k - 1) x (omega arith) h.ending;
}

-- a word that a page's entry may be is stored as that of a page of the mmap area or the shadow area, in the latter, where it
-- isn't 0, of a page of a region
pages_entry : (image : ImageData) (words : List ℕ) (b : Book) (page x : ℕ) → length words ≡ word_count → first_mmap_page ≤ page → page < first_kernel_page → IsEntry image page x →
    (x ≢ 0 → first_shadow_page ≤ page → (i : ℕ) × LiesIn (region b i) page) → Pages image words b → Pages image (slice_set words (entry_word page) x) b
pages_entry image words b page x size lo hi is lies h =
    let inside : entry_word page < length words = omega arith in
    let same : (p : ℕ) → p ≢ page → slice_index (slice_set words (entry_word page) x) (entry_word p) ≡ slice_index words (entry_word p) =
    λ p n. (let other : entry_word p ≢ entry_word page = omega arith in get_or-set_other words (entry_word page) (entry_word p) x 0 other) in
    let here : slice_index (slice_set words (entry_word page) x) (entry_word page) ≡ x = get_or-set_same words (entry_word page) x 0 inside in
    record {
      entries = λ p. elim (eqb_tells p page) [
        | inl u ↦ subst (λ q. IsEntry image q (slice_index (slice_set words (entry_word page) x) (entry_word q))) (sym u.1) (subst (IsEntry image page) (sym here) is)
        | inr u ↦ subst (IsEntry image p) (sym (same p u.1)) (h.entries p)
      ];
      fixed = λ p f.
          let n : p ≢ page = elim f [ inl l ↦ omega arith | inr g ↦ (let low = g.0 in omega arith) ] in
          same p n ∙ h.fixed p f;
      shadow = λ p lo' hi' n. elim (eqb_tells p page) [
        | inl u ↦
            let e = u.1 in
            let l = lies (λ z. n (subst (λ q. slice_index (slice_set words (entry_word page) x) (entry_word q) ≡ 0) (sym u.1) (here ∙ z))) (omega arith) in
            (l.0, subst (LiesIn (region b l.0)) (sym u.1) l.1)
        | inr u ↦ h.shadow p lo' hi' (λ z. n (same p u.1 ∙ z))
      ];
    }

pub holds_entry : (image : ImageData) (words : List ℕ) (b : Book) (page x : ℕ) → first_mmap_page ≤ page → page < first_kernel_page → IsEntry image page x →
    (x ≢ 0 → first_shadow_page ≤ page → (i : ℕ) × LiesIn (region b i) page) → Holds image words b → Holds image (slice_set words (entry_word page) x) b
holds_entry image words b page x lo hi is lies h = record {
  size = size_kept words (entry_word page) x h.size;
  sound = h.sound;
  stacks = lists_out words b (entry_word page) x h.sound.book.shape (inr (omega arith)) h.stacks;
  pages = pages_entry image words b page x h.size lo hi is lies h.pages;
  gates = gates_out words b (entry_word page) x (λ j lj. omega arith) h.gates;
  restorers = restorers_out image words (entry_word page) x (inr (omega arith)) h.restorers;
  marks = marks_out words b (entry_word page) x (inr (omega arith)) (omega arith) h.sound.book.shape h.marks;
  ending = ending_out words (entry_word page) x (omega arith) h.ending;
}
