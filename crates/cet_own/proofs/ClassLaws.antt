-- Each class of access keeps words and book in step, and leaves to other threads what they rely on. Source: own.
use Rattle.std.proofs.Common.{◌≡◌, ◌≢◌, ℕ, ◌+◌, ◌-◌, ◌<◌, inr, Bool, true, false, List, [], ◌∷◌, Option, Some, refl, sym, ◌∙◌, ap, subst, arith}
use Rattle.std.specs.Prelude.{slice_index, slice_set, ◌==◌}
use Rattle.std.proofs.lemmas.Bool.Decides.{nat_tests}
use Rattle.cet_words.specs.Layout.{token, token_word}
use Rattle.cet_words.specs.Access.{answer, after}
use Rattle.cet_words.specs.Job.{ImageData}
use Rattle.cet_words.specs.Change.{Change}
use Rattle.cet_words.specs.declared.accesses.Access.{Access}
use Rattle.cet_words.specs.declared.accesses.Access.TheVariants as access
use Rattle.cet_book.specs.declared.entries.Entry.{Entry}
use Rattle.cet_book.specs.declared.entries.Entry.TheVariants.{Call, Restorer, Frame, Previous, Blank}
use Rattle.cet_book.specs.declared.entries.Holder.TheVariants.{Lost}
use Rattle.cet_book.specs.Book.{Book, region, top, current_of, put_stack, book_after, books_after}
use Rattle.cet_book.proofs.Edits.{Owned}
use Rattle.cet_book.proofs.Hand.{hand, hand_all, hand_same, ends}
use Rattle.cet_book.proofs.Addresses.{ChangeReturns}
use Rattle.cet_book.proofs.Kept.{book_kept}
use Rattle.cet_book.specs.Stack.{slot, slot_word, word_of, tops}
use Rattle.cet_book.specs.Facts.{Stack}
use Rattle.cet_own.specs.Past.{next_word, draw_word}
use Rattle.cet_own.specs.Holds.{Sound, Holds}
use Rattle.cet_own.specs.Facts.{IsRestorer, IsEntry, busy}
use Rattle.cet_own.proofs.Marks.{marks_out, marks_same, tokens_end}
use Rattle.cet_own.proofs.Kept.{ending_out, restorers_out, size_kept, lists_out, pages_out, pages_same, gates_set, gates_same}
use Rattle.cet_book.proofs.Changes.{same_book, then_by}
use Rattle.cet_page.specs.Trail.{Visit}
use Rattle.cet_own.specs.Claims.{Still, HasNone}
use Rattle.cet_own.proofs.Counters.{CountersTell}
use Rattle.cet_own.specs.Owed.{HeadWord, Known}

-- ---- what an answer tells

head_word : (words : List ℕ) (f : ℕ → ℕ) (a : ℕ) (es : List Entry) → Stack words f a es → HeadWord f a es (slice_index words (slot a))
head_word words f a [] s = tt
head_word words f a (e ∷ es) s = s.0

pub known : (image : ImageData) (t : ℕ) (words : List ℕ) (past : List Visit) (b : Book) (a : Access) → CountersTell words t b → Holds image words b → Still words t b past → Known image t past b a (answer words a)
known image t words past b a counters_tell h still = record {
  few = λ n e. (let w : answer words a ≡ slice_index words draw_word = ap (answer words) e in let few = counters_tell.draws in omega arith);
  fresh = λ n e l.
      let w : answer words a ≡ slice_index words next_word = ap (answer words) e in
      subst (λ x. HasNone x b) (sym w) (counters_tell.none (omega arith));
  next_few = λ n e. (let w : answer words a ≡ slice_index words next_word = ap (answer words) e in let few = counters_tell.nexts in omega arith);
  code = λ s l e. subst (IsRestorer image) (sym (ap (answer words) e)) (h.restorers.executable s l);
  restorer = λ s l r e z. still.restorer s l r (sym (ap (answer words) e) ∙ z);
  left = λ w x own k e. ap (answer words) e ∙ still.word w x own k;
  sound = h.sound;
  entry = λ page e. subst (IsEntry image page) (sym (ap (answer words) e)) (h.pages.entries page);
  look = λ page e lo hi n. h.pages.shadow page lo hi (λ z. n (ap (answer words) e ∙ z));
  head = λ l e.
      subst (HeadWord (tops b) (top (region b (current_of t b))) (region b (current_of t b)).entries) (sym (ap (answer words) e))
      (head_word words (tops b) (top (region b (current_of t b))) (region b (current_of t b)).entries (h.stacks (current_of t b)));
  finds = λ p expected value pp e found. h.marks.token p pp (sym (ap (answer words) e) ∙ found);
  stands = λ p q expected value k e.
      let at = k.top_is in
      let place : top (region b q) - 8 ≡ p = omega arith in
      let w : slot_word words p ≡ top (region b q) + 1 = subst (λ n. slot_word words n ≡ top (region b q) + 1) place (h.marks.parked q k.parked) in
      ap (answer words) e ∙ w ∙ omega arith;
  draw = λ n e i. (let w : answer words a ≡ slice_index words draw_word = ap (answer words) e in let d = h.marks.drawn i in omega arith);
  gate = λ k expected value l e. ap (answer words) e ∙ h.gates k l;
}

-- ---- the book after

pub one_book : (t : ℕ) (b next : Book) (c : Change) (changes : List Change) → changes ≡ c ∷ [] → books_after t b changes ≡ Some next → book_after t b c ≡ Some next
one_book t b next c changes e q =
    let r : books_after t b (c ∷ []) ≡ Some next = subst (λ l. books_after t b l ≡ Some next) e q in
    let d = then_by t (book_after t b c) next [] r in
    let same : d.0 ≡ next = same_book t d.0 next [] refl d.2 in
    d.1 ∙ ap Some same

pub sound_after : (t : ℕ) (c : Change) (b next : Book) → Sound b → book_after t b c ≡ Some next → ChangeReturns c → Sound next
sound_after t c b next s e r = let k = book_kept t c b next s.book e in record { book = k.book; returns = k.returns r s.returns }

-- ---- the words after

pub wrote : (image : ImageData) (words : List ℕ) (b : Book) (word expected value : ℕ) (c : Bool) → (slice_index words word == expected) ≡ c → Holds image words b →
    (c ≡ true → Holds image (slice_set words word value) b) → Holds image (after words (access.CompareExchange word expected value)) b
wrote image words b word expected value true e h f = rw e (f refl)
wrote image words b word expected value false e h f = rw e h

pub exchange_does : (words : List ℕ) (word expected value : ℕ) → slice_index words word ≡ expected → after words (access.CompareExchange word expected value) ≡ slice_set words word value
exchange_does words word expected value e = let f : (slice_index words word == expected) ≡ true = grind (arith, nat_tests) in rw f refl

pub exchange_fails : (words : List ℕ) (word expected value : ℕ) → slice_index words word ≢ expected → after words (access.CompareExchange word expected value) ≡ words
exchange_fails words word expected value n = let f : (slice_index words word == expected) ≡ false = grind (arith, nat_tests) in rw f refl

-- a supervisor stack gets a holder, or loses it
pub holds_gate : (image : ImageData) (words : List ℕ) (b : Book) (k x : ℕ) (o : Option ℕ) → k < 8 → x ≡ token k + busy o → Sound (put_stack b k o) → Holds image words b →
    Holds image (slice_set words (token_word k) x) (put_stack b k o)
holds_gate image words b k x o l e sound h = record {
  size = size_kept words (token_word k) x h.size;
  sound = sound;
  stacks = lists_out words b (token_word k) x h.sound.book.shape (inr (omega arith)) h.stacks;
  pages = (let p = pages_out image words b (token_word k) x (omega arith) h.pages in record { entries = p.entries; fixed = p.fixed; shadow = p.shadow });
  gates = gates_set words b k x o h.size h.sound.book.stacks.eight l e h.gates;
  restorers = restorers_out image words (token_word k) x (inr (omega arith)) h.restorers;
  marks = (let m = marks_out words b (token_word k) x (inr (omega arith)) (omega arith) h.sound.book.shape h.marks in record { parked = m.parked; token = m.token; zeros = m.zeros; drawn = m.drawn });
  ending = ending_out words (token_word k) x (omega arith) h.ending;
}

-- the region of a thread ends
pub holds_end : (image : ImageData) (words : List ℕ) (t m : ℕ) (b : Book) → Owned t m b → Sound (hand m (region b m).entries Lost b) → Holds image words b → Holds image words (hand m (region b m).entries Lost b)
holds_end image words t m b o sound h =
    let same : (i : ℕ) → top (region (hand m (region b m).entries Lost b) i) ≡ top (region b i) = hand_all (ends o) (λ i r. top r ≡ top (region b i)) refl (λ i n. refl) in
    record {
      size = h.size;
      sound = sound;
      stacks = hand_all (ends o) (λ i r. Stack words (tops (hand m (region b m).entries Lost b)) (top r) r.entries)
          (tops_agree words (tops b) (tops (hand m (region b m).entries Lost b)) (top (region b m)) (region b m).entries same (h.stacks m))
          (λ i n. tops_agree words (tops b) (tops (hand m (region b m).entries Lost b)) (top (region b i)) (region b i).entries same (h.stacks i));
      pages = pages_same image words b (hand m (region b m).entries Lost b) (hand_same (ends o)) h.pages;
      gates = gates_same words b (hand m (region b m).entries Lost b) refl h.gates;
      restorers = h.restorers;
      marks = marks_same words (tokens_end o) h.marks;
      ending = h.ending;
    }
  where
    word_agrees : (f g : ℕ → ℕ) (a : ℕ) (e : Entry) → ((i : ℕ) → g i ≡ f i) → word_of g a e ≡ word_of f a e
    word_agrees f g a (Call x) s = refl
    word_agrees f g a (Restorer x) s = refl
    word_agrees f g a Frame s = refl
    word_agrees f g a (Previous q) s = ap (λ n. n + 3) (s q)
    word_agrees f g a Blank s = refl

    tops_agree : (words : List ℕ) (f g : ℕ → ℕ) (a : ℕ) (es : List Entry) → ((i : ℕ) → g i ≡ f i) → Stack words f a es → Stack words g a es
    tops_agree words f g a [] s h = tt
    tops_agree words f g a (e ∷ es) s h = (h.0 ∙ sym (word_agrees f g a e s), tops_agree words f g (a + 8) es s h.1)
