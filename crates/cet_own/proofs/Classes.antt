-- The classes of accesses that rows make: each pays what is owed. Source: own.
use Rattle.std.proofs.Common.{◌≡◌, ◌≢◌, ℕ, ◌+◌, ◌-◌, ◌%◌, ◌^◌, ◌<◌, ◌≤◌, inl, inr, Bool, true, false, List, [], ◌∷◌, Option, Some, None, refl, sym, ◌∙◌, ap, subst, arith, get_or-set_other}
use Rattle.std.specs.Prelude.{slice_index, slice_set, ◌==◌, if◌then◌else◌, bit_or, bit_and}
use Rattle.cet_words.specs.Access.{answer, after}
use Rattle.cet_words.specs.Entries.{entry_of}
use Rattle.cet_words.specs.Job.{ImageData}
use Rattle.cet_words.specs.Layout.{exit_word, entry_word, token, token_word, kernel_return, first_entry_word, first_kernel_page, first_mmap_page, first_shadow_page}
use Rattle.cet_words.specs.Change.{Change, Called, Returned, Ended, Busied, Freed}
use Rattle.cet_words.specs.declared.accesses.Access.{Access}
use Rattle.cet_words.specs.declared.accesses.Access.TheVariants as access
use Rattle.cet_book.specs.Facts.{IsReturn, LiesIn, Place, In, Owns}
use Rattle.cet_book.specs.declared.entries.Entry.TheVariants.{Call}
use Rattle.cet_book.specs.declared.entries.Holder.TheVariants.{Current, Lost}
use Rattle.cet_book.specs.Book.{Book, region, top, stack_of, put_stack, relist, returned, book_after, books_after}
use Rattle.cet_book.proofs.Edits.{Owned, owned_there}
use Rattle.cet_book.proofs.Hand.{hand}
use Rattle.cet_book.proofs.Removes.{Removal, returned_is}
use Rattle.cet_book.proofs.Top.{top_is}
use Rattle.cet_book.specs.Stack.{slot}
use Rattle.cet_book.proofs.Ways.{with_current_at, called_way, ended_way, freed_way, busied_way}
use Rattle.cet_own.specs.Holds.{Sound, Holds, IsOut, NoAction}
use Rattle.cet_own.specs.Facts.{IsEntry, busy, OwnWord, own_slot, below_token}
use Rattle.cet_book.specs.Relied.{Free}
use Rattle.cet_own.proofs.Kept.{holds_ended, holds_out, holds_entry, holds_below_token}
use Rattle.cet_own.proofs.Own.{below_top, holds_push, holds_pop}
use Rattle.cet_own.proofs.Fits.{of_class, none_of, none_held, some_held, is_push, is_load, is_entry, is_end}
use Rattle.cet_own.proofs.HeldAfter.{keeps_note, notes_gate, taken_own, no_token, exchange_misses, takes_note, gives_note}
use Rattle.cet_own.specs.Owed.{Owed}
use Rattle.cet_book.proofs.Changes.{same_book, then_by}
use Rattle.std.proofs.lemmas.Bool.{eqb-true, false≢true}
use Rattle.std.proofs.lemmas.Bool.Decides.{nat_tests}
use Rattle.cet_page.specs.Script.{birth, held_after}
use Rattle.cet_page.specs.Trail.{Visit}
use Rattle.cet_own.specs.ExitWord.{IsEnding}
use Rattle.cet_own.specs.Class.{class_at}
use Rattle.cet_own.specs.Past.{next_word, draw_word, restorer_word, frame_pushed, frees_token, below_frame, held_by, leaves_word, touches}
use Rattle.cet_own.specs.declared.access_classes.Class.TheVariants as class
use Rattle.cet_own.proofs.Counters.{LeavesCounters}
use Rattle.cet_own.specs.Claims.{CountsBy, no_count, alters, Stacked, KeepsRestorers, TellsBelow}
use Rattle.cet_own.proofs.Still.{gives_back, tells_below, not_below, not_freed}
use Rattle.cet_own.proofs.ClassLaws.{one_book, sound_after, wrote, exchange_does, exchange_fails, holds_gate, holds_end}

pub own_region : {image : ImageData} {words : List ℕ} {b : Book} (t m : ℕ) → Holds image words b → (region b m).holder ≡ Current t → Owned t m b
own_region t m h e = record { shape = h.sound.book.shape; current = e }

-- the token of a stack with a holder
pub token_held : {image : ImageData} {words : List ℕ} {b : Book} (t k : ℕ) → Holds image words b → k < 8 → stack_of b k ≡ Some t → slice_index words (token_word k) ≡ token k + 1
token_held t k h l e = h.gates k l ∙ ap (λ o. token k + busy o) e

free_by : (o : Option ℕ) (p : ℕ) → p + busy o ≡ p → o ≡ None
free_by None p e = refl
free_by (Some t) p e = absurd (omega arith)

-- a stack whose token is free has no holder
stack_free : {image : ImageData} {words : List ℕ} {b : Book} (k : ℕ) → Holds image words b → k < 8 → slice_index words (token_word k) ≡ token k → stack_of b k ≡ None
stack_free {b = b} k h l found = free_by (stack_of b k) (token k) (sym (h.gates k l) ∙ found)

-- ---- the book after

called_is : (t m back : ℕ) (b next : Book) (changes : List Change) → Owned t m b → (region b m).start + 8 ≤ top (region b m) → changes ≡ Called back ∷ [] → books_after t b changes ≡ Some next →
    relist m (Call back ∷ (region b m).entries) b ≡ next
called_is t m back b next changes o room ev q =
    let r : book_after t b (Called back) ≡ Some next = one_book t b next (Called back) changes ev q in
    let fits = (o.shape.fits m).room in
    let way = called_way o back (omega arith) in
    cc

removed_is : (t m : ℕ) (b next : Book) (changes : List Change) → Owned t m b → changes ≡ Returned ∷ [] → books_after t b changes ≡ Some next → Removal t m b next
removed_is t m b next changes o ev q =
    let r : book_after t b Returned ≡ Some next = one_book t b next Returned changes ev q in
    let r' : returned m (region b m).entries b ≡ Some next = sym (with_current_at o (λ m r. returned m r.entries b)) ∙ r in
    returned_is next (region b m).entries o refl r'

freed_is : (t k : ℕ) (b next : Book) (changes : List Change) → stack_of b k ≡ Some t → changes ≡ Freed k ∷ [] → books_after t b changes ≡ Some next → put_stack b k None ≡ next
freed_is t k b next changes held ev q =
    let r : book_after t b (Freed k) ≡ Some next = one_book t b next (Freed k) changes ev q in
    let way = freed_way t k b held in
    cc

busied_is : (t k : ℕ) (b next : Book) (changes : List Change) → k < 8 → stack_of b k ≡ None → Free t b → changes ≡ Busied k ∷ [] → books_after t b changes ≡ Some next → put_stack b k (Some t) ≡ next
busied_is t k b next changes l none free ev q =
    let r : book_after t b (Busied k) ≡ Some next = one_book t b next (Busied k) changes ev q in
    let way = busied_way t k b l none free in
    cc

-- a region ends, and then a stack is given back
record Gave (t m k : ℕ) (b next : Book) : Type 0 where
  first : book_after t b Ended ≡ Some (hand m (region b m).entries Lost b)
  second : book_after t (hand m (region b m).entries Lost b) (Freed k) ≡ Some next
  is : put_stack (hand m (region b m).entries Lost b) k None ≡ next

gave : (t m k : ℕ) (b next : Book) (changes : List Change) → Owned t m b → stack_of b k ≡ Some t → changes ≡ Ended ∷ Freed k ∷ [] → books_after t b changes ≡ Some next → Gave t m k b next
gave t m k b next changes o held ev q =
    let r : books_after t b (Ended ∷ Freed k ∷ []) ≡ Some next = subst (λ cs. books_after t b cs ≡ Some next) ev q in
    let s = then_by t (book_after t b Ended) next (Freed k ∷ []) r in
    let way = ended_way o in
    let mid : s.0 ≡ hand m (region b m).entries Lost b = (let w = s.1 in cc) in
    let second : book_after t (hand m (region b m).entries Lost b) (Freed k) ≡ Some next
    = one_book t (hand m (region b m).entries Lost b) next (Freed k) (Freed k ∷ []) refl (subst (λ n. books_after t n (Freed k ∷ []) ≡ Some next) mid s.2) in
    let held' : stack_of (hand m (region b m).entries Lost b) k ≡ Some t = held in
    record { first = way; second = second; is = (let f = freed_way t k (hand m (region b m).entries Lost b) held' in cc) }

-- ---- an access without changes

-- no thread's own words differ
pub record Spared (b : Book) (words now : List ℕ) : Type 0 where
  pub own : (y w : ℕ) → OwnWord y b w → slice_index now w ≡ slice_index words w
  pub restorers : KeepsRestorers words now

own_out : (y w word : ℕ) (b : Book) → IsOut word → OwnWord y b w → w ≢ word
own_out y w word b out (own_slot addr p o e) z =
    let low = p.low in
    let high = p.high in
    elim out.shadow [ inl l ↦ omega arith | inr g ↦ omega arith ]
own_out y w word b out (below_token k l h e) z = out.below k l (sym e ∙ z)

own_entry : (y w word : ℕ) (b : Book) → first_entry_word ≤ word → OwnWord y b w → w ≢ word
own_entry y w word b lo (own_slot addr p o e) z = let high = p.high in omega arith
own_entry y w word b lo (below_token k l h e) z = omega arith

own_token : (y w j : ℕ) (b : Book) → j < 8 → OwnWord y b w → w ≢ token_word j
own_token y w j b lj (own_slot addr p o e) z = let high = p.high in omega arith
own_token y w j b lj (below_token k l h e) z = omega arith

own_exit : (y w : ℕ) (b : Book) → OwnWord y b w → w ≢ exit_word
own_exit y w b (own_slot addr p o e) z = let high = p.high in omega arith
own_exit y w b (below_token k l h e) z = omega arith

pub word_other : (words : List ℕ) (word x w : ℕ) → w ≢ word → slice_index (slice_set words word x) w ≡ slice_index words w
word_other words word x w n = get_or-set_other words word w x 0 n

pub keeps_restorers : (words : List ℕ) (word x : ℕ) → NoAction word → KeepsRestorers words (slice_set words word x)
keeps_restorers words word x out s l n =
    let other : restorer_word s ≢ word = elim out [ inl p ↦ omega arith | inr g ↦ omega arith ] in
    λ z. n (sym (word_other words word x (restorer_word s) other) ∙ z)

exchange_restorers : (words : List ℕ) (word x : ℕ) (c : Bool) → NoAction word → KeepsRestorers words (if c then slice_set words word x else words)
exchange_restorers words word x true out = keeps_restorers words word x out
exchange_restorers words word x false out = λ s l n. n

out_spared : (words : List ℕ) (b : Book) (word x : ℕ) → IsOut word → Spared b words (slice_set words word x)
out_spared words b word x out = record { own = λ y w own. word_other words word x w (own_out y w word b out own); restorers = keeps_restorers words word x out.actions }

exchange_other : (words : List ℕ) (word x w : ℕ) (c : Bool) → w ≢ word → slice_index (if c then slice_set words word x else words) w ≡ slice_index words w
exchange_other words word x w true n = word_other words word x w n
exchange_other words word x w false n = refl

pub token_spares : (words : List ℕ) (b : Book) (j expected x : ℕ) → j < 8 → Spared b words (after words (access.CompareExchange (token_word j) expected x))
token_spares words b j expected x l = record {
  own = λ y w own. exchange_other words (token_word j) x w (slice_index words (token_word j) == expected) (own_token y w j b l own);
  restorers = exchange_restorers words (token_word j) x (slice_index words (token_word j) == expected) (inr (omega arith));
}

-- a word of the thread's own region is no other thread's own
pub own_spares : (words : List ℕ) {t m : ℕ} {b : Book} (o : Owned t m b) (y p x : ℕ) → t ≢ y → Place p → In (region b m) p → (w : ℕ) → OwnWord y b w → slice_index (slice_set words (slot p) x) w ≡ slice_index words w
own_spares words {m = m} {b = b} o y p x n place inn w (own_slot addr at own e) =
    let low = place.low in
    let even = place.even in
    let low' = at.low in
    let even' = at.even in
    word_other words (slot p) x w (λ z. n (
    let same : addr ≡ p = omega arith in
    subst (Owns y) o.current (own.each m (subst (In (region b m)) (sym same) inn))))
own_spares words o y p x n place inn w (below_token k l h e) =
    let high = place.high in
    word_other words (slot p) x w (λ z. omega arith)

-- the access changes neither counter, as its kind tells
pub leaves_by : {a c : Access} → a ≡ c → alters c draw_word ≡ false → alters c next_word ≡ false → LeavesCounters a
leaves_by e n m = record { draws = ap (λ x. alters x draw_word) e ∙ n; births = ap (λ x. alters x next_word) e ∙ m }

pub no_count_by : {t : ℕ} {past : List Visit} {b : Book} {a : Access} {v : ℕ} {changes : List Change} → LeavesCounters a → birth changes ≡ None → CountsBy t past b a v changes
no_count_by l none = no_count l.draws l.births none

pub other_word : (w : ℕ) → w ≢ draw_word → (w == draw_word) ≡ false
other_word w n = grind (arith, nat_tests)

pub next_other : (w : ℕ) → w ≢ next_word → (w == next_word) ≡ false
next_other w n = grind (arith, nat_tests)

-- the word below the token of a stack that the thread holds is below that of no other
own_stack_there : (t : ℕ) (b : Book) (k j : ℕ) → stack_of b k ≡ Some t → (token_word k - 1 == token_word j - 1) ≡ true → stack_of b j ≡ Some t
own_stack_there t b k j held q =
    let at : token_word k - 1 ≡ token_word j - 1 = eqb-true (token_word k - 1) (token_word j - 1) q in
    let same : k ≡ j = omega arith in
    subst (λ i. stack_of b i ≡ Some t) same held

pub quiet : {image : ImageData} {t k : ℕ} {past : List Visit} {b : Book} {a : Access} {v : ℕ} {changes : List Change} → changes ≡ [] → LeavesCounters a → TellsBelow t b a v →
    ((held : Option ℕ) → held ≡ held_by a v held) → ((words : List ℕ) → v ≡ answer words a → Holds image words b → Holds image (after words a) b × Spared b words (after words a)) →
    Owed image t k past b a v changes
quiet {image = image} {t = t} {b = b} {a = a} {v = v} {changes = changes} ev leaves below notes h = record {
  notes = λ words is h. record {
    says = λ held. ap (λ cs. held_after cs held) ev ∙ notes held;
    own = λ held j q. inl (sym (ap (λ cs. held_after cs held) ev) ∙ q);
  };
  below = λ words is h. below;
  counts = λ words is holds. no_count_by leaves (ap birth ev);
  fits = λ words is holds ssp held stands note. none_of _ ev;
  keeps = λ words next is holds still q. subst (Holds image (after words a)) (same_book t b next changes ev q) (h words is holds).0;
  spares = λ words is holds y n w own. (h words is holds).1.own y w own;
  restorers = λ words is holds. (h words is holds).1.restorers;
}

module _ {image : ImageData} {t k : ℕ} {past : List Visit} {b : Book} {a : Access} {v : ℕ} {changes : List Change} where
  pub looks : (page : ℕ) → a ≡ access.Look page → changes ≡ [] → Owed image t k past b a v changes
  looks page e ev = quiet ev (leaves_by e refl refl) (tells_below t b v e (λ j l. refl) (λ j l. refl)) (keeps_note v e (λ held. refl))
      (λ words is h. subst (λ c. Holds image (after words c) b × Spared b words (after words c)) (sym e) (h, record { own = λ y w own. refl; restorers = λ s l n. n }))

  pub loads : (word : ℕ) → a ≡ access.Load word → TellsBelow t b a v → changes ≡ [] → Owed image t k past b a v changes
  loads word e below ev = quiet ev (leaves_by e refl refl) below (keeps_note v e (λ held. refl))
      (λ words is h. subst (λ c. Holds image (after words c) b × Spared b words (after words c)) (sym e) (h, record { own = λ y w own. refl; restorers = λ s l n. n }))

  -- elsewhere than below a supervisor stack's token
  pub plain_loads : (word : ℕ) → a ≡ access.Load word → ((j : ℕ) → word ≢ token_word j - 1) → changes ≡ [] → Owed image t k past b a v changes
  plain_loads word e apart ev = loads word e (tells_below t b v e (λ j l. not_below word j (apart j)) (λ j l. refl)) ev

  pub stores : (word value : ℕ) → a ≡ access.Store word value → IsOut word → changes ≡ [] → Owed image t k past b a v changes
  stores word value e out ev = quiet ev (leaves_by e (other_word word out.draw) (next_other word out.next)) (tells_below t b v e (λ j l. not_below word j (λ z. out.below j l (sym z))) (λ j l. refl))
      (keeps_note v e (λ held. refl)) (λ words is h. subst (λ c. Holds image (after words c) b × Spared b words (after words c)) (sym e) (
        holds_out image words b word value out h,
        out_spared words b word value out,
      ))

  pub exchanges : (word expected value : ℕ) → a ≡ access.CompareExchange word expected value → IsOut word → changes ≡ [] → Owed image t k past b a v changes
  exchanges word expected value e out ev =
      quiet ev (leaves_by e (other_word word out.draw) (next_other word out.next)) (tells_below t b v e (λ j l. not_below word j (λ z. out.below j l (sym z))) (λ j l. not_freed word expected value j (λ z w. out.token j l (sym z))))
      (keeps_note v e (no_token word expected value v out.token)) (λ words is h. subst (λ c. Holds image (after words c) b × Spared b words (after words c)) (sym e) (
        wrote image words b word expected value (slice_index words word == expected) refl h (λ _. holds_out image words b word value out h),
        record {
          own = λ y w own. exchange_other words word value w (slice_index words word == expected) (own_out y w word b out own);
          restorers = exchange_restorers words word value (slice_index words word == expected) out.actions;
        },
      ))

  pub swaps : (word value : ℕ) → a ≡ access.Swap word value → IsOut word → changes ≡ [] → Owed image t k past b a v changes
  swaps word value e out ev = quiet ev (leaves_by e (other_word word out.draw) (next_other word out.next)) (tells_below t b v e (λ j l. not_below word j (λ z. out.below j l (sym z))) (λ j l. refl))
      (keeps_note v e (λ held. refl)) (λ words is h. subst (λ c. Holds image (after words c) b × Spared b words (after words c)) (sym e) (
        holds_out image words b word value out h,
        out_spared words b word value out,
      ))

  pub adds : (word value : ℕ) → a ≡ access.FetchAdd word value → IsOut word → changes ≡ [] → Owed image t k past b a v changes
  adds word value e out ev =
      quiet ev (leaves_by e (other_word word out.draw) (next_other word out.next)) (tells_below t b v e (λ j l. not_below word j (λ z. out.below j l (sym z))) (λ j l. refl)) (keeps_note v e (λ held. refl))
      (λ words is h. subst (λ c. Holds image (after words c) b × Spared b words (after words c)) (sym e) (
        holds_out image words b word ((slice_index words word + value) % 2 ^ 64) out h,
        out_spared words b word ((slice_index words word + value) % 2 ^ 64) out,
      ))

  pub ors : (word value : ℕ) → a ≡ access.FetchOr word value → IsOut word → changes ≡ [] → Owed image t k past b a v changes
  ors word value e out ev =
      quiet ev (leaves_by e (other_word word out.draw) (next_other word out.next)) (tells_below t b v e (λ j l. not_below word j (λ z. out.below j l (sym z))) (λ j l. refl)) (keeps_note v e (λ held. refl))
      (λ words is h. subst (λ c. Holds image (after words c) b × Spared b words (after words c)) (sym e) (
        holds_out image words b word (bit_or (slice_index words word) value) out h,
        out_spared words b word (bit_or (slice_index words word) value) out,
      ))

  pub ands : (word value : ℕ) → a ≡ access.FetchAnd word value → IsOut word → changes ≡ [] → Owed image t k past b a v changes
  ands word value e out ev =
      quiet ev (leaves_by e (other_word word out.draw) (next_other word out.next)) (tells_below t b v e (λ j l. not_below word j (λ z. out.below j l (sym z))) (λ j l. refl)) (keeps_note v e (λ held. refl))
      (λ words is h. subst (λ c. Holds image (after words c) b × Spared b words (after words c)) (sym e) (
        holds_out image words b word (bit_and (slice_index words word) value) out h,
        out_spared words b word (bit_and (slice_index words word) value) out,
      ))

  -- the process ends, where it hasn't ended before
  pub finishes : (value : ℕ) → a ≡ access.CompareExchange exit_word 0 value → IsEnding value → changes ≡ [] → Owed image t k past b a v changes
  finishes value e ending ev =
      quiet ev (leaves_by e (other_word exit_word (omega arith)) (next_other exit_word (omega arith))) (tells_below t b v e (λ j l. not_below exit_word j (λ z. omega arith)) (λ j l. not_freed exit_word 0 value j (λ z w. omega arith)))
      (keeps_note v e (no_token exit_word 0 value v (λ j l z. omega arith))) (λ words is h. subst (λ c. Holds image (after words c) b × Spared b words (after words c)) (sym e) (
        wrote image words b exit_word 0 value (slice_index words exit_word == 0) refl h (λ _. holds_ended image words b value ending h),
        record {
          own = λ y w own. exchange_other words exit_word value w (slice_index words exit_word == 0) (own_exit y w b own);
          restorers = exchange_restorers words exit_word value (slice_index words exit_word == 0) (inl (omega arith));
        },
      ))

  -- The entry of a page of the mmap area or the shadow area is stored: 0, or its present one; in the shadow area that of a page
  -- in a region.
  pub sets_page : (page x : ℕ) → a ≡ access.Store (entry_word page) x → first_mmap_page ≤ page → page < first_kernel_page → IsEntry image page x →
      (x ≢ 0 → first_shadow_page ≤ page → (i : ℕ) × LiesIn (region b i) page) → changes ≡ [] → Owed image t k past b a v changes
  sets_page page x e lo hi entry lies ev = quiet ev (leaves_by e (other_word (entry_word page) (omega arith)) (next_other (entry_word page) (omega arith)))
      (tells_below t b v e (λ j l. not_below (entry_word page) j (λ z. omega arith)) (λ j l. refl)) (keeps_note v e (λ held. refl))
      (λ words is h. subst (λ c. Holds image (after words c) b × Spared b words (after words c)) (sym e) (
        holds_entry image words b page x lo hi entry lies h,
        record {
          own = λ y w own. word_other words (entry_word page) x w (own_entry y w (entry_word page) b (omega arith) own);
          restorers = keeps_restorers words (entry_word page) x (inr (omega arith));
        },
      ))

  pub clears : (page : ℕ) → a ≡ access.Store (entry_word page) 0 → first_mmap_page ≤ page → page < first_kernel_page → changes ≡ [] → Owed image t k past b a v changes
  clears page e lo hi ev = sets_page page 0 e lo hi (inl refl) (λ n _. absurd (n refl)) ev

  pub makes_page : (page i : ℕ) → a ≡ access.Store (entry_word page) (entry_of image page) → first_shadow_page ≤ page → page < first_kernel_page → LiesIn (region b i) page → changes ≡ [] →
      Owed image t k past b a v changes
  makes_page page i e lo hi lies ev = sets_page page (entry_of image page) e (omega arith) hi (inr refl) (λ _ _. (i, lies)) ev

  -- the way in finds the supervisor stack busy
  pub refused : (value : ℕ) → k < 8 → a ≡ access.CompareExchange (token_word k) (token k) value → v ≢ token k → changes ≡ [] → Owed image t k past b a v changes
  refused value l e n ev =
      quiet ev (leaves_by e (other_word (token_word k) (omega arith)) (next_other (token_word k) (omega arith))) (tells_below t b v e (λ j m. not_below (token_word k) j (λ z. omega arith)) (λ j m. not_freed (token_word k) (token k) value j (λ z w. omega arith)))
      (keeps_note v e (exchange_misses (token_word k) (token k) value v n)) (λ words is h.
      let n' : slice_index words (token_word k) ≢ token k = λ z. n (is ∙ ap (answer words) e ∙ z) in
      subst (λ c. Holds image (after words c) b × Spared b words (after words c)) (sym e) (
        subst (λ w. Holds image w b) (sym (exchange_fails words (token_word k) (token k) value n')) h,
        token_spares words b k (token k) value l,
      ))

  -- the way out reads it again
  pub reloads : k < 8 → a ≡ access.Load (token_word k - 1) → v ≡ kernel_return → stack_of b k ≡ Some t → changes ≡ [] → Owed image t k past b a v changes
  reloads l e found held ev =
      loads (token_word k - 1) e (record {
        holder = λ j m q. own_stack_there t b k j held (sym (ap (λ c. touches c (token_word j - 1)) e) ∙ q);
        address = λ j m q. ap (λ c. leaves_word c v) e ∙ found;
        frees = λ j m q. absurd (false≢true (sym (ap (λ c. frees_token c j) e) ∙ q));
      }) ev

  -- the way in stores the kernel's return address below its token
  pub settles : k < 8 → a ≡ access.Store (token_word k - 1) kernel_return → stack_of b k ≡ Some t → changes ≡ [] → Owed image t k past b a v changes
  settles l e held ev = record {
    notes = λ words is h. notes_gate v e ev (λ note. refl) (λ note j q. inl q);
    below = λ words is h. record {
      holder = λ j m q. own_stack_there t b k j held (sym (ap (λ c. touches c (token_word j - 1)) e) ∙ q);
      address = λ j m q. ap (λ c. leaves_word c v) e;
      frees = λ j m q. absurd (false≢true (sym (ap (λ c. frees_token c j) e) ∙ q));
    };
    fits = λ words is h ssp held stands note. none_of _ ev;
    counts = λ words is h. no_count_by (leaves_by e (other_word (token_word k - 1) (omega arith)) (next_other (token_word k - 1) (omega arith))) (ap birth ev);
    keeps = λ words next is h still q.
        subst (λ c. Holds image (after words c) next) (sym e)
        (subst (Holds image (slice_set words (token_word k - 1) kernel_return)) (same_book t b next changes ev q) (holds_below_token image words b k kernel_return l h));
    spares = λ words is h y n w own.
        subst (λ c. slice_index (after words c) w ≡ slice_index words w) (sym e)
        (word_other words (token_word k - 1) kernel_return w (own_below y w b n l held own));
    restorers = λ words is h. subst (λ c. KeepsRestorers words (after words c)) (sym e) (keeps_restorers words (token_word k - 1) kernel_return (inr (omega arith)));
  }
    where
      own_below : (y w : ℕ) (b : Book) → t ≢ y → k < 8 → stack_of b k ≡ Some t → OwnWord y b w → w ≢ token_word k - 1
      own_below y w b n l held (own_slot addr p o e) z = let high = p.high in omega arith
      own_below y w b n l held (below_token j lj h e) z =
          let same : j ≡ k = omega arith in
          let h' : stack_of b k ≡ Some y = subst (λ i. stack_of b i ≡ Some y) same h in
          n (cc)

  -- a return address is stored below the top of the thread's region
  pub pushes : (m back : ℕ) → (region b m).holder ≡ Current t → a ≡ access.Store (slot (top (region b m) - 8)) back → (region b m).start + 8 ≤ top (region b m) → IsReturn back →
      frame_pushed past ≡ false → changes ≡ Called back ∷ [] → Owed image t k past b a v changes
  pushes m back current e room is_return level ev = record {
    notes = λ words is h. notes_gate v e ev (λ note. refl) (λ note j q. inl q);
    below = λ words is h.
        let high = (below_top (own_region t m h current) room).place.high in
        tells_below t b v e (λ j l. not_below (slot (top (region b m) - 8)) j (λ z. omega arith)) (λ j l. refl);
    fits = λ words is h ssp held stands note.
        let o = own_region t m h current in
        let place = (below_top o room).place in
        let low = place.low in
        let at' = subst (λ f. Stacked t b (below_frame f ssp)) level stands in
        let here : ssp ≡ top (region b m) = top_is o at'.top in
        let most = is_return.1 in
        of_class class.Push (Called back ∷ []) ev refl
        (ap (λ c. class_at c ssp held v) e ∙ is_push (top (region b m) - 8) ssp v held place back (omega arith) (λ z. omega arith) (omega arith));
    counts = λ words is h. no_count_by (leaves_by e (other_word (slot (top (region b m) - 8)) (let p = (below_top (own_region t m h current) room).place.high in omega arith))
        (next_other (slot (top (region b m) - 8)) (let p = (below_top (own_region t m h current) room).place.high in omega arith))) (ap birth ev);
    keeps = λ words next is h still q.
        let o = own_region t m h current in
        let d = called_is t m back b next changes o room ev q in
        let sound = sound_after t (Called back) b next h.sound (one_book t b next (Called back) changes ev q) is_return in
        subst (λ c. Holds image (after words c) next) (sym e)
        (subst (Holds image (slice_set words (slot (top (region b m) - 8)) back)) d (holds_push image words o back room is_return.1 (subst Sound (sym d) sound) h));
    spares = λ words is h y n w own.
        let o = own_region t m h current in
        let at = below_top o room in
        subst (λ c. slice_index (after words c) w ≡ slice_index words w) (sym e) (own_spares words o y (top (region b m) - 8) back n at.place at.inside w own);
    restorers = λ words is h. subst (λ c. KeepsRestorers words (after words c)) (sym e) (let p = (below_top (own_region t m h current) room).place.high in keeps_restorers words (slot (top (region b m) - 8)) back (inl (omega arith)));
  }

  -- the newest entry goes, where the book has that change
  pub pops : (m : ℕ) → (region b m).holder ≡ Current t → a ≡ access.Load (slot (top (region b m))) → Free t b → frame_pushed past ≡ false → changes ≡ Returned ∷ [] → Owed image t k past b a v changes
  pops m current e free level ev = record {
    notes = λ words is h. notes_gate v e ev (λ note. refl) (λ note j q. inl q);
    below = λ words is h.
        let o = own_region t m h current in
        let high = (h.sound.book.shape.bounds m (owned_there o)).high in
        tells_below t b v e (λ j l. not_below (slot (top (region b m))) j (λ z. omega arith)) (λ j l. refl);
    fits = λ words is h ssp held stands note.
        let at' = subst (λ f. Stacked t b (below_frame f ssp)) level stands in
        let here : ssp ≡ top (region b m) = top_is (own_region t m h current) at'.top in
        let low = at'.low in
        let high = at'.high in
        let even = at'.top.aligned in
        let place : Place ssp = record { low = omega arith; high = omega arith; even = even } in
        of_class class.Raise (Returned ∷ []) ev refl
        (ap (λ c. class_at c ssp held v) (e ∙ ap (λ n. access.Load (slot n)) (sym here)) ∙ is_load ssp ssp v held place (none_held b held free note) refl);
    counts = λ words is h. no_count_by (leaves_by e refl refl) (ap birth ev);
    keeps = λ words next is h still q.
        let o = own_region t m h current in
        let removal = removed_is t m b next changes o ev q in
        subst (λ c. Holds image (after words c) next) (sym e)
        (holds_pop image words o removal (sound_after t Returned b next h.sound (one_book t b next Returned changes ev q) tt) h);
    spares = λ words is h y n w own. subst (λ c. slice_index (after words c) w ≡ slice_index words w) (sym e) refl;
    restorers = λ words is h. subst (λ c. KeepsRestorers words (after words c)) (sym e) (λ s l n. n);
  }

  -- the way in takes the supervisor stack
  pub enters : k < 8 → a ≡ access.CompareExchange (token_word k) (token k) (token k + 1) → v ≡ token k → Free t b → changes ≡ Busied k ∷ [] → Owed image t k past b a v changes
  enters l e found free ev = record {
    notes = λ words is h. notes_gate v e ev (takes_note k v l found) (λ note j q. inr (taken_own k j q));
    below = λ words is h. tells_below t b v e (λ j m. not_below (token_word k) j (λ z. omega arith)) (λ j m. not_freed (token_word k) (token k) (token k + 1) j (λ z w. omega arith));
    fits = λ words is h ssp held stands note. of_class class.Neutral (Busied k ∷ []) ev refl (ap (λ c. class_at c ssp held v) e ∙ is_entry k (token k) (token k + 1) ssp v held l (none_held b held free note));
    counts = λ words is h. no_count_by (leaves_by e (other_word (token_word k) (omega arith)) (next_other (token_word k) (omega arith))) (ap birth ev);
    keeps = λ words next is h still q.
        let at : slice_index words (token_word k) ≡ token k = sym (is ∙ ap (answer words) e) ∙ found in
        let d = busied_is t k b next changes l (stack_free k h l at) free ev q in
        let sound = sound_after t (Busied k) b next h.sound (one_book t b next (Busied k) changes ev q) tt in
        subst (λ c. Holds image (after words c) next) (sym e)
        (subst (λ w. Holds image w next) (sym (exchange_does words (token_word k) (token k) (token k + 1) at))
        (subst (Holds image (slice_set words (token_word k) (token k + 1))) d (holds_gate image words b k (token k + 1) (Some t) l refl (subst Sound (sym d) sound) h)));
    spares = λ words is h y n w own.
        subst (λ c. slice_index (after words c) w ≡ slice_index words w) (sym e) ((token_spares words b k (token k) (token k + 1) l).own y w own);
    restorers = λ words is h. subst (λ c. KeepsRestorers words (after words c)) (sym e) ((token_spares words b k (token k) (token k + 1) l).restorers);
  }

  -- the way out gives it back
  pub leaves : k < 8 → a ≡ access.CompareExchange (token_word k) (token k + 1) (token k) → stack_of b k ≡ Some t → changes ≡ Freed k ∷ [] → Owed image t k past b a v changes
  leaves l e held ev = record {
    notes = λ words is h. notes_gate v e ev (gives_note k v l (is ∙ ap (answer words) e ∙ token_held t k h l held)) (λ note j q. cc);
    below = λ words is h. gives_back t b v k e l held;
    fits = λ words is h ssp noted stands note. of_class class.End (Freed k ∷ []) ev refl (ap (λ c. class_at c ssp noted v) e ∙ is_end k (token k + 1) (token k) ssp v noted l (some_held b noted k held note));
    counts = λ words is h. no_count_by (leaves_by e (other_word (token_word k) (omega arith)) (next_other (token_word k) (omega arith))) (ap birth ev);
    keeps = λ words next is h still q.
        let at = token_held t k h l held in
        let d = freed_is t k b next changes held ev q in
        let sound = sound_after t (Freed k) b next h.sound (one_book t b next (Freed k) changes ev q) tt in
        subst (λ c. Holds image (after words c) next) (sym e)
        (subst (λ w. Holds image w next) (sym (exchange_does words (token_word k) (token k + 1) (token k) at))
        (subst (Holds image (slice_set words (token_word k) (token k))) d (holds_gate image words b k (token k) None l (omega arith) (subst Sound (sym d) sound) h)));
    spares = λ words is h y n w own.
        subst (λ c. slice_index (after words c) w ≡ slice_index words w) (sym e) ((token_spares words b k (token k + 1) (token k) l).own y w own);
    restorers = λ words is h. subst (λ c. KeepsRestorers words (after words c)) (sym e) ((token_spares words b k (token k + 1) (token k) l).restorers);
  }

  -- and the thread's region may end with it
  pub exits : (m : ℕ) → k < 8 → a ≡ access.CompareExchange (token_word k) (token k + 1) (token k) → stack_of b k ≡ Some t → (region b m).holder ≡ Current t → changes ≡ Ended ∷ Freed k ∷ [] →
      Owed image t k past b a v changes
  exits m l e held current ev = record {
    notes = λ words is h. notes_gate v e ev (gives_note k v l (is ∙ ap (answer words) e ∙ token_held t k h l held)) (λ note j q. cc);
    below = λ words is h. gives_back t b v k e l held;
    fits = λ words is h ssp noted stands note. of_class class.End (Ended ∷ Freed k ∷ []) ev refl (ap (λ c. class_at c ssp noted v) e ∙ is_end k (token k + 1) (token k) ssp v noted l (some_held b noted k held note));
    counts = λ words is h. no_count_by (leaves_by e (other_word (token_word k) (omega arith)) (next_other (token_word k) (omega arith))) (ap birth ev);
    keeps = λ words next is h still q.
        let o = own_region t m h current in
        let at = token_held t k h l held in
        let g = gave t m k b next changes o held ev q in
        let sound = sound_after t Ended b (hand m (region b m).entries Lost b) h.sound g.first tt in
        let h' = holds_end image words t m b o sound h in
        let sound' = sound_after t (Freed k) (hand m (region b m).entries Lost b) next sound g.second tt in
        subst (λ c. Holds image (after words c) next) (sym e)
        (subst (λ w. Holds image w next) (sym (exchange_does words (token_word k) (token k + 1) (token k) at))
        (subst (Holds image (slice_set words (token_word k) (token k))) g.is
        (holds_gate image words (hand m (region b m).entries Lost b) k (token k) None l (omega arith) (subst Sound (sym g.is) sound') h')));
    spares = λ words is h y n w own.
        subst (λ c. slice_index (after words c) w ≡ slice_index words w) (sym e) ((token_spares words b k (token k + 1) (token k) l).own y w own);
    restorers = λ words is h. subst (λ c. KeepsRestorers words (after words c)) (sym e) ((token_spares words b k (token k + 1) (token k) l).restorers);
  }
