-- What a row has seen of words of its thread's own is still there, whatever the others did since. Source: own.
use Rattle.std.proofs.Common.{◌⊎◌, ◌≡◌, ◌≢◌, ℕ, ◌+◌, ◌%◌, ◌^◌, ◌<◌, inl, inr, Bool, true, false, List, [], ◌∷◌, length, Some, None}
use Rattle.std.proofs.Common.{refl, sym, ◌∙◌, ap, subst, arith, get_or-set_other, get_or-set_same, ◌-◌, Option}
use Rattle.std.specs.Prelude.{◌||◌, ◌&&◌, nat_lt, slice_index, slice_set, bit_or, bit_and, ◌==◌, if◌then◌else◌}
use Rattle.std.proofs.lemmas.Bool.Decides.{eqb_tells, nat_tests}
use Rattle.std.proofs.lemmas.Bool.{false≢true, eqb-true}
use Rattle.cet_words.specs.Layout.{action_word, word_count, token, token_word, kernel_return}
use Rattle.cet_words.specs.Access.{answer, after}
use Rattle.cet_words.specs.Job.{ImageData}
use Rattle.cet_words.specs.Change.{Change, Acquired, Busied}
use Rattle.cet_words.specs.declared.accesses.Access.{Access}
use Rattle.cet_words.specs.declared.accesses.Access.TheVariants as access
use Rattle.cet_book.specs.Book.{Book, book_after, books_after, stack_of}
use Rattle.cet_book.specs.Facts.{Place}
use Rattle.cet_book.specs.Stack.{slot, slot_word}
use Rattle.cet_book.specs.Shape.{IsBook}
use Rattle.cet_book.proofs.Changes.{same_book, then_by}
use Rattle.cet_book.proofs.Edited.{busied_is}
use Rattle.cet_book.proofs.Kept.{NotBorn, NoneBorn, book_kept}
use Rattle.cet_own.proofs.Writes.{in_there}
use Rattle.cet_page.specs.Trail.{Visit, visit}
use Rattle.cet_own.specs.Past.{frees_token, is_taking, touches, leaves_word, takes_any, left_in, left_row, restorer_word, shows_restorer, has_restorer, claimed_in}
use Rattle.cet_book.proofs.Cases.{and_true}
use Rattle.cet_book.proofs.Comes.{Comes, TakesNothing, AllApart, change_comes, changes_come}
use Rattle.cet_own.specs.Facts.{HasClaimed, Restorers, IsOwnPlace, OwnWord, below_token, own_slot}
use Rattle.cet_own.proofs.ClaimStays.{claim_own}
use Rattle.cet_own.specs.Claims.{KeepsRestorers, Still, TellsBelow}
use Rattle.cet_own.proofs.Switches.{is_switch, switches}

-- one that goes elsewhere does
pub not_below : (word k : ℕ) → word ≢ token_word k - 1 → (word == token_word k - 1) ≡ false
not_below word k n = grind (arith, nat_tests)

pub tells_below : (t : ℕ) (b : Book) (v : ℕ) {a c : Access} → a ≡ c → ((k : ℕ) → k < 8 → touches c (token_word k - 1) ≡ false) → ((k : ℕ) → k < 8 → frees_token c k ≡ false) → TellsBelow t b a v
tells_below t b v e n m = record {
  holder = λ k l q. absurd (false≢true (sym (n k l) ∙ sym (ap (λ x. touches x (token_word k - 1)) e) ∙ q));
  address = λ k l q. absurd (false≢true (sym (n k l) ∙ sym (ap (λ x. touches x (token_word k - 1)) e) ∙ q));
  frees = λ k l q. absurd (false≢true (sym (m k l) ∙ sym (ap (λ x. frees_token x k) e) ∙ q));
}

-- an exchange of another word, or of another token than the busy one
pub not_freed : (word expected value k : ℕ) → (word ≡ token_word k → expected ≡ token k + 1 → ⊥) → frees_token (access.CompareExchange word expected value) k ≡ false
not_freed word expected value k n = elim (eqb_tells word (token_word k)) [
  | inr u ↦ rw u.0 refl
  | inl u ↦ elim (eqb_tells expected (token k + 1)) [
    | inl w ↦ absurd (n u.1 w.1)
    | inr w ↦ rw (u.0, w.0) refl
  ]
]

-- one that gives back the stack that the thread holds
pub gives_back : (t : ℕ) (b : Book) (v k : ℕ) {a : Access} → a ≡ access.CompareExchange (token_word k) (token k + 1) (token k) → k < 8 → stack_of b k ≡ Some t → TellsBelow t b a v
gives_back t b v k e l held =
    let none : (j : ℕ) → (token_word k == token_word j - 1) ≡ false = λ j. not_below (token_word k) j (λ z. omega arith) in
    record {
      holder = λ j m q. absurd (false≢true (sym (none j) ∙ sym (ap (λ x. touches x (token_word j - 1)) e) ∙ q));
      address = λ j m q. absurd (false≢true (sym (none j) ∙ sym (ap (λ x. touches x (token_word j - 1)) e) ∙ q));
      frees = λ j m q.
          let both = and_true (token_word k == token_word j) (token k + 1 == token j + 1 && token k == token j) (sym (ap (λ x. frees_token x j) e) ∙ q) in
          let at : token_word k ≡ token_word j = eqb-true (token_word k) (token_word j) both.0 in
          let same : k ≡ j = omega arith in
          subst (λ i. stack_of b i ≡ Some t) same held;
    }

pub word_there : (t : ℕ) (b : Book) (w : ℕ) → OwnWord t b w → w < word_count
word_there t b w (own_slot addr p o e) = let low = p.low in let high = p.high in omega arith
word_there t b w (below_token k l h e) = omega arith

-- a row without accesses
pub still_none : (words : List ℕ) (t : ℕ) (b : Book) → Still words t b []
still_none words t b = record { word = λ w x o e. cc; place = λ a x p o e. cc; restorer = λ s l e. absurd (false≢true e); claimed = tt; below = λ k x l h e. cc }

-- ---- what is a thread's own was so before

pub or_false : (p q : Bool) → (p || q) ≡ false → (p ≡ false) × (q ≡ false)
or_false true q e = absurd (false≢true (sym e))
or_false false q e = (refl, e)

takes_nothing : (c : Change) → is_taking c ≡ false → TakesNothing c
takes_nothing (Acquired p) e = absurd (false≢true (sym e))
takes_nothing (Busied k) e = absurd (false≢true (sym e))
takes_nothing c e = tt

nothing_taken : (t : ℕ) (cs : List Change) → takes_any cs ≡ false → AllApart t t cs
nothing_taken t [] e = tt
nothing_taken t (c ∷ cs) e = let both = or_false (is_taking c) (takes_any cs) e in (inr (takes_nothing c both.0), nothing_taken t cs both.1)

-- unless it was taken since
pub own_before : (y : ℕ) (b next : Book) (addr : ℕ) → Comes y b next → IsOwnPlace y next addr → IsOwnPlace y b addr
own_before y b next addr c o = record {
  each = λ i inn.
      let l = in_there b i addr inn in
      let s = c.start i l in
      let e = c.end i l in
      let low = inn.low in
      let high = inn.high in
      c.owns i l (o.each i (record { low = omega arith; high = omega arith }));
}

own_word_before : (y : ℕ) (b next : Book) (w : ℕ) → Comes y b next → OwnWord y next w → OwnWord y b w
own_word_before y b next w c (own_slot addr p o e) = own_slot addr p (own_before y b next addr c o) e
own_word_before y b next w c (below_token k l h e) = below_token k l (c.holds k h) e

-- In its shadow stacks what is a thread's own was so before, unless it took a shadow stack since.
own_change : (t : ℕ) (c : Change) (b next : Book) (addr : ℕ) → IsBook b → NotBorn c t → book_after t b c ≡ Some next → is_switch c ≡ false → IsOwnPlace t next addr → IsOwnPlace t b addr
own_change t (Acquired p) b next addr h none e q own = absurd (false≢true (sym q))
own_change t (Busied k) b next addr h none e q own =
    let is = busied_is t b next h k e in
    subst (λ (n : Book). IsOwnPlace t n addr → IsOwnPlace t b addr) is.2 (λ o. record { each = λ i inn. o.each i inn }) own
own_change t c b next addr h none e q own = own_before t b next addr (change_comes t t c b next h e none (inr (takes_nothing c refl))) own

own_places_before : (t : ℕ) (cs : List Change) (b next : Book) (addr : ℕ) → IsBook b → NoneBorn cs t → books_after t b cs ≡ Some next → switches cs ≡ false → IsOwnPlace t next addr → IsOwnPlace t b addr
own_places_before t [] b next addr h none e q own = subst (λ (n : Book). IsOwnPlace t n addr) (sym (same_book t b next [] refl e)) own
own_places_before t (c ∷ cs) b next addr h none e q own =
    let d = then_by t (book_after t b c) next cs e in
    let both = or_false (is_switch c) (switches cs) q in
    own_change t c b d.0 addr h none.0 d.1 both.0 (own_places_before t cs d.0 next addr (book_kept t c b d.0 h d.1).book none.1 d.2 both.1 own)

-- ---- what one access does to a word

abbrev pub Left : (Access) → List ℕ → ℕ → Type 0
Left a words w = slice_index (after words a) w ≡ (if touches a w then leaves_word a (answer words a) else slice_index words w)

set_word : (words : List ℕ) (word w x : ℕ) → w < length words → slice_index (slice_set words word x) w ≡ (if word == w then x else slice_index words w)
set_word words word w x l = elim (eqb_tells word w) [
  | inl e ↦ rw e.0 (subst (λ n. slice_index (slice_set words n x) w ≡ x) (sym e.1) (get_or-set_same words w x 0 l))
  | inr e ↦ rw e.0 (let n : w ≢ word = (λ z. e.1 (sym z)) in get_or-set_other words word w x 0 n)
]

same_word : (words : List ℕ) (word w : ℕ) → slice_index words w ≡ (if word == w then slice_index words word else slice_index words w)
same_word words word w = elim (eqb_tells word w) [
  | inl e ↦ rw e.0 (ap (slice_index words) (sym e.1))
  | inr e ↦ rw e.0 refl
]

exchanged : (words : List ℕ) (word w x : ℕ) (c : Bool) → w < length words → slice_index (if c then slice_set words word x else words) w ≡ (if word == w then (if c then x else slice_index words word) else slice_index words w)
exchanged words word w x true l = set_word words word w x l
exchanged words word w x false l = same_word words word w

pub left_word : (a : Access) (words : List ℕ) (w : ℕ) → w < length words → Left a words w
left_word (access.Look page) words w l = refl
left_word (access.Load word) words w l = same_word words word w
left_word (access.Store word value) words w l = set_word words word w value l
left_word (access.Swap word value) words w l = set_word words word w value l
left_word (access.FetchAdd word value) words w l = set_word words word w ((slice_index words word + value) % 2 ^ 64) l
left_word (access.FetchOr word value) words w l = set_word words word w (bit_or (slice_index words word) value) l
left_word (access.FetchAnd word value) words w l = set_word words word w (bit_and (slice_index words word) value) l
left_word (access.CompareExchange word expected value) words w l = exchanged words word w value (slice_index words word == expected) l

-- ---- restorers

or_true : (p q : Bool) → (p || q) ≡ true → (p ≡ true) ⊎ (q ≡ true)
or_true true q e = inl refl
or_true false q e = inr e

restorer_shown : {image : ImageData} (a : Access) (words : List ℕ) (s : ℕ) → length words ≡ word_count → Restorers image words → s < 64 → shows_restorer a (answer words a) s ≡ true →
    slice_index (after words a) (restorer_word s) ≢ 0
restorer_shown (access.Load word) words s size h l e =
    let d = and_true (word == action_word s) (nat_lt 1 (slice_index words word)) e in
    let same : word ≡ action_word s = eqb-true word (action_word s) d.0 in
    let check_address : nat_lt 1 (slice_index words word) ≡ true = d.1 in
    let above : 1 < slice_index words word = grind (arith, nat_tests) in
    h.shown s l (subst (λ n. 1 < slice_index words n) same above)
restorer_shown (access.Store word value) words s size h l e =
    let d = and_true (word == restorer_word s) (nat_lt 0 value) e in
    let same : word ≡ restorer_word s = eqb-true word (restorer_word s) d.0 in
    let check_address : nat_lt 0 value ≡ true = d.1 in
    let above : 0 < value = grind (arith, nat_tests) in
    let inside : restorer_word s < length words = omega arith in
    let now : slice_index (slice_set words word value) (restorer_word s) ≡ value = subst (λ n. slice_index (slice_set words n value) (restorer_word s) ≡ value) (sym same) (get_or-set_same words (restorer_word s) value 0 inside) in
    λ z. omega arith
restorer_shown a words s size h l e = cc

-- ---- after the thread's own access

known_by : (left : Option ℕ) (x leaves_word now was : ℕ) (c : Bool) → now ≡ (if c then leaves_word else was) → (left ≡ Some x → was ≡ x) → (if c then Some leaves_word else left) ≡ Some x → now ≡ x
known_by left x leaves_word now was true e h k = e ∙ (let q = k in cc)
known_by left x leaves_word now was false e h k = e ∙ h k

own_word : (words : List ℕ) (t : ℕ) (b : Book) (past : List Visit) (a : Access) (w x : ℕ) (taking : Bool) → length words ≡ word_count → (taking ≡ false → OwnWord t b w) → Still words t b past →
    (if taking then None else (if touches a w then Some (leaves_word a (answer words a)) else left_in past w)) ≡ Some x → slice_index (after words a) w ≡ x
own_word words t b past a w x true size own h e = cc
own_word words t b past a w x false size own h e =
    let there = word_there t b w (own refl) in
    known_by (left_in past w) x (leaves_word a (answer words a)) (slice_index (after words a) w) (slice_index words w) (touches a w)
    (left_word a words w (omega arith)) (λ k. h.word w x (own refl) k) e

own_place : (words : List ℕ) (t : ℕ) (b : Book) (past : List Visit) (a : Access) (addr x : ℕ) → length words ≡ word_count → Place addr → IsOwnPlace t b addr → Still words t b past →
    (if touches a (slot addr) then Some (leaves_word a (answer words a)) else left_row past (slot addr)) ≡ Some x → slot_word (after words a) addr ≡ x
own_place words t b past a addr x size place own h e =
    let low = place.low in
    let high = place.high in
    known_by (left_row past (slot addr)) x (leaves_word a (answer words a)) (slot_word (after words a) addr) (slot_word words addr) (touches a (slot addr))
    (left_word a words (slot addr) (omega arith)) (λ k. h.place addr x place own k) e

-- what an access leaves there, by whether it takes a stack and touches the word
below_by : (left : Option ℕ) (x leaves : ℕ) (taking touching : Bool) → (taking ≡ false → touching ≡ true → leaves ≡ kernel_return) → (taking ≡ false → left ≡ Some x → x ≡ kernel_return) →
    (if taking then None else (if touching then Some leaves else left)) ≡ Some x → x ≡ kernel_return
below_by left x leaves true touching own old e = cc
below_by left x leaves false true own old e = let same : leaves ≡ x = cc in sym same ∙ own refl refl
below_by left x leaves false false own old e = old refl e

pub still_own : {image : ImageData} (words : List ℕ) (t : ℕ) (b next : Book) (past : List Visit) (a : Access) (cs : List Change) → length words ≡ word_count → Restorers image words →
    KeepsRestorers words (after words a) → TellsBelow t b a (answer words a) → IsBook b → NoneBorn cs t → books_after t b cs ≡ Some next → switches cs ≡ false → Still words t b past →
    Still (after words a) t next (visit a (answer words a) cs ∷ past)
still_own words t b next past a cs size signals restorers tells book none q calm h = record {
  place = λ addr x place own e. own_place words t b past a addr x size place (own_places_before t cs b next addr book none q calm own) h e;
  below = λ k x l own e.
      let held : takes_any cs ≡ false → stack_of b k ≡ Some t = λ f. (changes_come t t cs b next book q none (nothing_taken t cs f)).holds k own in
      below_by (left_in past (token_word k - 1)) x (leaves_word a (answer words a)) (takes_any cs) (touches a (token_word k - 1))
      (λ f g. tells.address k l g) (λ f g. h.below k x l (held f) g) e;
  restorer = λ s l e. elim (or_true (shows_restorer a (answer words a) s) (has_restorer past s) e) [
    | inl u ↦ restorer_shown a words s size signals l u
    | inr u ↦ restorers s l (h.restorer s l u)
  ];
  word = λ w x own e.
      own_word words t b past a w x (takes_any cs) size
      (λ f. own_word_before t b next w (changes_come t t cs b next book q none (nothing_taken t cs f)) own) h e;
  claimed = claim_own t cs b next (claimed_in past) book q h.claimed;
}

-- ---- after another thread's

pub still_kept : (words : List ℕ) (y : ℕ) (b next : Book) (past : List Visit) (a : Access) → Comes y b next → ((w : ℕ) → OwnWord y b w → slice_index (after words a) w ≡ slice_index words w) →
    KeepsRestorers words (after words a) → (HasClaimed y (claimed_in past) b → HasClaimed y (claimed_in past) next) → Still words y b past → Still (after words a) y next past
still_kept words y b next past a c spares restorers claims h = record {
  below = λ k x l own e. h.below k x l (c.holds k own) e;
  claimed = claims h.claimed;
  restorer = λ s l e. restorers s l (h.restorer s l e);
  word = λ w x own e.
      let own' = own_word_before y b next w c own in
      spares w own' ∙ h.word w x own' e;
  place = λ addr x place own e.
      let own' = own_before y b next addr c own in
      spares (slot addr) (own_slot addr place own' refl) ∙ h.place addr x place own' e;
}
