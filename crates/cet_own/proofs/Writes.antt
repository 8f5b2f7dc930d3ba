-- What a write of one word leaves of the lists in memory. Source: own.
use Rattle.std.proofs.Common.{◌≡◌, ◌≢◌, ℕ, ◌+◌, ◌*◌, ◌%◌, ◌<◌, ◌≤◌, ◌⊎◌, inl, inr, true, List, [], ◌∷◌, length, refl, sym, ◌∙◌, ap, subst, arith, get_or-set_other, get_or-set_same}
use Rattle.std.specs.Prelude.{slice_set}
use Rattle.std.proofs.lemmas.Bool.{cases_lt}
use Rattle.std.proofs.lemmas.Bool.Decides.{nat_tests}
use Rattle.std.proofs.lemmas.List.{get_or_past}
use Rattle.cet_words.specs.Layout.{first_kernel_word, first_shadow_word, word_count}
use Rattle.cet_book.specs.declared.entries.Entry.{Entry}
use Rattle.cet_book.specs.declared.entries.Entry.TheVariants.{Call, Restorer, Frame, Previous, Blank}
use Rattle.cet_book.specs.Book.{Book, Region, nowhere, region, top}
use Rattle.cet_book.specs.Facts.{is_previous, one, links, Stack, In, Place}
use Rattle.cet_book.specs.Shape.{Shape}
use Rattle.cet_book.specs.Stack.{slot, slot_word, tops, word_of}

-- a region with an address is one of the book's
pub in_there : (b : Book) (i a : ℕ) → In (region b i) a → i < length b.regions
in_there b i a h = elim (cases_lt i (length b.regions)) [
  | inl l ↦ l
  | inr g ↦ absurd (let e : (region b i).end ≡ 0 = ap (λ (r : Region). r.end) (get_or_past b.regions i nowhere g) in let l = h.high in omega arith)
]

-- two regions have no address in common
pub in_one : (b : Book) (i j a : ℕ) → Shape b → In (region b i) a → In (region b j) a → i ≡ j
in_one b i j a s x y =
    let li = in_there b i a x in
    let lj = in_there b j a y in
    let xl = x.low in
    let xh = x.high in
    let yl = y.low in
    let yh = y.high in
    elim (cases_lt i j) [
      | inl l ↦ absurd (let h = s.apart i j l lj in omega arith)
      | inr g ↦ elim (cases_lt j i) [ inl l ↦ absurd (let h = s.apart j i l li in omega arith) | inr g' ↦ omega arith ]
    ]

pub top_even : (b : Book) (i : ℕ) → Shape b → top (region b i) % 8 ≡ 0
top_even b i s = elim (cases_lt i (length b.regions)) [
  | inl l ↦ let e = (s.bounds i l).last in let o = (s.fits i).room in omega arith
  | inr g ↦ ap (λ (r : Region). top r % 8) (get_or_past b.regions i nowhere g)
]

word_of_same : (f g : ℕ → ℕ) (a : ℕ) (e : Entry) → ((s : ℕ) → is_previous s e ≡ true → g s ≡ f s) → word_of g a e ≡ word_of f a e
word_of_same f g a (Call x) h = refl
word_of_same f g a (Restorer x) h = refl
word_of_same f g a Frame h = refl
word_of_same f g a (Previous s) h = ap (λ n. n + 3) (h s (grind (arith, nat_tests)))
word_of_same f g a Blank h = refl

-- a list stands in other words and by other tops, where its words and the tops that it names are as they were
pub stack_agrees : (words words' : List ℕ) (f g : ℕ → ℕ) (a : ℕ) (es : List Entry) → a % 8 ≡ 0 → ((x : ℕ) → a ≤ x → x < a + 8 * length es → x % 8 ≡ 0 → slot_word words' x ≡ slot_word words x) →
    ((s : ℕ) → links s es ≢ 0 → g s ≡ f s) → Stack words f a es → Stack words' g a es
stack_agrees words words' f g a [] even w t h = tt
stack_agrees words words' f g a (e ∷ es) even w t h = (
  w a (omega arith) (omega arith) even ∙ h.0 ∙ sym (word_of_same f g a e (λ s p. t s (let q : one (is_previous s e) ≡ 1 = rw p refl in omega arith))),
  stack_agrees words words' f g (a + 8) es (omega arith) (λ x l u n. w x (omega arith) (omega arith) n) (λ s n. t s (omega arith)) h.1,
)

-- The old lists stand by the new tops, where only the top of region m may have changed, and no entry leads to m.
pub list_kept : (words words' : List ℕ) (b next : Book) (m i : ℕ) → Shape b → ((x : ℕ) → links m (region b x).entries ≡ 0) → ((s : ℕ) → s ≢ m → tops next s ≡ tops b s) →
    ((a : ℕ) → top (region b i) ≤ a → a < (region b i).end → a % 8 ≡ 0 → slot_word words' a ≡ slot_word words a) → Stack words (tops b) (top (region b i)) (region b i).entries →
    Stack words' (tops next) (top (region b i)) (region b i).entries
list_kept words words' b next m i shape none same w h =
    let o = (shape.fits i).room in
    stack_agrees words words' (tops b) (tops next) (top (region b i)) (region b i).entries (top_even b i shape)
    (λ a lo hi even. w a lo (omega arith) even)
    (λ s n. same s (λ q. n (subst (λ z. links z (region b i).entries ≡ 0) (sym q) (none i)))) h

pub in_place : (b : Book) (i a : ℕ) → Shape b → In (region b i) a → a % 8 ≡ 0 → Place a
in_place b i a s x even =
    let d = s.bounds i (in_there b i a x) in
    let dl = d.low in
    let dh = d.high in
    let xl = x.low in
    let xh = x.high in
    record { low = omega arith; high = omega arith; even = even }

pub slot_same : (words : List ℕ) (p x : ℕ) → length words ≡ word_count → Place p → slot_word (slice_set words (slot p) x) p ≡ x
slot_same words p x size pp =
    let low = pp.low in
    let high = pp.high in
    let inside : slot p < length words = omega arith in
    get_or-set_same words (slot p) x 0 inside

pub slot_other : (words : List ℕ) (p a x : ℕ) → Place p → Place a → a ≢ p → slot_word (slice_set words (slot p) x) a ≡ slot_word words a
slot_other words p a x pp pa n =
    let pl = pp.low in
    let pe = pp.even in
    let al = pa.low in
    let ae = pa.even in
    let other : slot a ≢ slot p = omega arith in
    get_or-set_other words (slot p) (slot a) x 0 other

-- a write elsewhere
pub slot_out : (words : List ℕ) (w a x : ℕ) → (w < first_shadow_word) ⊎ (first_kernel_word ≤ w) → Place a → slot_word (slice_set words w x) a ≡ slot_word words a
slot_out words w a x out pa =
    let al = pa.low in
    let ah = pa.high in
    let other : slot a ≢ w = elim out [ inl l ↦ omega arith | inr g ↦ omega arith ] in
    get_or-set_other words w (slot a) x 0 other

-- a write below the top of region k leaves the words of every list
pub list_free : (words : List ℕ) (b : Book) (p x k i a : ℕ) → Shape b → Place p → In (region b k) p → p < top (region b k) → top (region b i) ≤ a → a < (region b i).end → a % 8 ≡ 0 →
    slot_word (slice_set words (slot p) x) a ≡ slot_word words a
list_free words b p x k i a s pp ip free lo hi even =
    let o = (s.fits i).room in
    let inn : In (region b i) a = record { low = omega arith; high = hi } in
    let n : a ≢ p = λ u. (let q : i ≡ k = in_one b i k p s (subst (In (region b i)) u inn) ip in let lo' : top (region b k) ≤ a = subst (λ n. top (region b n) ≤ a) q lo in omega arith) in
    slot_other words p a x pp (in_place b i a s inn even) n

pub list_out : (words : List ℕ) (b : Book) (w x i a : ℕ) → Shape b → (w < first_shadow_word) ⊎ (first_kernel_word ≤ w) → top (region b i) ≤ a → a < (region b i).end → a % 8 ≡ 0 →
    slot_word (slice_set words w x) a ≡ slot_word words a
list_out words b w x i a s out lo hi even =
    let o = (s.fits i).room in
    let inn : In (region b i) a = record { low = omega arith; high = hi } in
    slot_out words w a x out (in_place b i a s inn even)
