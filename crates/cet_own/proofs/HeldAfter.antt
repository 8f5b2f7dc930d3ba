-- The supervisor stack that a thread holds after an access is the one that the book has for it. Source: own.
use Rattle.std.proofs.Common.{◌≡◌, ◌≢◌, ℕ, ◌+◌, ◌-◌, ◌<◌, ◌≤◌, ◌⊎◌, Bool, true, false, List, [], ◌∷◌, Option, Some, None, refl, sym, ◌∙◌, ap, subst, arith}
use Rattle.std.specs.Prelude.{◌/◌, ◌%◌, ◌==◌, ◌&&◌, if◌then◌else◌, nat_le}
use Rattle.std.proofs.lemmas.Bool.Decides.{nat_tests}
use Rattle.cet_words.specs.Layout.{token, token_word}
use Rattle.cet_words.specs.declared.accesses.Access.{Access}
use Rattle.cet_words.specs.declared.accesses.Access.TheVariants as access
use Rattle.cet_words.specs.Change.{Change, Called, Returned, Raised, Acquired, Released, Claimed, Seeded, Born, Pushed, Popped, Ended, Busied, Freed}
use Rattle.cet_book.specs.Book.{Book, book_after, books_after}
use Rattle.cet_book.specs.Shape.{IsBook}
use Rattle.cet_book.proofs.Changes.{same_book, then_by}
use Rattle.cet_book.specs.Relied.{Held}
use Rattle.cet_book.proofs.Held.{held_by_change, change_held}
use Rattle.cet_book.proofs.Kept.{book_kept}
use Rattle.cet_page.specs.Script.{held_after}
use Rattle.cet_own.specs.Past.{held_by, held_where, stack_at}
use Rattle.cet_own.specs.Claims.{NotesGate}

-- what the first change makes of it, and then the others
held_first : (c : Change) (cs : List Change) (held : Option ℕ) → held_after (c ∷ cs) held ≡ held_after cs (held_by_change c held)
held_first (Called back) cs held = refl
held_first Returned cs held = refl
held_first (Raised n) cs held = refl
held_first (Acquired p) cs held = refl
held_first Released cs held = refl
held_first (Claimed start pages maker) cs held = refl
held_first (Seeded start n) cs held = refl
held_first (Born child start) cs held = refl
held_first (Pushed x) cs held = refl
held_first Popped cs held = refl
held_first Ended cs held = refl
held_first (Busied k) cs held = refl
held_first (Freed k) cs held = refl

pub changes_held : (t : ℕ) (cs : List Change) (b next : Book) (held : Option ℕ) → IsBook b → books_after t b cs ≡ Some next → Held t b held → Held t next (held_after cs held)
changes_held t [] b next held h e old = subst (λ n. Held t n held) (same_book t b next [] refl e) old
changes_held t (c ∷ cs) b next held h e old =
    let d = then_by t (book_after t b c) next cs e in
    let now = change_held t c b d.0 held h d.1 old in
    subst (Held t next) (sym (held_first c cs held)) (changes_held t cs d.0 next (held_by_change c held) (book_kept t c b d.0 h d.1).book d.2 now)

-- ---- and what the access's answer says

pub notes_gate : {k : ℕ} {a c : Access} {changes l : List Change} (v : ℕ) → a ≡ c → changes ≡ l → ((held : Option ℕ) → held_after l held ≡ held_by c v held) →
    ((held : Option ℕ) (j : ℕ) → held_after l held ≡ Some j → (held ≡ Some j) ⊎ (j ≡ k)) → NotesGate k a v changes
notes_gate v e ev h own = record {
  says = λ held. ap (λ cs. held_after cs held) ev ∙ h held ∙ sym (ap (λ x. held_by x v held) e);
  own = λ held j q. own held j (sym (ap (λ cs. held_after cs held) ev) ∙ q);
}

pub taken_own : (k j : ℕ) → Some k ≡ Some j → j ≡ k
taken_own k j q = cc

pub keeps_note : {a c : Access} (v : ℕ) → a ≡ c → ((held : Option ℕ) → held ≡ held_by c v held) → (held : Option ℕ) → held ≡ held_by a v held
keeps_note v e h held = h held ∙ sym (ap (λ x. held_by x v held) e)

tests_fail : (c d e : Bool) (k : ℕ) → (c ≡ true → d ≡ true → e ≡ true → ⊥) → (if c && d && e then Some k else None) ≡ None
tests_fail true true true k n = absurd (n refl refl refl)
tests_fail true true false k n = refl
tests_fail true false e k n = refl
tests_fail false d e k n = refl

-- the word is no token
pub no_token : (word expected value v : ℕ) → ((k : ℕ) → k < 8 → token_word k ≢ word) → (held : Option ℕ) → held ≡ held_by (access.CompareExchange word expected value) v held
no_token word expected value v n held =
    let none : stack_at word ≡ None = tests_fail (nat_le (token_word 0) word) (nat_le word (token_word 7)) ((word - token_word 0) % 1024 == 0) ((word - token_word 0) / 1024) (λ low high step.
    let l : token_word 0 ≤ word = grind (arith, nat_tests) in
    let h : word ≤ token_word 7 = grind (arith, nat_tests) in
    let m : (word - token_word 0) % 1024 ≡ 0 = grind (arith, nat_tests) in
    n ((word - token_word 0) / 1024) (omega arith) (omega arith)) in
    rw none refl

pub token_at : (k : ℕ) → k < 8 → stack_at (token_word k) ≡ Some k
token_at k l =
    let low : token_word 0 ≤ token_word k = omega arith in
    let high : token_word k ≤ token_word 7 = omega arith in
    let even : (token_word k - token_word 0) % 1024 ≡ 0 = omega arith in
    let is : (token_word k - token_word 0) / 1024 ≡ k = omega arith in
    let lo : nat_le (token_word 0) (token_word k) ≡ true = grind (arith, nat_tests) in
    let hi : nat_le (token_word k) (token_word 7) ≡ true = grind (arith, nat_tests) in
    let step : ((token_word k - token_word 0) % 1024 == 0) ≡ true = grind (arith, nat_tests) in
    rw (lo, hi, step) (ap (λ n. Some n) is)

where_fails : (stack : Option ℕ) (value : ℕ) (held : Option ℕ) → held ≡ held_where stack false value held
where_fails None value held = refl
where_fails (Some k) value held = refl

-- an exchange that fails leaves it
pub exchange_misses : (word expected value v : ℕ) → v ≢ expected → (held : Option ℕ) → held ≡ held_by (access.CompareExchange word expected value) v held
exchange_misses word expected value v n held =
    let other : (v == expected) ≡ false = grind (arith, nat_tests) in
    rw other (where_fails (stack_at word) value held)

-- the way in
pub takes_note : (k v : ℕ) → k < 8 → v ≡ token k → (held : Option ℕ) → Some k ≡ held_by (access.CompareExchange (token_word k) (token k) (token k + 1)) v held
takes_note k v l e held =
    let at = token_at k l in
    let same : (v == token k) ≡ true = grind (arith, nat_tests) in
    let busy : (token k + 1 == token k + 1) ≡ true = grind (arith, nat_tests) in
    rw (at, same, busy) refl

-- the way out
pub gives_note : (k v : ℕ) → k < 8 → v ≡ token k + 1 → (held : Option ℕ) → None ≡ held_by (access.CompareExchange (token_word k) (token k + 1) (token k)) v held
gives_note k v l e held =
    let at = token_at k l in
    let same : (v == token k + 1) ≡ true = grind (arith, nat_tests) in
    let free : (token k == token k + 1) ≡ false = (let n : token k ≢ token k + 1 = omega arith in grind (arith, nat_tests)) in
    rw (at, same, free) refl
