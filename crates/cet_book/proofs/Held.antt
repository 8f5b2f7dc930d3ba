-- A thread's note of the supervisor stack that it holds agrees with the book, after each of its changes. Source: own.
use Rattle.std.proofs.Common.{◌≡◌, ◌≢◌, ℕ, ◌<◌, inl, inr, length, Option, Some, None, sym, ◌∙◌, ap, subst}
use Rattle.std.specs.Prelude.{◌↔◌}
use Rattle.std.proofs.lemmas.Bool.Decides.{eqb_tells}
use Rattle.cet_words.specs.Change.{Change, Busied, Freed}
use Rattle.cet_book.specs.Book.{Book, stack_of, put_stack, book_after}
use Rattle.cet_book.specs.Shape.{StackShape, IsBook}
use Rattle.cet_book.specs.Relied.{Free, Held}
use Rattle.cet_book.proofs.Kept.{book_kept, SameHolders}
use Rattle.cet_book.proofs.Edited.{busied_is, freed_is}
use Rattle.cet_book.proofs.Supervisor.{stack_there, stack_of-put_stack}

pub held_free : (t : ℕ) (b : Book) → Free t b → Held t b None
held_free t b free k = (λ e. cc, λ e. absurd (free k e))

-- what a change makes of the note
abbrev pub held_by_change : Change → Option ℕ → Option ℕ
held_by_change (Busied k) held = Some k
held_by_change (Freed k) held = None
held_by_change c held = held

same_held : (t : ℕ) (b next : Book) (held : Option ℕ) → next.stacks ≡ b.stacks → Held t b held → Held t next held
same_held t b next held e h k = (λ u. ap (λ l. stack_of (record b { stacks = l }) k) e ∙ (h k).0 u, λ u. (h k).1 (ap (λ l. stack_of (record b { stacks = l }) k) (sym e) ∙ u))

taken_held : (t k : ℕ) (b : Book) → k < length b.stacks → Free t b → Held t (put_stack b k (Some t)) (Some k)
taken_held t k b inside free j =
    let at = stack_of-put_stack b k j (Some t) inside in
    elim (eqb_tells j k) [
      | inl u ↦ (λ e. rw u.0 at at, λ e. ap Some (sym u.1))
      | inr u ↦ (λ e. absurd (u.1 (let v = e in cc)), λ e. absurd (free j (sym (rw u.0 at at) ∙ e)))
    ]

pub given_held : (t k : ℕ) (b : Book) → k < length b.stacks → StackShape b.stacks → stack_of b k ≡ Some t → Held t (put_stack b k None) None
given_held t k b inside shape held j =
    let at = stack_of-put_stack b k j None inside in (
      λ e. cc,
      λ e. elim (eqb_tells j k) [
        | inl u ↦ absurd (let none = rw u.0 at at in cc)
        | inr u ↦ absurd (u.1 (shape.alone t j k (sym (rw u.0 at at) ∙ e) held))
      ],
    )

by_holders : (t : ℕ) (c : Change) (b next : Book) (held : Option ℕ) → IsBook b → SameHolders c b.stacks next.stacks → book_after t b c ≡ Some next → Held t b held → Held t next (held_by_change c held)
by_holders t (Busied k) b next held h s e old =
    let is = busied_is t b next h k e in
    subst (λ n. Held t n (Some k)) is.2 (taken_held t k b is.0 is.1)
by_holders t (Freed k) b next held h s e old =
    let is = freed_is t k b next e in
    subst (λ n. Held t n None) is.1 (given_held t k b (stack_there t k b is.0) h.stacks is.0)
by_holders t c b next held h s e old = same_held t b next held s old

pub change_held : (t : ℕ) (c : Change) (b next : Book) (held : Option ℕ) → IsBook b → book_after t b c ≡ Some next → Held t b held → Held t next (held_by_change c held)
change_held t c b next held h e old = by_holders t c b next held h (book_kept t c b next h e).holders e old
