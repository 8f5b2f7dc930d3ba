-- A supervisor stack becomes busy or free. Source: own.
use Rattle.std.proofs.Common.{◌≡◌, ◌≢◌, ℕ, ◌<◌, ◌≤◌, inl, inr, true, false, length, get_or, set, Option, Some, None, refl, sym, ◌∙◌, ap, subst, eqb, cond, arith, length-set, get_or-set_same, get_or-set_other}
use Rattle.std.proofs.lemmas.Bool.{cases_lt, false≢true}
use Rattle.std.proofs.lemmas.Bool.Decides.{eqb_tells, nat_tests}
use Rattle.std.proofs.lemmas.List.{get_or_past}
use Rattle.std.proofs.lemmas.List.Sums.{fails_before_first, passes_at_first}
use Rattle.cet_book.specs.Book.{Book, stack_of, put_stack, holds_stack, is_free, held_by, current_of}
use Rattle.cet_book.specs.Shape.{Shape, StackShape}

pub holds_true : (t : ℕ) (o : Option ℕ) → holds_stack t o ≡ true → o ≡ Some t
holds_true t None e = absurd (false≢true e)
holds_true t (Some x) e = ap Some (grind (arith, nat_tests))

pub holds_stack-true : (t : ℕ) (o : Option ℕ) → o ≡ Some t → holds_stack t o ≡ true
holds_stack-true t o e = ap (holds_stack t) e ∙ grind (arith, nat_tests)

pub free_true : (o : Option ℕ) → is_free o ≡ true → o ≡ None
free_true None e = refl
free_true (Some x) e = absurd (false≢true e)

pub stack_of-put_stack : (b : Book) (k j : ℕ) (o : Option ℕ) → k < length b.stacks → stack_of (put_stack b k o) j ≡ cond (eqb j k) o (stack_of b j)
stack_of-put_stack b k j o inside = elim (eqb_tells j k) [
  | inl e ↦ rw e.0 (subst (λ n. get_or (set b.stacks k o) n None ≡ o) (sym e.1) (get_or-set_same b.stacks k o None inside))
  | inr e ↦ rw e.0 (get_or-set_other b.stacks k j o None e.1)
]

-- a stack that a thread holds is one of the list's
pub stack_there : (t k : ℕ) (b : Book) → stack_of b k ≡ Some t → k < length b.stacks
stack_there t k b e = elim (cases_lt k (length b.stacks)) [
  | inl l ↦ l
  | inr g ↦ absurd (let z : stack_of b k ≡ None = get_or_past b.stacks k None g in cc)
]

-- where the search finds none, the thread holds none
pub none_held : (t : ℕ) (b : Book) → length b.stacks ≤ held_by t b → (k : ℕ) → stack_of b k ≢ Some t
unfolding held_by
none_held t b none k e =
    let inside = stack_there t k b e in
    let f : holds_stack t (stack_of b k) ≡ false = fails_before_first (holds_stack t) b.stacks k None (omega arith) in
    absurd (false≢true (sym f ∙ holds_stack-true t (stack_of b k) e))

-- and the other way round
pub held_none : (t : ℕ) (b : Book) → ((k : ℕ) → stack_of b k ≢ Some t) → length b.stacks ≤ held_by t b
unfolding held_by
held_none t b none = elim (cases_lt (held_by t b) (length b.stacks)) [
  | inl l ↦ absurd (none (held_by t b) (holds_true t (stack_of b (held_by t b)) (passes_at_first (holds_stack t) b.stacks None l)))
  | inr g ↦ g
]

pub busied_stacks : (t k : ℕ) (b : Book) → StackShape b.stacks → k < 8 → ((j : ℕ) → stack_of b j ≢ Some t) → StackShape (put_stack b k (Some t)).stacks
busied_stacks t k b s inside none = record {
  eight = length-set b.stacks k (Some t) ∙ s.eight;
  alone = λ x i j e f.
      let within : k < length b.stacks = (let n = s.eight in omega arith) in
      let at_i = stack_of-put_stack b k i (Some t) within in
      let at_j = stack_of-put_stack b k j (Some t) within in
      elim (eqb_tells i k) [
        | inl u ↦
            elim (eqb_tells j k) [
              | inl v ↦ u.1 ∙ sym v.1
              | inr v ↦
                  let y : Some t ≡ Some x = sym (rw u.0 at at_i) ∙ e in
                  let z : stack_of b j ≡ Some x = sym (rw v.0 at at_j) ∙ f in
                  absurd (none j (z ∙ sym y))
            ]
        | inr u ↦
            elim (eqb_tells j k) [
              | inl v ↦
                  let y : Some t ≡ Some x = sym (rw v.0 at at_j) ∙ f in
                  let z : stack_of b i ≡ Some x = sym (rw u.0 at at_i) ∙ e in
                  absurd (none i (z ∙ sym y))
              | inr v ↦ s.alone x i j (sym (rw u.0 at at_i) ∙ e) (sym (rw v.0 at at_j) ∙ f)
            ]
      ];
}

pub freed_stacks : (t k : ℕ) (b : Book) → StackShape b.stacks → stack_of b k ≡ Some t → StackShape (put_stack b k None).stacks
freed_stacks t k b s held = record {
  eight = length-set b.stacks k None ∙ s.eight;
  alone = λ x i j e f.
      let within = stack_there t k b held in
      let at_i = stack_of-put_stack b k i None within in
      let at_j = stack_of-put_stack b k j None within in
      elim (eqb_tells i k) [
        | inl u ↦ absurd (let y : None ≡ Some x = sym (rw u.0 at at_i) ∙ e in cc)
        | inr u ↦
            elim (eqb_tells j k) [
              | inl v ↦ absurd (let y : None ≡ Some x = sym (rw v.0 at at_j) ∙ f in cc)
              | inr v ↦ s.alone x i j (sym (rw u.0 at at_i) ∙ e) (sym (rw v.0 at at_j) ∙ f)
            ]
      ];
}

-- the regions don't see it
pub current_of-put_stack : (y k : ℕ) (o : Option ℕ) (b : Book) → current_of y (put_stack b k o) ≡ current_of y b
unfolding current_of
current_of-put_stack y k o b = refl

pub put_stack_shape : (k : ℕ) (o : Option ℕ) (b : Book) → Shape b → Shape (put_stack b k o)
put_stack_shape k o b h = record {
  bounds = h.bounds;
  fits = h.fits;
  apart = h.apart;
  alone = λ t i e. current_of-put_stack t k o b ∙ h.alone t i e;
  chain = h.chain;
}
