-- The book at the start is one that changes lead from. Source: own.
use Rattle.std.proofs.Common.{◌≡◌, ℕ, zero, suc, ◌<◌, [], None, refl, sym, ◌∙◌, ap, subst, arith}
use Rattle.cet_book.specs.declared.entries.Holder.TheVariants.{Current}
use Rattle.cet_book.specs.Book.{Region, nowhere, region, current_of, stack_of, first_book}
use Rattle.cet_book.specs.Facts.{Bounds, is_left, one, links}
use Rattle.cet_book.specs.Shape.{Fits, Shape, IsBook}
use Rattle.cet_book.proofs.Edits.{current_of_is}

first_all : (P : ℕ → Region → Type 0) → P 0 (region first_book 0) → ((i : ℕ) → P (suc i) nowhere) → (i : ℕ) → P i (region first_book i)
first_all P here past zero = here
first_all P here past (suc i) = past i

pub first_empty : (i : ℕ) → (region first_book i).entries ≡ []
first_empty = first_all (λ i r. r.entries ≡ []) refl (λ i. refl)

pub first_current : current_of 0 first_book ≡ 0
first_current = current_of_is 0 first_book 0 refl (first_all (λ i r. r.holder ≡ Current 0 → i ≡ 0) (λ _. refl) (λ i e. cc))

pub first_shape : Shape first_book
first_shape = record {
  bounds = λ i l.
      first_all (λ i r. i < 1 → Bounds r.start r.end)
      (λ _. record { low = omega arith; full = omega arith; high = omega arith; first = refl; last = refl })
      (λ i l. absurd (omega arith)) i l;
  fits = first_all (λ i r. Fits r) (record { room = omega arith; held = tt }) (λ i. record { room = omega arith; held = tt });
  apart = λ i j order inside. absurd (let only : j < 1 = inside in omega arith);
  alone = λ t. first_all (λ i r. r.holder ≡ Current t → current_of t first_book ≡ i)
      (λ e. let same : 0 ≡ t = cc in subst (λ n. current_of n first_book ≡ 0) same first_current) (λ i e. cc);
  chain = λ q s. ap (links s) (first_empty q) ∙ sym (first_all (λ i r. one (is_left q r.holder) ≡ 0) refl (λ i. refl) s);
}

-- no supervisor stack has a holder
pub no_stack : (k : ℕ) → stack_of first_book k ≡ None
no_stack zero = refl
no_stack (suc zero) = refl
no_stack (suc (suc zero)) = refl
no_stack (suc (suc (suc zero))) = refl
no_stack (suc (suc (suc (suc zero)))) = refl
no_stack (suc (suc (suc (suc (suc zero))))) = refl
no_stack (suc (suc (suc (suc (suc (suc zero)))))) = refl
no_stack (suc (suc (suc (suc (suc (suc (suc zero))))))) = refl
no_stack (suc (suc (suc (suc (suc (suc (suc (suc k)))))))) = refl

pub first_is_book : IsBook first_book
first_is_book = record {
  shape = first_shape;
  stacks = record { eight = refl; alone = λ t k j e f. (let n = no_stack k in cc) };
}
