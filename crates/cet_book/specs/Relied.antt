-- What a thread can rely on in the book whatever other threads change, and what its own registers and notes say of it. Source: own.
use Rattle.std.specs.Prelude.{◌≡◌, ◌≢◌, ◌↔◌, ℕ, ◌%◌, ◌<◌, ◌≤◌, List, length, Option, Some}
use Rattle.std.proofs.Common.{refl, sym, ◌∙◌, subst, arith}
use Rattle.cet_book.specs.declared.entries.Holder.{Holder}
use Rattle.cet_book.specs.declared.entries.Holder.TheVariants.{Current, Left}
use Rattle.cet_book.specs.Book.{Region, Book, region, top, current_of, stack_of}
use Rattle.cet_book.specs.Facts.{Owns}

pub record Relies (t : ℕ) (b now : Book) : Type 0 where
  pub grows : length b.regions ≤ length now.regions
  pub start : (i : ℕ) → i < length b.regions → (region now i).start ≡ (region b i).start
  pub end : (i : ℕ) → i < length b.regions → (region now i).end ≡ (region b i).end
  -- the thread's region stays its region, and none comes to a thread that has none
  pub found : current_of t b < length b.regions → current_of t now ≡ current_of t b
  pub none : length b.regions ≤ current_of t b → length now.regions ≤ current_of t now
  -- the regions that are current on the thread or made by it stay as they are, and so does the one that was left for its own
  pub kept : (i : ℕ) → Owns t (region b i).holder → region now i ≡ region b i
  pub below : (q s : ℕ) → (region b q).holder ≡ Current t → (region b s).holder ≡ Left q → region now s ≡ region b s
  -- a supervisor stack that it holds stays so, and no other comes to it
  pub held : (k : ℕ) → stack_of b k ≡ Some t → stack_of now k ≡ Some t
  pub free : (k : ℕ) → stack_of now k ≡ Some t → stack_of b k ≡ Some t

pub relies_same : (t : ℕ) (b : Book) → Relies t b b
relies_same t b = record {
  grows = omega arith;
  start = λ i l. refl;
  end = λ i l. refl;
  found = λ l. refl;
  none = λ l. l;
  kept = λ i o. refl;
  below = λ q s e f. refl;
  held = λ k e. e;
  free = λ k e. e;
}

pub owns_current : (t : ℕ) (h : Holder) → h ≡ Current t → Owns t h
owns_current t h e = subst (Owns t) (sym e) refl

pub relies_then : {t : ℕ} {a b c : Book} → Relies t a b → Relies t b c → Relies t a c
relies_then {t = t} {a = a} {b = b} {c = c} x y = record {
  grows = let g = x.grows in let g' = y.grows in omega arith;
  start = λ i l. y.start i (let g = x.grows in omega arith) ∙ x.start i l;
  end = λ i l. y.end i (let g = x.grows in omega arith) ∙ x.end i l;
  found = λ l. let e = x.found l in y.found (let g = x.grows in omega arith) ∙ e;
  none = λ l. y.none (x.none l);
  kept = λ i o. let e = x.kept i o in y.kept i (subst (λ (r : Region). Owns t r.holder) (sym e) o) ∙ e;
  below = λ q s e f.
      let same_q = x.kept q (owns_current t (region a q).holder e) in
      let same_s = x.below q s e f in
      y.below q s (subst (λ (r : Region). r.holder ≡ Current t) (sym same_q) e)
      (subst (λ (r : Region). r.holder ≡ Left q) (sym same_s) f) ∙ same_s;
  held = λ k e. y.held k (x.held k e);
  free = λ k e. x.free k (y.free k e);
}

-- a thread has a region, whose top is ssp
pub record AtTop (t : ℕ) (b : Book) (ssp : ℕ) : Type 0 where
  pub has : current_of t b < length b.regions
  pub at : ssp ≡ top (region b (current_of t b))
  pub aligned : ssp % 8 ≡ 0

-- the thread holds no supervisor stack
abbrev pub Free : ℕ → Book → Type 0
Free t b = (k : ℕ) → stack_of b k ≢ Some t

-- the note says k exactly where the book's stack k has the thread
abbrev pub Held : (t : ℕ) → Book → Option ℕ → Type 0
Held t b held = (k : ℕ) → (held ≡ Some k) ↔ (stack_of b k ≡ Some t)
