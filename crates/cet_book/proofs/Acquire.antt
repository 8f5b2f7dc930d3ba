-- A parked region becomes current on a thread, and the one that was current is left for it. Source: own.
use Rattle.std.proofs.Common.{◌≡◌, ◌≢◌, ℕ, ◌+◌, ◌<◌, ◌≤◌, inl, inr, Bool, true, false, ◌∷◌, length, refl, sym, ◌∙◌, ap, subst, eqb, arith}
use Rattle.std.proofs.lemmas.Bool.{false≢true}
use Rattle.std.proofs.lemmas.Bool.Decides.{eqb_tells, nat_tests}
use Rattle.std.proofs.lemmas.List.Sums.{passes_at_first}
use Rattle.cet_book.specs.declared.entries.Entry.TheVariants.{Previous}
use Rattle.cet_book.specs.declared.entries.Holder.{Holder}
use Rattle.cet_book.specs.declared.entries.Holder.TheVariants.{Maker, Current, Parked, Left, Lost}
use Rattle.cet_book.specs.Book.{Region, Book, nowhere, region, put, top, is_parked, has_token, parked_at, is_current, current_of, acquire}
use Rattle.cet_book.specs.Shape.{HolderFits, Fits, Shape}
use Rattle.cet_book.specs.Facts.{IsParkedAt, is_left, one, links}
use Rattle.cet_book.proofs.Edits.{Owned, owned_there, owned_only, is_there, put_all, put2_all, SameBounds, same-put2, bounds_same, apart_same, current_of-put, current_of_is}

parked_true : (h : Holder) → is_parked h ≡ true → h ≡ Parked
parked_true (Maker x) e = absurd (false≢true e)
parked_true (Current x) e = absurd (false≢true e)
parked_true Parked e = refl
parked_true (Left x) e = absurd (false≢true e)
parked_true Lost e = absurd (false≢true e)

-- the region is parked, and its token stands at p

token_true : (p : ℕ) (r : Region) (c : Bool) → is_parked r.holder ≡ c → has_token p r ≡ true → IsParkedAt p r
token_true p r true h e = record { parked = parked_true r.holder h; top_is = let q : eqb (top r) (p + 8) ≡ true = rw h at e in grind (arith, nat_tests) }
token_true p r false h e = absurd (false≢true (rw h at e))

pub has_token_true : (p : ℕ) (r : Region) → has_token p r ≡ true → IsParkedAt p r
has_token_true p r e = token_true p r _ refl e

pub has_token-true : (p : ℕ) (r : Region) → IsParkedAt p r → has_token p r ≡ true
has_token-true p r x =
    let parked : is_parked r.holder ≡ true = ap is_parked x.parked in
    let at = x.top_is in
    rw parked (grind (arith, nat_tests))

-- the region that was found is parked there
pub parked_at_holds : (p : ℕ) (b : Book) → parked_at p b < length b.regions → IsParkedAt p (region b (parked_at p b))
unfolding parked_at
parked_at_holds p b inside = has_token_true p (region b (parked_at p b)) (passes_at_first (has_token p) b.regions nowhere inside)

pub parked_fits : (r : Region) → Fits r → r.holder ≡ Parked → r.start + 8 ≤ top r
parked_fits r f e = subst (HolderFits r) e f.held

-- nobody has a Previous of a region that isn't left
pub unlinked : {b : Book} (k i : ℕ) (h : Holder) → Shape b → (region b k).holder ≡ h → is_left i h ≡ false → links k (region b i).entries ≡ 0
unlinked k i h s e n = s.chain i k ∙ ap (λ (x : Holder). one (is_left i x)) e ∙ rw n refl

-- region m is current on t, and region q is parked
pub record Takes (t m q : ℕ) (b : Book) : Type 0 where
  pub owned : Owned t m b
  pub parked : (region b q).holder ≡ Parked

module _ {t m q : ℕ} {b : Book} (k : Takes t m q b) where
  abbrev pub left : Region
  left = record (region b m) { holder = Left q }

  abbrev pub taken : Region
  taken = record (region b q) { entries = Previous m ∷ (region b q).entries; holder = Current t }

  pub taken_there : q < length b.regions
  taken_there = is_there b q (λ e. let c = k.parked in cc)

  pub taken_apart : m ≢ q
  taken_apart e = let c = k.owned.current in let d : (region b m).holder ≡ Parked = subst (λ n. (region b n).holder ≡ Parked) (sym e) k.parked in cc

  pub acquire_all : (P : ℕ → Region → Type 0) → P q taken → P m left → ((i : ℕ) → i ≢ q → i ≢ m → P i (region b i)) → (i : ℕ) → P i (region (acquire t m q b) i)
  acquire_all = put2_all b m q left taken (owned_there k.owned) taken_there

  pub acquire_same : SameBounds b (acquire t m q b)
  acquire_same = same-put2 b m q left taken (owned_there k.owned) taken_there refl refl refl refl

  pub acquire_taken : region (acquire t m q b) q ≡ taken
  acquire_taken = acquire_all (λ i r. i ≡ q → r ≡ taken) (λ _. refl) (λ e. absurd (taken_apart e)) (λ i n n' e. absurd (n e)) q refl

  pub acquire_left : region (acquire t m q b) m ≡ left
  acquire_left = acquire_all (λ i r. i ≡ m → r ≡ left) (λ e. absurd (taken_apart (sym e))) (λ _. refl) (λ i n n' e. absurd (n' e)) m refl

  pub acquire_other : (i : ℕ) → i ≢ q → i ≢ m → region (acquire t m q b) i ≡ region b i
  acquire_other = acquire_all (λ i r. i ≢ q → i ≢ m → r ≡ region b i) (λ a c. absurd (a refl)) (λ a c. absurd (c refl)) (λ i n n' _ _. refl)

  pub acquire_top : (i : ℕ) → i ≢ q → top (region (acquire t m q b) i) ≡ top (region b i)
  acquire_top = acquire_all (λ i r. i ≢ q → top r ≡ top (region b i)) (λ n. absurd (n refl)) (λ _. refl) (λ i n n' _. refl)

  still_parked : (region (put b m left) q).holder ≡ Parked
  still_parked = put_all b m left (owned_there k.owned) (λ i r. i ≢ m → r.holder ≡ (region b i).holder) (λ n. absurd (n refl)) (λ i n _. refl) q (λ e. taken_apart (sym e)) ∙ k.parked

  -- the other threads' regions stay theirs
  pub acquire_others : (y : ℕ) → t ≢ y → current_of y (acquire t m q b) ≡ current_of y b
  acquire_others y n =
      let other : eqb t y ≡ false = grind (arith, nat_tests) in
      let was_q : is_current y (region (put b m left) q).holder ≡ false = ap (is_current y) still_parked in
      let was_m : is_current y (region b m).holder ≡ false = ap (is_current y) k.owned.current ∙ other in
      current_of-put y (put b m left) q taken (other ∙ sym was_q) ∙ current_of-put y b m left (sym was_m)

  pub acquire_current : current_of t (acquire t m q b) ≡ q
  acquire_current = current_of_is t (acquire t m q b) q (ap (λ (r : Region). r.holder) acquire_taken)
      (acquire_all (λ i r. r.holder ≡ Current t → i ≡ q) (λ _. refl) (λ e. let c : Left q ≡ Current t = e in cc)
      (λ i n n' e. absurd (n' (owned_only k.owned i e))))

  alone_now : (y i : ℕ) → (region (acquire t m q b) i).holder ≡ Current y → current_of y (acquire t m q b) ≡ i
  alone_now y = acquire_all (λ i r. r.holder ≡ Current y → current_of y (acquire t m q b) ≡ i)
      (λ e. let c : Current t ≡ Current y = e in let u : t ≡ y = cc in subst (λ n. current_of n (acquire t m q b) ≡ q) u acquire_current)
      (λ e. let c : Left q ≡ Current y = e in cc)
      (λ i n n' e. acquire_others y (λ u. let c : (region b i).holder ≡ Current t = cc in n' (owned_only k.owned i c)) ∙ k.owned.shape.alone y i e)

  fits_now : (i : ℕ) → Fits (region (acquire t m q b) i)
  fits_now = acquire_all (λ i r. Fits r)
      (let f = k.owned.shape.fits q in let p = parked_fits (region b q) f k.parked in let o = f.room in record { room = omega arith; held = tt })
      (record { room = (k.owned.shape.fits m).room; held = tt }) (λ i n n'. k.owned.shape.fits i)

  left_now : (x s : ℕ) → s ≢ m → is_left x (region (acquire t m q b) s).holder ≡ is_left x (region b s).holder
  left_now x = acquire_all (λ i r. i ≢ m → is_left x r.holder ≡ is_left x (region b i).holder)
      (λ _. sym (ap (is_left x) k.parked)) (λ n. absurd (n refl)) (λ i n n' _. refl)

  left_here : (x : ℕ) → is_left x (region (acquire t m q b) m).holder ≡ eqb q x
  left_here x = ap (λ (r : Region). is_left x r.holder) acquire_left

  none_of_m : (x : ℕ) → links m (region b x).entries ≡ 0
  none_of_m x = unlinked m x (Current t) k.owned.shape k.owned.current refl

  chain_taken : (s : ℕ) → links s (Previous m ∷ (region b q).entries) ≡ one (is_left q (region (acquire t m q b) s).holder)
  chain_taken s = elim (eqb_tells s m) [
    | inl e ↦
        let a : eqb m m ≡ true = grind (arith, nat_tests) in
        let c : eqb q q ≡ true = grind (arith, nat_tests) in
        subst (λ n. links n (Previous m ∷ (region b q).entries) ≡ one (is_left q (region (acquire t m q b) n).holder)) (sym e.1)
        (rw (left_here q) (let z = none_of_m q in rw (a, c) (omega arith)))
    | inr e ↦
        let n = e.1 in
        let a : eqb m s ≡ false = grind (arith, nat_tests) in
        rw (a, left_now q s n) (let z = k.owned.shape.chain q s in omega arith)
  ]

  chain_other : (x s : ℕ) → x ≢ q → links s (region b x).entries ≡ one (is_left x (region (acquire t m q b) s).holder)
  chain_other x s n = elim (eqb_tells s m) [
    | inl e ↦
        let c : eqb q x ≡ false = grind (arith, nat_tests) in
        subst (λ j. links j (region b x).entries ≡ one (is_left x (region (acquire t m q b) j).holder)) (sym e.1)
        (rw (left_here x) (rw c (none_of_m x)))
    | inr e ↦ rw (left_now x s e.1) (k.owned.shape.chain x s)
  ]

  pub acquire_shape : Shape (acquire t m q b)
  acquire_shape = record {
    bounds = bounds_same acquire_same k.owned.shape;
    fits = fits_now;
    apart = apart_same acquire_same k.owned.shape;
    alone = alone_now;
    chain = acquire_all (λ x r. (s : ℕ) → links s r.entries ≡ one (is_left x (region (acquire t m q b) s).holder))
        chain_taken (λ s. chain_other m s taken_apart) (λ x n n' s. chain_other x s n);
  }
