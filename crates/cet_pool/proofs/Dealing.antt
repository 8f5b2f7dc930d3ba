-- Passes are dealt to bins, one after another. Source: own.
use Rattle.std.proofs.Common.{◌≡◌, ℕ, zero, suc, ◌+◌, ◌<◌, ◌≤◌, arith, Bool, true, false, cond, List, []}
use Rattle.std.proofs.Common.{◌∷◌, ◌++◌, length, get_or, set, Option, Some, None, refl, sym, ap, ◌∙◌, subst, append-nil, append_assoc}
use Rattle.std.specs.Prelude.{All}
use Rattle.std.specs.List.{filter}
use Rattle.std.specs.List.Sorted.{IsPermutation}
use Rattle.std.proofs.lemmas.List.Elements.{All-nil, All-cons, All-head, All-tail}
use Rattle.std.proofs.lemmas.List.Sorted.{All-permutation, IsPermutation-append_left, IsPermutation-append_right, IsPermutation-middle}
use Rattle.std.proofs.lemmas.List.Sorted.{IsPermutation-refl, IsPermutation-sym, IsPermutation-to_front, IsPermutation-trans}
use Rattle.cet_shared.specs.Held.{Place}
use Rattle.cet_pool.specs.declared.lives.Live.{Live}
use Rattle.cet_pool.specs.declared.workers.Bin.{Bin}
use Rattle.cet_pool.specs.Going.{IsReady}
use Rattle.cet_pool.specs.Rounds.{IsReadyBin, spread}

-- one more bin without passes
pub spread_none : (bins : List Bin) (b : Bin) → spread bins ≡ [] → b.lives.items ≡ [] → spread (bins ++ b ∷ []) ≡ []
spread_none [] b e n = ap (λ (l : List Live). l ++ []) n
spread_none (c ∷ cs) b e n = front c.lives.items (spread cs) e (spread (cs ++ b ∷ [])) (λ q. spread_none cs b q n)
  where
    front : (xs ys : List Live) → xs ++ ys ≡ [] → (zs : List Live) → (ys ≡ [] → zs ≡ []) → xs ++ zs ≡ []
    front [] ys e zs f = f e
    front (x ∷ xs) ys e zs f = absurd (cc)

-- a pass goes to the bin of its worker
module _ (b b' : Bin) (x : Live) (more : b'.lives.items ≡ b.lives.items ++ x ∷ []) where
  pub spread_more : (bins : List Bin) (w : ℕ) → w < length bins → b ≡ get_or bins w b → IsPermutation (x ∷ spread bins) (spread (set bins w b'))
  spread_more [] w lt is = absurd (omega arith)
  spread_more (c ∷ cs) zero lt is =
      let had = c.lives.items in
      let now : had ++ x ∷ [] ≡ b'.lives.items = ap (λ (d : Bin). d.lives.items ++ x ∷ []) (sym is) ∙ sym more in
      let m : IsPermutation (x ∷ had) (had ++ x ∷ []) = IsPermutation-sym (had ++ x ∷ []) (x ∷ had) (IsPermutation-to_front had x) in
      let n : IsPermutation (x ∷ (had ++ spread cs)) ((had ++ x ∷ []) ++ spread cs) = IsPermutation-append_left (spread cs) (x ∷ had) (had ++ x ∷ []) m in
      subst (λ (l : List Live). IsPermutation (x ∷ (had ++ spread cs)) (l ++ spread cs)) now n
  spread_more (c ∷ cs) (suc w) lt is =
      let had = c.lives.items in
      let there = spread_more cs w (omega arith) is in
      let m : IsPermutation (x ∷ (had ++ spread cs)) (had ++ x ∷ spread cs) = IsPermutation-sym (had ++ x ∷ spread cs) (x ∷ (had ++ spread cs)) (IsPermutation-middle had x (spread cs)) in
      IsPermutation-trans (x ∷ (had ++ spread cs)) (had ++ x ∷ spread cs) (had ++ spread (set cs w b')) m (IsPermutation-append_right had (x ∷ spread cs) (spread (set cs w b')) there)

pub dealing_init : (lives : List Live) (bins : List Bin) → spread bins ≡ [] → IsPermutation lives (lives ++ spread bins)
dealing_init lives bins none = subst (λ (l : List Live). IsPermutation lives (lives ++ l)) (sym none) (subst (IsPermutation lives) (sym (append-nil lives)) (IsPermutation-refl lives))

pub dealing_next : (lives waiting rest : List Live) (x : Live) (bins : List Bin) (w : ℕ) (b b' : Bin) → IsPermutation lives (waiting ++ spread bins) → waiting ≡ rest ++ x ∷ []
    → w < length bins → b ≡ get_or bins w b → b'.lives.items ≡ b.lives.items ++ x ∷ []
    → IsPermutation lives (rest ++ spread (set bins w b'))
dealing_next lives waiting rest x bins w b b' m popped lt is more =
    let a : IsPermutation lives (rest ++ x ∷ spread bins) = subst (IsPermutation lives) (ap (λ (l : List Live). l ++ spread bins) popped ∙ append_assoc rest (x ∷ []) (spread bins)) m in
    IsPermutation-trans lives (rest ++ x ∷ spread bins) (rest ++ spread (set bins w b')) a (IsPermutation-append_right rest (x ∷ spread bins) (spread (set bins w b')) (spread_more b b' x
    more bins w lt is))

-- ---- workers without passes

spread_kept : (p : Bool) (b : Bin) (bs kept : List Bin) → (p ≡ false → b.lives.items ≡ []) → spread kept ≡ spread bs → spread (cond p (b ∷ kept) kept) ≡ b.lives.items ++ spread bs
spread_kept true b bs kept none e = ap (λ (l : List Live). b.lives.items ++ l) e
spread_kept false b bs kept none e = e ∙ ap (λ (l : List Live). l ++ spread bs) (sym (none refl))

pub spread_filter : (p : Bin → Bool) → ((b : Bin) → p b ≡ false → b.lives.items ≡ []) → (bins : List Bin) → spread (filter p bins) ≡ spread bins
spread_filter p none [] = refl
spread_filter p none (b ∷ bs) = spread_kept (p b) b bs (filter p bs) (none b) (spread_filter p none bs)

-- ---- what is so of all passes is so of those in the bins

pub all_apart : (P : Live → Type 0) (xs ys : List Live) → All P (xs ++ ys) → All P xs × All P ys
all_apart P [] ys h = (All-nil P, h)
all_apart P (x ∷ xs) ys h = let t = all_apart P xs ys (All-tail P x (xs ++ ys) h) in (All-cons P x xs (All-head P x (xs ++ ys) h) t.0, t.1)

bins_ready : (place : Place) (bins : List Bin) → All (IsReady place) (spread bins) → All (IsReadyBin place) bins
bins_ready place [] h = All-nil (IsReadyBin place)
bins_ready place (b ∷ bs) h = let t = all_apart (IsReady place) b.lives.items (spread bs) h in All-cons (IsReadyBin place) b bs t.0 (bins_ready place bs t.1)

pub dealt_ready : (place : Place) (lives : List Live) (bins : List Bin) → IsPermutation lives (spread bins) → All (IsReady place) lives → All (IsReadyBin place) bins
dealt_ready place lives bins m ready = bins_ready place bins (All-permutation (IsReady place) lives (spread bins) m ready)
