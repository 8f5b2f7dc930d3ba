-- A stable sort by the starts puts each shadow stack in its place.
use Rattle.std.proofs.Common.{◌≡◌, ℕ, suc, ◌<◌, ◌≤◌, Bool, true, false, List, [], ◌∷◌, length, get_or, refl, ap, sym, ◌∙◌, subst, arith}
use Rattle.std.specs.Prelude.{nat_le, cond, if◌then◌else◌, not, ◌&&◌, ⊤}
use Rattle.std.specs.List.{filter}
use Rattle.std.specs.List.Sorted.{IsNonDecreasingBy, IsPermutation, IsSortedByKey, IsStableByKey}
use Rattle.std.specs.Ordering.{nat_cmp, is_lt}
use Rattle.std.proofs.lemmas.Bool.{leb-true, leb-false}
use Rattle.std.proofs.lemmas.Bool.Decides.{nat_tests}
use Rattle.std.proofs.lemmas.List.Sorted.{IsNonDecreasingBy-from_sort, IsPermutation-cons, IsPermutation-middle, IsPermutation-refl, IsPermutation-trans}
use Rattle.cet_book.specs.View.{Span}
use Rattle.cet_own.specs.Told.{put_in, in_order}

-- neither comes before the other
abbrev tie : Span → Span → Bool
tie x y = not (is_lt (nat_cmp x.start y.start)) && not (is_lt (nat_cmp y.start x.start))

not_less : (a b : ℕ) → b ≤ a → is_lt (nat_cmp a b) ≡ false
not_less a b l = grind (arith, nat_tests)

is_less : (a b : ℕ) → is_lt (nat_cmp a b) ≡ false → b ≤ a
is_less a b e = grind (arith, nat_tests)

both : (a b : Bool) → (not a && not b) ≡ true → (a ≡ false) × (b ≡ false)
both true b e = cc
both false true e = cc
both false false e = (refl, refl)

tie_same : (x y : Span) → tie x y ≡ true → x.start ≡ y.start
tie_same x y e =
    let f = both _ _ e in
    let a = is_less x.start y.start f.0 in
    let b = is_less y.start x.start f.1 in
    omega arith

same_tie : (x y : Span) → x.start ≡ y.start → tie x y ≡ true
same_tie x y e =
    let a = not_less x.start y.start (omega arith) in
    let b = not_less y.start x.start (omega arith) in
    rw (a, b) refl

-- ---- the same ones

put_moved : (s r : Span) (rs rest : List Span) (b : Bool) → IsPermutation rest (s ∷ rs) → IsPermutation (if b then s ∷ r ∷ rs else r ∷ rest) (s ∷ r ∷ rs)
put_moved s r rs rest true h = IsPermutation-refl (s ∷ r ∷ rs)
put_moved s r rs rest false h =
    IsPermutation-trans (r ∷ rest) (r ∷ s ∷ rs) (s ∷ r ∷ rs) (IsPermutation-cons r rest (s ∷ rs) h) (IsPermutation-middle (r ∷ []) s rs)

put_moves : (s : Span) (rs : List Span) → IsPermutation (put_in s rs) (s ∷ rs)
put_moves s [] = IsPermutation-refl (s ∷ [])
put_moves s (r ∷ rs) = put_moved s r rs (put_in s rs) (nat_le s.start r.start) (put_moves s rs)

pub order_moves : (ss : List Span) → IsPermutation (in_order ss) ss
order_moves [] = IsPermutation-refl []
order_moves (s ∷ ss) = IsPermutation-trans (put_in s (in_order ss)) (s ∷ in_order ss) (s ∷ ss) (put_moves s (in_order ss)) (IsPermutation-cons s (in_order ss) ss (order_moves ss))

-- ---- no start falls

abbrev AllFrom : ℕ → List Span → Type 0
AllFrom n [] = ⊤
AllFrom n (r ∷ rs) = (n ≤ r.start) × AllFrom n rs

abbrev Rises : List Span → Type 0
Rises [] = ⊤
Rises (s ∷ ss) = AllFrom s.start ss × Rises ss

from_less : (m n : ℕ) (rs : List Span) → m ≤ n → AllFrom n rs → AllFrom m rs
from_less m n [] l h = tt
from_less m n (r ∷ rs) l h = (omega (arith, h.0), from_less m n rs l h.1)

put_by : (n : ℕ) (s r : Span) (rs rest : List Span) (b : Bool) → n ≤ s.start → AllFrom n (r ∷ rs) → AllFrom n rest → AllFrom n (if b then s ∷ r ∷ rs else r ∷ rest)
put_by n s r rs rest true l h k = (l, h)
put_by n s r rs rest false l h k = (h.0, k)

put_from : (n : ℕ) (s : Span) (rs : List Span) → n ≤ s.start → AllFrom n rs → AllFrom n (put_in s rs)
put_from n s [] l h = (l, tt)
put_from n s (r ∷ rs) l h = put_by n s r rs (put_in s rs) (nat_le s.start r.start) l h (put_from n s rs l h.1)

rises_by : (s r : Span) (rs rest : List Span) (b : Bool) → nat_le s.start r.start ≡ b → Rises (r ∷ rs) → AllFrom r.start rs → Rises rest → (r.start ≤ s.start → AllFrom r.start rest) →
    Rises (if b then s ∷ r ∷ rs else r ∷ rest)
rises_by s r rs rest true e h above k from = let l = leb-true s.start r.start e in ((l, from_less s.start r.start rs l above), h)
rises_by s r rs rest false e h above k from = let l = leb-false s.start r.start e in (from (omega arith), k)

put_rises : (s : Span) (rs : List Span) → Rises rs → Rises (put_in s rs)
put_rises s [] h = (tt, tt)
put_rises s (r ∷ rs) h = rises_by s r rs (put_in s rs) (nat_le s.start r.start) refl h h.0 (put_rises s rs h.1) (λ l. put_from r.start s rs l h.0)

order_rises : (ss : List Span) → Rises (in_order ss)
order_rises [] = tt
order_rises (s ∷ ss) = put_rises s (in_order ss) (order_rises ss)

-- ---- those of one start keep their order

apart : (x s r : Span) (a b : Bool) (ss : List Span) → tie x s ≡ a → tie x r ≡ b → r.start < s.start → cond b (r ∷ cond a (s ∷ ss) ss) (cond a (s ∷ ss) ss) ≡ cond a (s ∷ cond b (r ∷ ss) ss) (cond b (r ∷ ss) ss)
apart x s r true true ss e f l = (let p = tie_same x s e in let q = tie_same x r f in absurd (omega arith))
apart x s r true false ss e f l = refl
apart x s r false true ss e f l = refl
apart x s r false false ss e f l = refl

kept_by : (x s r : Span) (rs rest : List Span) (b : Bool) → nat_le s.start r.start ≡ b → filter (tie x) rest ≡ filter (tie x) (s ∷ rs) →
    filter (tie x) (if b then s ∷ r ∷ rs else r ∷ rest) ≡ filter (tie x) (s ∷ r ∷ rs)
kept_by x s r rs rest true e h = refl
kept_by x s r rs rest false e h =
    ap (λ l. cond (tie x r) (r ∷ l) l) h
    ∙ apart x s r (tie x s) (tie x r) (filter (tie x) rs) refl refl (leb-false s.start r.start e)

put_kept : (x s : Span) (rs : List Span) → filter (tie x) (put_in s rs) ≡ filter (tie x) (s ∷ rs)
put_kept x s [] = refl
put_kept x s (r ∷ rs) = kept_by x s r rs (put_in s rs) (nat_le s.start r.start) refl (put_kept x s rs)

order_kept : (x : Span) (ss : List Span) → filter (tie x) (in_order ss) ≡ filter (tie x) ss
order_kept x [] = refl
order_kept x (s ∷ ss) = put_kept x s (in_order ss) ∙ ap (λ l. cond (tie x s) (s ∷ l) l) (order_kept x ss)

-- ---- one list

-- what a filter finds is no lower than all
found_by : (n : ℕ) (p : Span → Bool) (y z : Span) (ys rest : List Span) (b : Bool) → n ≤ y.start → (filter p ys ≡ z ∷ rest → n ≤ z.start) → cond b (y ∷ filter p ys) (filter p ys) ≡ z ∷ rest → n ≤ z.start
found_by n p y z ys rest true l h e = let same : y ≡ z = cc in subst (λ (s : Span). n ≤ s.start) same l
found_by n p y z ys rest false l h e = h e

found : (n : ℕ) (p : Span → Bool) (z : Span) (ys rest : List Span) → AllFrom n ys → filter p ys ≡ z ∷ rest → n ≤ z.start
found n p z [] rest h e = cc
found n p z (y ∷ ys) rest h e = found_by n p y z ys rest (p y) h.0 (found n p z ys rest h.1) e

first_is : (y : Span) (ys : List Span) → filter (tie y) (y ∷ ys) ≡ y ∷ filter (tie y) ys
first_is y ys = ap (λ b. cond b (y ∷ filter (tie y) ys) (filter (tie y) ys)) (same_tie y y refl)

-- the first one is no higher than what another list of the same ones begins with
first_low : (y z : Span) (ys zs : List Span) → Rises (y ∷ ys) → filter (tie z) (y ∷ ys) ≡ filter (tie z) (z ∷ zs) → y.start ≤ z.start
first_low y z ys zs h e = found y.start (tie z) z (y ∷ ys) (filter (tie z) zs) (omega arith, h.0) (e ∙ first_is z zs)

tail_by : (b : Bool) (y : Span) (l m : List Span) → cond b (y ∷ l) l ≡ cond b (y ∷ m) m → l ≡ m
tail_by true y l m e = cc
tail_by false y l m e = e

head_same : (y z : Span) (l m : List Span) → y ∷ l ≡ z ∷ m → y ≡ z
head_same y z l m e = cc

none_left : (y : Span) (ys : List Span) → filter (tie y) (y ∷ ys) ≡ [] → ⊥
none_left y ys e = (let f = sym (first_is y ys) ∙ e in cc)

one_list : (ys zs : List Span) → Rises ys → Rises zs → ((x : Span) → filter (tie x) ys ≡ filter (tie x) zs) → ys ≡ zs
one_list [] [] g h same = refl
one_list [] (z ∷ zs) g h same = absurd (none_left z zs (sym (same z)))
one_list (y ∷ ys) [] g h same = absurd (none_left y ys (same y))
one_list (y ∷ ys) (z ∷ zs) g h same =
    let low = first_low y z ys zs g (same z) in
    let high = first_low z y zs ys h (sym (same y)) in
    let here : tie y z ≡ true = same_tie y z (omega arith) in
    let first : y ≡ z = head_same y z (filter (tie y) ys) (filter (tie y) zs) (sym (first_is y ys) ∙ same y ∙ ap (λ b. cond b (z ∷ filter (tie y) zs) (filter (tie y) zs)) here) in
    let rest : (x : Span) → filter (tie x) ys ≡ filter (tie x) zs = λ x. tail_by (tie x y) y (filter (tie x) ys) (filter (tie x) zs) (same x ∙
    ap (λ (s : Span). cond (tie x s) (s ∷ filter (tie x) zs) (filter (tie x) zs)) (sym first)) in
    ap (λ s. s ∷ ys) first ∙ ap (λ l. z ∷ l) (one_list ys zs g.1 h.1 rest)

-- ---- a sort

all_from : (n : ℕ) (ys : List Span) → ((j : ℕ) (d : Span) → j < length ys → n ≤ (get_or ys j d).start) → AllFrom n ys
all_from n [] h = tt
all_from n (y ∷ ys) h = (h 0 y (omega arith), all_from n ys (λ j d l. h (suc j) d (omega arith)))

rises_from : (ys : List Span) → IsNonDecreasingBy (λ (s : Span). s.start) ys → Rises ys
rises_from [] h = tt
rises_from (y ∷ ys) h = (all_from y.start ys (λ j d l. h 0 (suc j) d (omega arith) (omega arith)), rises_from ys (λ i j d k l. h (suc i) (suc j) d (omega arith) (omega arith)))

-- what a stable sort by the starts leaves
pub sorted_is : (xs ys : List Span) → IsSortedByKey (λ (s : Span). s.start) nat_cmp ys → IsStableByKey (λ (s : Span). s.start) nat_cmp xs ys → ys ≡ in_order xs
sorted_is xs ys sorted stable =
    one_list ys (in_order xs) (rises_from ys (IsNonDecreasingBy-from_sort (λ (s : Span). s.start) ys sorted)) (order_rises xs) (λ x. stable x ∙ sym (order_kept x xs))
