-- The loops that find stacks in view, one turn at a time. Source: own.
use Rattle.std.proofs.Common.{◌≡◌, ◌≢◌, ℕ, zero, suc, ◌+◌, ◌-◌, ◌*◌, ◌<◌, ◌≤◌, true, false, List, [], ◌∷◌, ◌++◌, length, get_or}
use Rattle.std.proofs.Common.{drop, refl, sym, ◌∙◌, ap, subst, arith, add-one, drop-cons, set, drop_of_length-le}
use Rattle.std.specs.Prelude.{nat_lt, ◌==◌}
use Rattle.std.proofs.lemmas.Bool.Decides.{nat_tests}
use Rattle.std.proofs.lemmas.List.Sums.{position_or_len_is}
use Rattle.cet_book.specs.View.{Span, no_span}
use Rattle.cet_book.specs.Marks.{has, place, Found, is_unseen, marked, top_marked, followed, currents, token_from, parks, park, park_if, words_by, follow, follow_all, reports, report_by}
use Rattle.cet_book.specs.declared.regions.Shown.{Shown}
use Rattle.cet_book.specs.declared.regions.Shown.TheVariants as shown
use Rattle.cet_book.specs.declared.regions.StackReport.{StackReport}
use Rattle.cet_book.specs.declared.marks.Mark.{Mark}
use Rattle.cet_book.specs.declared.marks.Mark.TheVariants.{Unseen, InView}

pub place_found : (rs : List Span) (addr i : ℕ) → i < length rs → ((k : ℕ) → k < i → has addr (get_or rs k no_span) ≡ false) → has addr (get_or rs i no_span) ≡ true → i ≡ place addr rs
unfolding place
place_found rs addr i l none here = sym (position_or_len_is (has addr) rs i no_span (omega arith) none (λ _. here))

pub place_none : (rs : List Span) (addr i : ℕ) → i ≡ length rs → ((k : ℕ) → k < i → has addr (get_or rs k no_span) ≡ false) → i ≡ place addr rs
unfolding place
place_none rs addr i e none = sym (position_or_len_is (has addr) rs i no_span (omega arith) none (λ l. absurd (omega arith)))

-- there is no mark past the last region
pub marked_past : (at : ℕ) (s : Shown) (from : ℕ) (f : Found) → length f.marks ≤ at → marked at s from f ≡ f
unfolding marked
marked_past at s from f l = let e : nat_lt at (length f.marks) ≡ false = grind (arith, nat_tests) in rw e refl

pub marked_new : (at : ℕ) (s : Shown) (from : ℕ) (f : Found) → at < length f.marks → get_or f.marks at Unseen ≡ Unseen → marked at s from f ≡ record { marks = set f.marks at (InView s from); order = f.order ++ at ∷ [] }
unfolding marked
marked_new at s from f l e = let t : nat_lt at (length f.marks) ≡ true = grind (arith, nat_tests) in rw (t, e) refl

seen_not : (m : Mark) → m ≢ Unseen → is_unseen m ≡ false
seen_not Unseen n = absurd (n refl)
seen_not (InView s from) n = refl

pub marked_old : (at : ℕ) (s : Shown) (from : ℕ) (f : Found) → at < length f.marks → get_or f.marks at Unseen ≢ Unseen → marked at s from f ≡ f
unfolding marked
marked_old at s from f l n = let t : nat_lt at (length f.marks) ≡ true = grind (arith, nat_tests) in rw (t, seen_not (get_or f.marks at Unseen) n) refl

pub followed_more : (rs : List Span) (ws : List ℕ) (i : ℕ) (ms : Found) → i < length ws → followed rs (drop i ws) ms ≡ followed rs (drop (i + 1) ws) (top_marked rs (get_or ws i 0 - 3) shown.Left ms)
unfolding followed
followed_more rs ws i ms l = rw (add-one, drop-cons ws i 0) refl

pub followed_none : (rs : List Span) (ws : List ℕ) (i : ℕ) (ms : Found) → length ws ≤ i → followed rs (drop i ws) ms ≡ ms
unfolding followed
followed_none rs ws i ms l = rw (drop_of_length-le ws l) refl

-- an element of a list, whatever stands for those past its end
pub get_or_any : {X : Type 0} (xs : List X) (i : ℕ) (d e : X) → i < length xs → get_or xs i d ≡ get_or xs i e
get_or_any [] i d e l = absurd (omega arith)
get_or_any (x ∷ xs) zero d e l = refl
get_or_any (x ∷ xs) (suc i) d e l = get_or_any xs i d e (omega arith)

pub element : {X : Type 0} (xs : List X) (i : ℕ) (x d : X) → x ≡ get_or xs i x → i < length xs → get_or xs i d ≡ x
element xs i x d e l = get_or_any xs i d x l ∙ sym e

-- what the code makes of the two lists is the mark
pub put_new : (at : ℕ) (s : Shown) (from : ℕ) (marks : List Mark) (order after : List ℕ) (f : Found) (x : Mark) → record { marks = marks; order = order } ≡ f → at < length marks →
    x ≡ get_or marks at x → x ≡ Unseen → after ≡ order ++ at ∷ [] → record { marks = set marks at (InView s from); order = after } ≡ marked at s from f
put_new at s from marks order after f x is l e u a =
    let g : Found = record { marks = marks; order = order } in
    ap (λ (o : List ℕ). (let n : Found = record { marks = set marks at (InView s from); order = o } in n)) a ∙
    sym (marked_new at s from g l (element marks at x Unseen e l ∙ u)) ∙ ap (marked at s from) is

pub put_old : (at : ℕ) (s : Shown) (from : ℕ) (marks : List Mark) (order : List ℕ) (f : Found) (x : Mark) → record { marks = marks; order = order } ≡ f → at < length marks → x ≡ get_or marks at x →
    x ≢ Unseen → f ≡ marked at s from f
put_old at s from marks order f x is l e n =
    let g : Found = record { marks = marks; order = order } in
    subst (λ h. h ≡ marked at s from h) is (sym (marked_old at s from g l (λ u. n (sym (element marks at x Unseen e l) ∙ u))))

pub token_here : (start i : ℕ) (ws : List ℕ) → i < length ws → get_or ws i 0 ≡ start + 8 * i + 1 → token_from (start + 8 * i) (drop i ws) ≡ 0
unfolding token_from
token_here start i ws l e = rw (drop-cons ws i 0, e) (let t : (start + 8 * i + 1 == start + 8 * i + 1) ≡ true = grind (arith, nat_tests) in rw t refl)

pub token_next : (start i : ℕ) (ws : List ℕ) → i < length ws → get_or ws i 0 ≢ start + 8 * i + 1 → token_from (start + 8 * i) (drop i ws) ≡ suc (token_from (start + 8 * (i + 1)) (drop (i + 1) ws))
unfolding token_from
token_next start i ws l e =
    let t : (get_or ws i 0 == start + 8 * i + 1) ≡ false = grind (arith, nat_tests) in
    let f : start + 8 * i + 8 ≡ start + 8 * (i + 1) = omega arith in
    rw (drop-cons ws i 0, t, f, add-one) refl

pub token_none : (start i : ℕ) (ws : List ℕ) → length ws ≤ i → token_from (start + 8 * i) (drop i ws) ≡ 0
unfolding token_from
token_none start i ws l = rw (drop_of_length-le ws l) refl

pub currents_more : (rs : List Span) (ssps : List (ℕ × ℕ)) (k : ℕ) (ms now new : Found) → now ≡ currents rs ssps k ms →
    new ≡ top_marked rs (get_or ssps k (0, 0)).1 (shown.Current (get_or ssps k (0, 0)).0) now → new ≡ currents rs ssps (k + 1) ms
unfolding currents
currents_more rs ssps k ms now new e f = rw add-one (f ∙ ap (top_marked rs (get_or ssps k (0, 0)).1 (shown.Current (get_or ssps k (0, 0)).0)) e)

pub park_more : (rs : List Span) (copies : List (List ℕ)) (k : ℕ) (ms now : Found) (words : List ℕ) (found : ℕ) → now ≡ parks rs copies k ms → words ≡ get_or copies k words → k < length copies →
    found ≡ token_from (get_or rs k no_span).start words → parks rs copies (k + 1) ms ≡ park_if found words k now
unfolding parks park
park_more rs copies k ms now words found e w l f = rw (add-one, element copies k words [] w l, ← f, ← e) refl

pub park_some : (found : ℕ) (words : List ℕ) (k : ℕ) (ms : Found) → found < length words → park_if found words k ms ≡ marked k shown.Parked (found + 1) ms
park_some found words k ms l = let t : nat_lt found (length words) ≡ true = grind (arith, nat_tests) in rw t refl

pub park_none : (found : ℕ) (words : List ℕ) (k : ℕ) (ms : Found) → length words ≤ found → park_if found words k ms ≡ ms
park_none found words k ms l = let t : nat_lt found (length words) ≡ false = grind (arith, nat_tests) in rw t refl

pub follow_past : (rs : List Span) (copies : List (List ℕ)) (k : ℕ) (f : Found) → length f.order ≤ k → f ≡ follow rs copies k f
unfolding follow
follow_past rs copies k f l = let t : nat_lt k (length f.order) ≡ false = grind (arith, nat_tests) in rw t refl

-- a number of the order, and the mark that it leads to, as the code reads them
pub order_inside : (marks : List Mark) (order : List ℕ) (k at : ℕ) → k < length order → at ≡ get_or order k at → ((j : ℕ) → j < length order → get_or order j 0 < length marks) → at < length marks
order_inside marks order k at l e inside = let f : get_or order k 0 ≡ at = element order k at 0 e l in let i = inside k l in omega arith

pub follow_here : (rs : List Span) (copies : List (List ℕ)) (marks : List Mark) (order : List ℕ) (f new : Found) (k at : ℕ) (m : Mark) (words : List ℕ) → record { marks = marks; order = order } ≡ f →
    k < length order → at ≡ get_or order k at → m ≡ get_or marks at m → at < length marks → words ≡ words_by m (get_or copies at []) → new ≡ followed rs words f → new ≡ follow rs copies k f
unfolding follow
follow_here rs copies marks order f new k at m words is l a e inside w n =
    let g : Found = record { marks = marks; order = order } in
    let t : nat_lt k (length order) ≡ true = grind (arith, nat_tests) in
    let q : follow rs copies k g ≡ followed rs words g = rw (t, element order k at 0 a l, element marks at m Unseen e inside, ← w) refl in
    n ∙ subst (λ h. followed rs words h ≡ follow rs copies k h) is (sym q)

pub follow_more : (rs : List Span) (copies : List (List ℕ)) (k : ℕ) (f now new : Found) → now ≡ follow_all rs copies k f → new ≡ follow rs copies k now → new ≡ follow_all rs copies (k + 1) f
unfolding follow_all
follow_more rs copies k f now new e g = rw add-one (g ∙ ap (follow rs copies k) e)

pub reports_more : (rs : List Span) (copies : List (List ℕ)) (ms : List Mark) (k : ℕ) (list new : List StackReport) (words : List ℕ) (report : StackReport) → list ≡ reports rs copies ms k →
    words ≡ get_or copies k words → k < length copies → report ≡ report_by (get_or rs k no_span) words (get_or ms k Unseen) → new ≡ list ++ report ∷ [] → new ≡ reports rs copies ms (k + 1)
unfolding reports
reports_more rs copies ms k list new words report e w l r f = rw (add-one, element copies k words [] w l, ← r, ← e) f
