-- Regions that are found: one more, and those that words lead to; and more room for the way to a region in view. Source: own.
use Rattle.std.proofs.Common.{◌≡◌, ◌≢◌, ℕ, zero, suc, ◌+◌, ◌-◌, ◌<◌, ◌≤◌, inl, inr, Bool, true, false, List, [], ◌∷◌, ◌++◌, length, get_or}
use Rattle.std.proofs.Common.{set, refl, sym, ◌∙◌, ap, subst, cond, arith, length-set, get_or-set_same, get_or-set_other}
use Rattle.std.specs.Prelude.{nat_lt}
use Rattle.std.proofs.lemmas.Bool.{false≢true, cases_lt}
use Rattle.std.proofs.lemmas.Bool.Decides.{eqb_tells, nat_tests}
use Rattle.std.proofs.lemmas.List.{length-append, get_or_append_left}
use Rattle.cet_book.specs.declared.entries.Holder.{Holder}
use Rattle.cet_book.specs.declared.entries.Holder.TheVariants.{Maker, Current, Parked, Left, Lost}
use Rattle.cet_book.specs.Book.{Book, region}
use Rattle.cet_book.specs.View.{Span, no_span, IsKept, in_view}
use Rattle.cet_book.specs.Marks.{place, is_unseen, Found, marked, top_marked, followed, currents, token_from, park, parks, follow_region, follow, follow_all, found_all}
use Rattle.cet_book.specs.declared.regions.Shown.{Shown}
use Rattle.cet_book.specs.declared.regions.Shown.TheVariants as shown
use Rattle.cet_book.specs.declared.marks.Mark.{Mark}
use Rattle.cet_book.specs.declared.marks.Mark.TheVariants.{Unseen, InView}
use Rattle.cet_book.proofs.MarkSteps.{marked_past}

abbrev pub is_seen : Mark → Bool
is_seen Unseen = false
is_seen (InView s from) = true

abbrev pub mark_at : Found → ℕ → Mark
mark_at f k = get_or f.marks k Unseen

abbrev pub Seen : Found → ℕ → Type 0
Seen f k = is_seen (mark_at f k) ≡ true

-- ---- whatever the words are

-- marks stay, and more regions may come after those that were found
pub record Follows (f next : Found) : Type 0 where
  pub size : length next.marks ≡ length f.marks
  pub seen : (k : ℕ) → Seen f k → Seen next k
  pub longer : length f.order ≤ length next.order
  pub order : (k : ℕ) → k < length f.order → get_or next.order k 0 ≡ get_or f.order k 0

pub follows_same : (f : Found) → Follows f f
follows_same f = record { size = refl; seen = λ k s. s; longer = omega arith; order = λ k l. refl }

pub follows_then : {a b c : Found} → Follows a b → Follows b c → Follows a c
follows_then x y = record {
  size = y.size ∙ x.size;
  seen = λ k s. y.seen k (x.seen k s);
  longer = (let l = x.longer in let m = y.longer in omega arith);
  order = λ k l. y.order k (let m = x.longer in omega arith) ∙ x.order k l;
}

-- the region j is found
abbrev pub with_mark : Found → (j : ℕ) → Shown → (from : ℕ) → Found
with_mark f j s from = record { marks = set f.marks j (InView s from); order = f.order ++ j ∷ [] }

-- all marks, where one of them is new
pub set_all : (f : Found) (j : ℕ) (s : Shown) (from : ℕ) → j < length f.marks → (P : ℕ → Mark → Type 0) → P j (InView s from) → ((k : ℕ) → k ≢ j → P k (mark_at f k)) → (k : ℕ) →
    P k (mark_at (with_mark f j s from) k)
set_all f j s from l P here others k = elim (eqb_tells k j) [
  | inl e ↦ subst (λ i. P i (mark_at (with_mark f j s from) i)) (sym e.1) (subst (P j) (sym (get_or-set_same f.marks j (InView s from) Unseen l)) here)
  | inr e ↦ subst (P k) (sym (get_or-set_other f.marks j k (InView s from) Unseen e.1)) (others k e.1)
]

pub not_seen : (m : Mark) → is_unseen m ≡ true → is_seen m ≡ false
not_seen Unseen e = refl
not_seen (InView s from) e = absurd (false≢true e)

was_seen : (m : Mark) → is_unseen m ≡ false → is_seen m ≡ true
was_seen Unseen e = absurd (false≢true (sym e))
was_seen (InView s from) e = refl

-- a region is marked, or was so before
pub marked_by : (P : Found → Type 0) (f : Found) (j : ℕ) (s : Shown) (from : ℕ) → j < length f.marks → (is_unseen (mark_at f j) ≡ true → P (with_mark f j s from)) →
    (is_unseen (mark_at f j) ≡ false → P f) → P (marked j s from f)
unfolding marked
marked_by P f j s from l new old =
    let inside : nat_lt j (length f.marks) ≡ true = grind (arith, nat_tests) in
    rw inside (elim (is_unseen (mark_at f j)) as (λ (c : Bool). is_unseen (mark_at f j) ≡ c → P (cond c (with_mark f j s from) f)) [ true ↦ new | false ↦ old ] refl)

set_follows : (f : Found) (j : ℕ) (s : Shown) (from : ℕ) → j < length f.marks → is_unseen (mark_at f j) ≡ true → Follows f (with_mark f j s from)
set_follows f j s from l e = record {
  size = length-set f.marks j (InView s from);
  seen = set_all f j s from l (λ k m. Seen f k → is_seen m ≡ true) (λ _. refl) (λ k n x. x);
  longer = (let a = length-append f.order (j ∷ []) in omega arith);
  order = λ k m. get_or_append_left f.order (j ∷ []) 0 k m;
}

pub marked_follows : (f : Found) (j : ℕ) (s : Shown) (from : ℕ) → Follows f (marked j s from f)
marked_follows f j s from = elim (cases_lt j (length f.marks)) [
  | inl l ↦ marked_by (λ new. Follows f new) f j s from l (set_follows f j s from l) (λ _. follows_same f)
  | inr m ↦ subst (Follows f) (sym (marked_past j s from f m)) (follows_same f)
]

pub marked_here : (f : Found) (j : ℕ) (s : Shown) (from : ℕ) → j < length f.marks → Seen (marked j s from f) j
marked_here f j s from l = marked_by (λ new. Seen new j) f j s from l (λ _. ap is_seen (get_or-set_same f.marks j (InView s from) Unseen l)) (was_seen (mark_at f j))

-- an address of no region changes nothing
pub top_follows : (rs : List Span) (a : ℕ) (s : Shown) (f : Found) → Follows f (top_marked rs a s f)
unfolding top_marked
top_follows rs a s f = marked_follows f (place a rs) s _

pub top_out : (rs : List Span) (a : ℕ) (s : Shown) (f : Found) → place a rs ≡ length rs → length f.marks ≡ length rs → top_marked rs a s f ≡ f
unfolding top_marked
top_out rs a s f e size = let past : length f.marks ≤ place a rs = omega arith in marked_past (place a rs) s _ f past

pub followed_follows : (rs : List Span) (ws : List ℕ) (f : Found) → Follows f (followed rs ws f)
unfolding followed
followed_follows rs [] f = follows_same f
followed_follows rs (w ∷ ws) f = follows_then (top_follows rs (w - 3) shown.Left f) (followed_follows rs ws (top_marked rs (w - 3) shown.Left f))

pub currents_follows : (rs : List Span) (ssps : List (ℕ × ℕ)) (c : ℕ) (f : Found) → Follows f (currents rs ssps c f)
unfolding currents
currents_follows rs ssps zero f = follows_same f
currents_follows rs ssps (suc c) f = follows_then (currents_follows rs ssps c f) (top_follows rs _ _ (currents rs ssps c f))

pub park_follows : (rs : List Span) (copies : List (List ℕ)) (k : ℕ) (f : Found) → Follows f (park rs copies k f)
unfolding park
park_follows rs copies k f = elim (nat_lt (token_from (get_or rs k no_span).start (get_or copies k [])) (length (get_or copies k []))) as
    (λ (c : Bool). Follows f (cond c (marked k shown.Parked (token_from (get_or rs k no_span).start (get_or copies k []) + 1) f) f)) [
      | true ↦ marked_follows f k shown.Parked _
      | false ↦ follows_same f
    ]

pub parks_follows : (rs : List Span) (copies : List (List ℕ)) (c : ℕ) (f : Found) → Follows f (parks rs copies c f)
unfolding parks
parks_follows rs copies zero f = follows_same f
parks_follows rs copies (suc c) f = follows_then (parks_follows rs copies c f) (park_follows rs copies c (parks rs copies c f))

pub follow_follows : (rs : List Span) (copies : List (List ℕ)) (k : ℕ) (f : Found) → Follows f (follow rs copies k f)
unfolding follow
follow_follows rs copies k f = elim (nat_lt k (length f.order)) as (λ (c : Bool). Follows f (cond c (follow_region rs copies (get_or f.order k 0) f) f)) [
  | true ↦ followed_follows rs _ f
  | false ↦ follows_same f
]

pub all_follows : (rs : List Span) (copies : List (List ℕ)) (c : ℕ) (f : Found) → Follows f (follow_all rs copies c f)
unfolding follow_all
all_follows rs copies zero f = follows_same f
all_follows rs copies (suc c) f = follows_then (all_follows rs copies c f) (follow_follows rs copies c (follow_all rs copies c f))

pub found_follows : (rs : List Span) (copies : List (List ℕ)) (ssps : List (ℕ × ℕ)) (f : Found) → Follows f (found_all rs copies ssps f)
unfolding found_all
found_follows rs copies ssps f =
    follows_then (follows_then (currents_follows rs ssps (length ssps) f) (parks_follows rs copies (length rs) (currents rs ssps (length ssps) f)))
    (all_follows rs copies (length rs) (parks rs copies (length rs) (currents rs ssps (length ssps) f)))

-- so there is a mark for each region throughout
pub size_by : {f next : Found} (n : ℕ) (now : Found) → now ≡ next → Follows f next → length f.marks ≡ n → length now.marks ≡ n
size_by n now e x l = ap (λ (g : Found). length g.marks) e ∙ x.size ∙ l

pub size_rest : (rs : List Span) (ws rest : List ℕ) (f now : Found) (n : ℕ) → followed rs rest now ≡ followed rs ws f → length f.marks ≡ n → length now.marks ≡ n
size_rest rs ws rest f now n e l = sym (followed_follows rs rest now).size ∙ ap (λ (g : Found). length g.marks) e ∙ (followed_follows rs ws f).size ∙ l

-- ---- a longer way

pub view_more : (b : Book) (f : ℕ) (h : Holder) → in_view b f h ≡ true → in_view b (suc f) h ≡ true
view_more b zero h e = absurd (false≢true e)
view_more b (suc f) (Maker t) e = e
view_more b (suc f) (Current t) e = e
view_more b (suc f) Parked e = e
view_more b (suc f) (Left q) e = view_more b f (region b q).holder e
view_more b (suc f) Lost e = e

pub view_at_least : (b : Book) (f more : ℕ) (h : Holder) → in_view b f h ≡ true → in_view b (more + f) h ≡ true
view_at_least b f zero h e = let z : 0 + f ≡ f = omega arith in rw z e
view_at_least b f (suc more) h e = let z : suc more + f ≡ suc (more + f) = omega arith in rw z (view_more b (more + f) h (view_at_least b f more h e))

pub view_held : (b : Book) (f : ℕ) (h : Holder) → in_view b f h ≡ true → IsKept h
view_held b zero h e = absurd (false≢true e)
view_held b (suc f) (Maker t) e = absurd (false≢true e)
view_held b (suc f) (Current t) e = tt
view_held b (suc f) Parked e = tt
view_held b (suc f) (Left q) e = tt
view_held b (suc f) Lost e = absurd (false≢true e)
