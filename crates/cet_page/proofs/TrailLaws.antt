-- What a trail shows is what was seen of the row, and nothing else. Source: own.
use Rattle.std.proofs.Common.{zero, suc, true, false, arith, subst, ap, sym, ◌∙◌, append-nil, append_assoc, length-append}
use Rattle.std.specs.Prelude.{◌≡◌, ℕ, ◌+◌, Bool, List, [], ◌∷◌, ◌++◌, length, refl}
use Rattle.cet_words.specs.declared.accesses.Access.{Access}
use Rattle.cet_words.specs.declared.accesses.Access.TheVariants as access
use Rattle.cet_words.specs.Change.{Change}
use Rattle.cet_page.specs.Script.{Script, done, fault, ask, tell, Wants, play}
use Rattle.cet_page.specs.ValsData.{ValsData, keeps, kept_after}
use Rattle.cet_page.specs.Trail.{Visit, visit, trail, vals_of}
use Rattle.cet_page.proofs.Walk.{Walks, Spent, acted, kept_cons}

kept_one : (l : List ℕ) (a : Access) (v : ℕ) → keeps a ≡ true → kept_after l a v ≡ l ++ v ∷ []
kept_one l a v e = rw e refl

one_more : (l vs all : List ℕ) (v : ℕ) → all ≡ (l ++ v ∷ []) ++ vs → all ≡ l ++ v ∷ vs
one_more l vs all v e = e ∙ append_assoc l (v ∷ []) vs

-- a trail that goes the way of the script shows as many accesses, and the answers kept of them
shows : {A : Type 0} (P : A → Type 0) (wrote : Bool) (s : Script A) (n k i : ℕ) (vs : List ℕ) (past : List Visit) → Walks n k wrote P s → Spent s i vs →
    ((vals_of (trail i s vs past)).accesses ≡ (vals_of past).accesses + i) × ((vals_of (trail i s vs past)).values ≡ (vals_of past).values ++ vs)
shows P wrote s n k zero [] past h w = (omega arith, sym (append-nil (vals_of past).values))
shows P wrote s n k zero (v ∷ vs) past h w = absurd w
shows P wrote (done x) n k (suc i) vs past h w = absurd w
shows P wrote (fault e) n k (suc i) vs past h w = absurd w
shows P wrote (ask a changes f) n k (suc i) [] past h w = absurd w
shows P wrote (ask a changes f) n k (suc i) (v ∷ vs) past h w =
    let g = h.1 v in
    let r = shows P (acted wrote a v (changes v)) (f v) (n + 1) (k + 1) i vs (visit a v (changes v) ∷ past) g.1 w in
    (omega arith, one_more (vals_of past).values vs _ v (r.1 ∙ ap (λ l. l ++ vs) (kept_one (vals_of past).values a v h.0)))
shows P wrote (tell word value changes s) n k (suc i) vs past h w =
    let r = shows P true s (n + 1) k i vs (visit (access.Store word value) 0 changes ∷ past) h.1 w in
    (omega arith, r.1)

seen_is : (x : ValsData) (n : ℕ) (vs : List ℕ) → x.accesses ≡ n → x.values ≡ vs → x ≡ record { accesses = n; values = vs }
seen_is x n vs p q = subst (λ (m : ℕ). x ≡ record { accesses = m; values = vs }) p (subst (λ (l : List ℕ). x ≡ record { accesses = x.accesses; values = l }) q refl)

pub trail_shows : {A : Type 0} (P : A → Type 0) (s : Script A) (n k i : ℕ) (vs : List ℕ) → Walks n k false P s → Spent s i vs → vals_of (trail i s vs []) ≡ record { accesses = i; values = vs }
trail_shows P s n k i vs h w = let r = shows P false s n k i vs [] h w in seen_is (vals_of (trail i s vs [])) i vs (omega arith) r.1

-- ---- and the other way round

too_few : (c : ℕ) (i : ℕ) → c ≡ c + suc i → ⊥
too_few c i e = omega arith

too_many : (l : List ℕ) (v : ℕ) (vs : List ℕ) → l ≡ l ++ v ∷ vs → ⊥
too_many l v vs e =
    let n : length l ≡ length l + suc (length vs) = ap length e ∙ length-append l (v ∷ vs) in
    omega arith

one_less : (l vs all : List ℕ) (v : ℕ) → all ≡ l ++ v ∷ vs → all ≡ (l ++ v ∷ []) ++ vs
one_less l vs all v e = e ∙ sym (append_assoc l (v ∷ []) vs)

shown : {A : Type 0} (P : A → Type 0) (wrote : Bool) (s : Script A) (n k i : ℕ) (vs : List ℕ) (past : List Visit) → Walks n k wrote P s →
    (vals_of (trail i s vs past)).accesses ≡ (vals_of past).accesses + i → (vals_of (trail i s vs past)).values ≡ (vals_of past).values ++ vs → Spent s i vs
shown P wrote s n k zero [] past h c l = tt
shown P wrote s n k zero (v ∷ vs) past h c l = too_many (vals_of past).values v vs l
shown P wrote (done x) n k (suc i) vs past h c l = too_few (vals_of past).accesses i c
shown P wrote (fault e) n k (suc i) vs past h c l = too_few (vals_of past).accesses i c
shown P wrote (ask a changes f) n k (suc i) [] past h c l = too_few (vals_of past).accesses i c
shown P wrote (ask a changes f) n k (suc i) (v ∷ vs) past h c l =
    let g = h.1 v in
    shown P (acted wrote a v (changes v)) (f v) (n + 1) (k + 1) i vs (visit a v (changes v) ∷ past) g.1 (omega arith)
    (one_less (vals_of past).values vs _ v l ∙ ap (λ m. m ++ vs) (sym (kept_one (vals_of past).values a v h.0)))
shown P wrote (tell word value changes s) n k (suc i) vs past h c l =
    shown P true s (n + 1) k i vs (visit (access.Store word value) 0 changes ∷ past) h.1 (omega arith) l

pub trail_spent : {A : Type 0} (P : A → Type 0) (s : Script A) (n k : ℕ) (seen : ValsData) → Walks n k false P s → vals_of (trail seen.accesses s seen.values []) ≡ seen → Spent s seen.accesses seen.values
trail_spent P s n k seen h e = shown P false s n k seen.accesses seen.values [] h (ap (λ (x : ValsData). x.accesses) e ∙ omega arith) (ap (λ (x : ValsData). x.values) e)

-- ---- one access more

-- it stands first
pub trail_more : {A : Type 0} (P : A → Type 0) (wrote : Bool) (s : Script A) (n k i : ℕ) (vs : List ℕ) (past : List Visit) (a : Access) (own : ℕ → List Change) (v : ℕ) → Walks n k wrote P s →
    Spent s i vs → play s i vs ≡ Wants a own → (w : ℕ) × (trail (suc i) s (kept_after vs a v) past ≡ visit a w (own v) ∷ trail i s vs past)
trail_more P wrote (done x) n k i vs past a own v f h w = cc
trail_more P wrote (fault e) n k i vs past a own v f h w = cc
trail_more P wrote (ask b changes c) n k zero [] past a own v f h w =
    let e : b ≡ a = cc in
    let same : changes ≡ own = cc in
    let kept : keeps a ≡ true = sym (ap keeps e) ∙ f.0 in
    (v, rw kept (ap (λ (x : Access). visit x v (changes v) ∷ past) e ∙ ap (λ (l : ℕ → List Change). visit a v (l v) ∷ past) same))
trail_more P wrote (ask b changes c) n k zero (x ∷ vs) past a own v f h w = absurd h
trail_more P wrote (ask b changes c) n k (suc i) [] past a own v f h w = absurd h
trail_more P wrote (ask b changes c) n k (suc i) (x ∷ vs) past a own v f h w =
    let g = f.1 x in
    let r = trail_more P (acted wrote b x (changes x)) (c x) (n + 1) (k + 1) i vs (visit b x (changes x) ∷ past) a own v g.1 h w in
    (r.0, subst (λ l. trail (suc (suc i)) (ask b changes c) l past ≡ visit a r.0 (own v) ∷ trail (suc i) (ask b changes c) (x ∷ vs) past) (sym (kept_cons x vs a v)) r.1)
trail_more P wrote (tell word value changes s) n k zero [] past a own v f h w =
    let e : access.Store word value ≡ a = cc in
    let same : (λ (u : ℕ). changes) ≡ own = cc in
    (0, ap (λ (x : Access). visit x 0 changes ∷ past) e ∙ ap (λ (l : ℕ → List Change). visit a 0 (l v) ∷ past) same)
trail_more P wrote (tell word value changes s) n k zero (x ∷ vs) past a own v f h w = absurd h
trail_more P wrote (tell word value changes s) n k (suc i) vs past a own v f h w =
    trail_more P true s (n + 1) k i vs (visit (access.Store word value) 0 changes ∷ past) a own v f.1 h w
