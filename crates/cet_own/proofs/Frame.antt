-- What a thread claims of its script, whatever the other threads do between its accesses. Source: own, in the manner of
-- rely-guarantee reasoning.
use Rattle.std.proofs.Common.{◌≡◌, ℕ, zero, suc, ◌+◌, Bool, true, false, cond, List, [], ◌∷◌, ◌++◌, Some, refl, sym, ◌∙◌, ap, subst}
use Rattle.cet_words.specs.Access.{answer}
use Rattle.cet_words.specs.Change.{Change}
use Rattle.cet_words.specs.declared.accesses.Access.{Access}
use Rattle.cet_words.specs.declared.accesses.Access.TheVariants as access
use Rattle.cet_isa.specs.declared.threads.Fault.{Fault}
use Rattle.cet_page.specs.Script.{Script, done, fault, ask, tell, ◌>>=◌, Played, Completed, Faulted, Wants, play}
use Rattle.cet_page.specs.ValsData.{keeps, kept_after}
use Rattle.cet_page.specs.Trail.{Visit, visit, trail}
use Rattle.cet_page.proofs.Walk.{acted, Walks}
use Rattle.cet_own.specs.Frame.{Rules, Steady, SteadyAt}

pub steady_bind : {A C B : Type 0} (rules : Rules B) (During : List Visit → B → Type 0) (Q : List Visit → B → B → C → Type 0) (F : List Visit → B → Fault →
    Type 0) (past : List Visit) (before b : B) (m : Script A) (f : A → Script C) → Steady rules During (λ p z b' x. Steady rules During Q F p z b' (f x)) F past before b m →
    Steady rules During Q F past before b (m >>= f)
unfolding ◌>>=◌
steady_bind rules During Q F past before b (done x) f h = h
steady_bind rules During Q F past before b (fault e) f h = h
steady_bind rules During Q F past before b (ask a changes c) f h =
    (h.0, λ now r v known. let k = h.1 now r v known in (k.0, k.1, k.2, steady_bind rules During Q F (visit a v (changes v) ∷ past) now k.1 (c v) f k.3))
steady_bind rules During Q F past before b (tell word value changes s) f h =
    (h.0, λ now r known. let k = h.1 now r known in (k.0, k.1, k.2, steady_bind rules During Q F (visit (access.Store word value) 0 changes ∷ past) now k.1 s f k.3))

pub steady_cond : {A B : Type 0} (rules : Rules B) (During : List Visit → B → Type 0) (Q : List Visit → B → B → A → Type 0) (F : List Visit → B → Fault →
    Type 0) (past : List Visit) (before b : B) (c : Bool) (s t : Script A) → (c ≡ true → Steady rules During Q F past before b s) → (c ≡ false → Steady rules During Q F past before b t) →
    Steady rules During Q F past before b (cond c s t)
steady_cond rules During Q F past before b true s t p q = p refl
steady_cond rules During Q F past before b false s t p q = q refl

-- an answer that is kept goes to the end of those that were
pub kept_cons : (x : ℕ) (vs : List ℕ) (a : Access) (v : ℕ) → x ∷ kept_after vs a v ≡ kept_after (x ∷ vs) a v
kept_cons x vs a v = elim (keeps a) as (λ b. x ∷ cond b (vs ++ v ∷ []) vs ≡ cond b ((x ∷ vs) ++ v ∷ []) (x ∷ vs)) [ true ↦ refl | false ↦ refl ]

module _ {A B : Type 0} (rules : Rules B) (During : List Visit → B → Type 0) (Q : List Visit → B → B → A → Type 0) (F : List Visit → B → Fault → Type 0) where
  -- before an access
  pub during_at : (past : List Visit) (before b : B) (s : Script A) (n : ℕ) (vs : List ℕ) (a : Access) (own : ℕ → List Change) → SteadyAt rules During Q F past before b s n vs →
      play s n vs ≡ Wants a own → During (trail n s vs past) b
  during_at past before b (done x) zero [] a own g w = cc
  during_at past before b (fault e) zero [] a own g w = cc
  during_at past before b (ask b' changes f) zero [] a own g w = g.0
  during_at past before b (tell word value changes s) zero [] a own g w = g.0
  during_at past before b s zero (v ∷ vs) a own g w = absurd g
  during_at past before b (done x) (suc n) vs a own g w = absurd g
  during_at past before b (fault e) (suc n) vs a own g w = absurd g
  during_at past before b (ask b' changes f) (suc n) [] a own g w = absurd g
  during_at past before b (ask b' changes f) (suc n) (v ∷ vs) a own g w = during_at (visit b' v (changes v) ∷ past) before b (f v) n vs a own g w
  during_at past before b (tell word value changes s) (suc n) vs a own g w = during_at (visit (access.Store word value) 0 changes ∷ past) before b s n vs a own g w

  -- what the others do keeps the claim of a thread that waits for an access
  pub others_at : (past : List Visit) (before b now : B) (s : Script A) (n : ℕ) (vs : List ℕ) (a : Access) (own : ℕ → List Change) → rules.Rely b now → ((p : List Visit) → During p b → During p now) →
      SteadyAt rules During Q F past before b s n vs → play s n vs ≡ Wants a own → SteadyAt rules During Q F past before now s n vs
  others_at past before b now (done x) zero [] a own r d g w = cc
  others_at past before b now (fault e) zero [] a own r d g w = cc
  others_at past before b now (ask b' changes f) zero [] a own r d g w = (d past g.0, λ later l v known. g.1 later (rules.again b now later r l) v known)
  others_at past before b now (tell word value changes s) zero [] a own r d g w = (d past g.0, λ later l known. g.1 later (rules.again b now later r l) known)
  others_at past before b now s zero (v ∷ vs) a own r d g w = absurd g
  others_at past before b now (done x) (suc n) vs a own r d g w = absurd g
  others_at past before b now (fault e) (suc n) vs a own r d g w = absurd g
  others_at past before b now (ask b' changes f) (suc n) [] a own r d g w = absurd g
  others_at past before b now (ask b' changes f) (suc n) (v ∷ vs) a own r d g w = others_at (visit b' v (changes v) ∷ past) before b now (f v) n vs a own r d g w
  others_at past before b now (tell word value changes s) (suc n) vs a own r d g w = others_at (visit (access.Store word value) 0 changes ∷ past) before b now s n vs a own r d g w

  -- what an access pays and leads to, and that the trail grows by it
  pub record Goes (at past : List Visit) (b : B) (s : Script A) (n : ℕ) (vs : List ℕ) (a : Access) (v : ℕ) (changes : List Change) : Type 0 where
    pub owed : rules.Owed at b a v changes
    pub next : B
    pub is : rules.after b changes ≡ Some next
    pub left : SteadyAt rules During Q F past b next s n vs
    pub grown : trail n s vs past ≡ visit a v changes ∷ at

  -- the next access of a script, where what the words answer is known
  pub goes : (R : A → Type 0) (wrote : Bool) (m k : ℕ) (words : List ℕ) (past : List Visit) (before b : B) (s : Script A) (n : ℕ) (vs : List ℕ) (a : Access) (own : ℕ → List Change) →
      Walks m k wrote R s → SteadyAt rules During Q F past before b s n vs → play s n vs ≡ Wants a own → rules.Known (trail n s vs past) b a (answer words a) →
      Goes (trail n s vs past) past b s (suc n) (kept_after vs a (answer words a)) a (answer words a) (own (answer words a))
  goes R wrote m k words past before b (done x) zero [] a own o g w known = cc
  goes R wrote m k words past before b (fault e) zero [] a own o g w known = cc
  goes R wrote m k words past before b (ask c changes f) zero [] a own o g w known =
      let e : c ≡ a = cc in
      let same : changes ≡ own = cc in
      let kept : keeps a ≡ true = sym (ap keeps e) ∙ o.0 in
      let h = g.1 b (rules.same b) (answer words a) (subst (λ (x : Access). rules.Known past b x (answer words a)) (sym e) known) in
      subst (λ (l : ℕ → List Change). Goes past past b (ask c changes f) (suc zero) (kept_after [] a (answer words a)) a (answer words a) (l (answer words a))) same (record {
        owed = subst (λ (x : Access). rules.Owed past b x (answer words a) (changes (answer words a))) e h.0;
        next = h.1;
        is = h.2;
        left = rw kept h.3;
        grown = rw kept (ap (λ (x : Access). visit x (answer words a) (changes (answer words a)) ∷ past) e);
      })
  goes R wrote m k words past before b (tell word value changes s) zero [] a own o g w known =
      let e : access.Store word value ≡ a = cc in
      let same : (λ (v : ℕ). changes) ≡ own = cc in
      let kept : keeps a ≡ false = sym (ap keeps e) in
      let h = g.1 b (rules.same b) (subst (λ (x : Access). rules.Known past b x (answer words x)) (sym e) known) in
      subst (λ (l : ℕ → List Change). Goes past past b (tell word value changes s) (suc zero) (kept_after [] a (answer words a)) a (answer words a) (l (answer words a))) same (record {
        owed = subst (λ (x : Access). rules.Owed past b x (answer words x) changes) e h.0;
        next = h.1;
        is = h.2;
        left = rw kept h.3;
        grown = ap (λ (x : Access). visit x (answer words x) changes ∷ past) e;
      })
  goes R wrote m k words past before b s zero (x ∷ vs) a own o g w known = absurd g
  goes R wrote m k words past before b (done x) (suc n) vs a own o g w known = absurd g
  goes R wrote m k words past before b (fault e) (suc n) vs a own o g w known = absurd g
  goes R wrote m k words past before b (ask c changes f) (suc n) [] a own o g w known = absurd g
  goes R wrote m k words past before b (ask c changes f) (suc n) (x ∷ vs) a own o g w known =
      let p = o.1 x in
      let h = goes R (acted wrote c x (changes x)) (m + 1) (k + 1) words (visit c x (changes x) ∷ past) before b (f x) n vs a own p.1 g w known in
      record {
        owed = h.owed;
        next = h.next;
        is = h.is;
        left = subst (λ (l : List ℕ). SteadyAt rules During Q F past b h.next (ask c changes f) (suc (suc n)) l) (kept_cons x vs a (answer words a)) h.left;
        grown = subst (λ (l : List ℕ). trail (suc (suc n)) (ask c changes f) l past ≡ visit a (answer words a) (own (answer words a)) ∷ trail n (f x) vs (visit c x (changes x) ∷ past)) (kept_cons x vs a (answer words a)) h.grown;
      }
  goes R wrote m k words past before b (tell word value changes s) (suc n) vs a own o g w known =
      let h = goes R true (m + 1) k words (visit (access.Store word value) 0 changes ∷ past) before b s n vs a own o.1 g w known in
      record { owed = h.owed; next = h.next; is = h.is; left = h.left; grown = h.grown }

  -- what holds where the script has come to its end
  abbrev pub OnCame : (past : List Visit) → (before b : B) → Played A → Type 0
  OnCame past before b (Completed x n vs) = Q past before b x
  OnCame past before b (Faulted e) = F past b e
  OnCame past before b (Wants a changes) = Unit {0}

  on_came_first : (past : List Visit) (before b : B) (s : Script A) → Steady rules During Q F past before b s → OnCame past before b (play s zero [])
  on_came_first past before b (done x) g = g
  on_came_first past before b (fault e) g = g
  on_came_first past before b (ask a changes f) g = tt
  on_came_first past before b (tell word value changes s) g = tt

  pub on_came : (past : List Visit) (before b : B) (s : Script A) (n : ℕ) (vs : List ℕ) → SteadyAt rules During Q F past before b s n vs → OnCame (trail n s vs past) before b (play s n vs)
  on_came past before b s zero [] g = on_came_first past before b s g
  on_came past before b s zero (x ∷ vs) g = absurd g
  on_came past before b (done x) (suc n) vs g = absurd g
  on_came past before b (fault e) (suc n) vs g = absurd g
  on_came past before b (ask a changes f) (suc n) [] g = absurd g
  on_came past before b (ask a changes f) (suc n) (x ∷ vs) g = on_came (visit a x (changes x) ∷ past) before b (f x) n vs g
  on_came past before b (tell word value changes s) (suc n) vs g = on_came (visit (access.Store word value) 0 changes ∷ past) before b s n vs g
