-- A worker's turns, pass by pass. Source: own.
use Rattle.std.proofs.Common.{◌≡◌, ℕ, suc, ◌+◌, ◌-◌, ◌<◌, ◌≤◌, arith, List, [], ◌∷◌, ◌++◌, length, Option, Some, None, refl, sym, ap, ◌∙◌, subst, append-nil, append_assoc, length-append}
use Rattle.std.specs.Prelude.{All}
use Rattle.std.specs.List.Sorted.{IsPermutation}
use Rattle.std.proofs.lemmas.List.Elements.{All-nil, All-append, All-push, All-pop}
use Rattle.std.proofs.lemmas.List.Sorted.{IsPermutation-append_comm, IsPermutation-append_left, IsPermutation-refl, IsPermutation-trans}
use Rattle.cet_words.specs.Job.{JobData}
use Rattle.cet_shared.specs.Held.{Place}
use Rattle.cet_pool.specs.declared.lives.Live.{Live}
use Rattle.cet_pool.specs.Going.{Goes, IsLive, IsReady, Went}
use Rattle.cet_pool.specs.Rounds.{Turned, Turning}
use Rattle.cet_pool.proofs.Goings.{goes_as, goes_beside, goes_less, goes_none, goes_then}

pub none_in : (xs : List Live) → length xs ≡ 0 → xs ≡ []
none_in [] e = refl
none_in (x ∷ xs) e = absurd (omega arith)

-- the last of those that wait has its turn
turn_goes : (job : JobData) (k : ℕ) (before rest after children : List Live) (x x' : Live) → Goes job k before ((rest ++ x ∷ []) ++ after) → Goes job 1 (x ∷ []) (x' ∷ children)
    → Goes job (k + 1) before (rest ++ ((after ++ children) ++ x' ∷ []))
turn_goes job k before rest after children x x' g r =
    let a : Goes job k before (rest ++ ((x ∷ []) ++ after)) = subst (Goes job k before) (append_assoc rest (x ∷ []) after) g in
    let b : Goes job (1 + 0) ((x ∷ []) ++ after) ((x' ∷ children) ++ after) = goes_beside job 1 0 (x ∷ []) (x' ∷ children) after after r (goes_none job after) in
    let c : IsPermutation ((x' ∷ []) ++ (children ++ after)) ((children ++ after) ++ x' ∷ []) = IsPermutation-append_comm (x' ∷ []) (children ++ after) in
    let d : IsPermutation (children ++ after) (after ++ children) = IsPermutation-append_comm children after in
    let e : IsPermutation ((x' ∷ children) ++ after) ((after ++ children) ++ x' ∷ []) = IsPermutation-trans ((x' ∷ children) ++ after) ((children ++ after) ++ x' ∷ []) ((after ++ children)
    ++ x' ∷ []) c (IsPermutation-append_left (x' ∷ []) (children ++ after) (after ++ children) d) in
    let f : Goes job (1 + 0) ((x ∷ []) ++ after) ((after ++ children) ++ x' ∷ []) = goes_as job (1 + 0) ((x ∷ []) ++ after) ((x ∷ []) ++ after) ((x' ∷ children) ++ after) ((after ++
    children) ++ x' ∷ []) (IsPermutation-refl ((x ∷ []) ++ after)) e b in
    let h = goes_beside job 0 (1 + 0) rest rest ((x ∷ []) ++ after) ((after ++ children) ++ x' ∷ []) (goes_none job rest) f in
    goes_less job (k + 1) (k + (0 + (1 + 0))) before (rest ++ ((after ++ children) ++ x' ∷ [])) (omega arith) (goes_then job k (0 + (1 + 0)) before (rest ++ ((x ∷ []) ++ after)) (rest ++
    ((after ++ children) ++ x' ∷ [])) a h)

module _ (place : Place) (before : List Live) where
  pub turning_init : All (IsReady place) before → Turning place before before []
  turning_init ready = record {
    ready = ready;
    lives = All-nil (IsLive place);
    fewer = omega arith;
    goes = subst (Goes place.job (length before - length before) before) (sym (append-nil before)) (goes_less place.job (length before - length before) 0 before before (omega arith)
        (goes_none place.job before));
  }

  pub turning_next : (waiting rest after mid new : List Live) (x x' : Live) → Turning place before waiting after → waiting ≡ rest ++ x ∷ [] → Went place 1 x x' after mid
      → new ≡ mid ++ x' ∷ [] → Turning place before rest new
  turning_next waiting rest after mid new x x' t popped r pushed =
      let left = All-pop (IsReady place) (rest ++ x ∷ []) rest (Some x) refl (subst (All (IsReady place)) popped t.ready) in
      let all : (after ++ r.children) ++ x' ∷ [] ≡ new = sym (pushed ∙ ap (λ (l : List Live). l ++ x' ∷ []) r.added) in
      let n : length waiting ≡ length rest + 1 = ap length popped ∙ length-append rest (x ∷ []) in
      let f = t.fewer in
      let from : Goes place.job (length before - length waiting) before ((rest ++ x ∷ []) ++ after) = subst (λ (l : List Live). Goes place.job (length before - length waiting) before (l ++
      after)) popped t.goes in
      let to = turn_goes place.job (length before - length waiting) before rest after r.children x x' from r.goes in
      record {
        ready = left.0;
        lives = subst (All (IsLive place)) all (All-push (IsLive place) (after ++ r.children) x' (All-append (IsLive place) after r.children t.lives r.lives) r.itself);
        fewer = omega arith;
        goes = goes_less place.job (length before - length rest) ((length before - length waiting) + 1) before (rest ++ new) (omega arith) (subst (λ (l : List Live). Goes place.job ((length
            before - length waiting) + 1) before (rest ++ l)) all to);
      }

  -- another round
  pub turned_then : (mid after : List Live) → Turned place before mid → Turned place mid after → Turned place before after
  turned_then mid after t u = record {
    lives = u.lives;
    goes = goes_less place.job (length before) (length before + length mid) before after (omega arith) (goes_then place.job (length before) (length mid) before mid after t.goes u.goes);
  }

  pub turning_done : (waiting after : List Live) → Turning place before waiting after → length waiting ≡ 0 → Turned place before after
  turning_done waiting after t none = record {
    lives = t.lives;
    goes = goes_less place.job (length before) (length before - length waiting) before after (omega arith) (subst (λ (l : List Live). Goes place.job (length before - length waiting) before
        (l ++ after)) (none_in waiting none) t.goes);
  }
