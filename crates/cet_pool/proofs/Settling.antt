-- Passes are laid aside, and what a round comes to. Source: own.
use Rattle.std.proofs.Common.{◌≡◌, ◌≢◌, Bool, true, false, ℕ, zero, suc, ◌+◌, ◌<◌, ◌≤◌, arith, List, [], ◌∷◌, ◌++◌}
use Rattle.std.proofs.Common.{length, get_or, Option, Some, None, Result, Ok, Err, refl, sym, ap, ◌∙◌, subst, append-nil, append_assoc, length-append}
use Rattle.std.specs.Prelude.{All, IfOk}
use Rattle.std.specs.Option.{is_some}
use Rattle.cet_isa.specs.declared.threads.End.{End}
use Rattle.std.specs.List.{AllZip}
use Rattle.std.specs.List.Sorted.{IsPermutation}
use Rattle.std.specs.declared.vec.Vec.{Vec}
use Rattle.std.specs.declared.alloc.Global.{Global}
use Rattle.std.proofs.lemmas.List.Elements.{All-nil, All-cons, All-append, All-head, All-push, All-tail}
use Rattle.std.proofs.lemmas.List.Sorted.{All-permutation, IsPermutation-append_comm, IsPermutation-append_left, IsPermutation-append_right, IsPermutation-middle}
use Rattle.std.proofs.lemmas.List.Sorted.{IsPermutation-refl, IsPermutation-sym, IsPermutation-to_front, IsPermutation-trans, length_permutation}
use Rattle.cet_page.specs.Within.{IsCore}
use Rattle.cet_words.specs.Job.{JobData}
use Rattle.cet_page.specs.Machine.{Thread}
use Rattle.cet_shared.specs.Held.{Held, IsOf, Place, Standing, first_of, first_view}
use Rattle.cet_pool.specs.declared.lives.Live.{Live}
use Rattle.cet_pool.specs.declared.workers.Bin.{Bin}
use Rattle.cet_pool.specs.Going.{Goes, IsLive, IsOver, IsReady, own}
use Rattle.cet_pool.specs.Rounds.{AllOk, Answer, Collected, HasEnded, IsGoing, Parted, Settled, Turned, outs_of, spread}
use Rattle.cet_pool.proofs.Goings.{goes_as, goes_beside, goes_less, goes_none, goes_then}
use Rattle.cet_pool.proofs.Dealing.{all_apart}

-- ---- what a worker answers for its bin

abbrev AnswersBin : Place → Bin → Answer → Type 0
AnswersBin place b (Ok v) = Turned place b.lives.items v.items
AnswersBin place b (Err e) = Unit {0}

-- ---- a thread has ended, or goes on

pub is_over : (o : Option End) (b : Bool) → b ≡ is_some o → b ≡ true → o ≢ None
is_over None b e t n = let f : b ≡ false = e in absurd (cc)
is_over (Some x) b e t n = absurd (cc)

pub is_going : (o : Option End) (b : Bool) → b ≡ is_some o → b ≡ false → o ≡ None
is_going None b e t = refl
is_going (Some x) b e t = let f : b ≡ true = e in absurd (cc)

-- ---- one after another

module _ (before lives0 aside waiting rest lives aside' : List Live) (x : Live) (p : Parted before lives0 aside waiting lives aside') (popped : waiting ≡ rest ++ x ∷ []) where
  from : IsPermutation (before ++ (lives0 ++ aside)) (rest ++ x ∷ (lives ++ aside'))
  from = subst (IsPermutation (before ++ (lives0 ++ aside))) (ap (λ (l : List Live). l ++ (lives ++ aside')) popped ∙ append_assoc rest (x ∷ []) (lives ++ aside')) p.same

  -- the last of those that wait goes on
  pub part_going : (new : List Live) → new ≡ lives ++ x ∷ [] → IsGoing x → Parted before lives0 aside rest new aside'
  part_going new pushed going =
      let m : IsPermutation (x ∷ lives) (lives ++ x ∷ []) = IsPermutation-sym (lives ++ x ∷ []) (x ∷ lives) (IsPermutation-to_front lives x) in
      let n : IsPermutation (x ∷ (lives ++ aside')) ((lives ++ x ∷ []) ++ aside') = IsPermutation-append_left aside' (x ∷ lives) (lives ++ x ∷ []) m in
      record {
        same = subst (λ (l : List Live). IsPermutation (before ++ (lives0 ++ aside)) (rest ++ (l ++ aside'))) (sym pushed)
            (IsPermutation-trans (before ++ (lives0 ++ aside)) (rest ++ x ∷ (lives ++ aside')) (rest ++ ((lives ++ x ∷ []) ++ aside')) from (IsPermutation-append_right rest (x ∷ (lives ++
            aside')) ((lives ++ x ∷ []) ++ aside') n));
        going = λ h. subst (All IsGoing) (sym pushed) (All-push IsGoing lives x (p.going h) going);
        ended = p.ended;
      }

  -- or is laid aside
  pub part_aside : (new : List Live) → new ≡ aside' ++ x ∷ [] → HasEnded x → Parted before lives0 aside rest lives new
  part_aside new pushed over =
      let m : IsPermutation (x ∷ (lives ++ aside')) ((lives ++ aside') ++ x ∷ []) = IsPermutation-sym ((lives ++ aside') ++ x ∷ []) (x ∷ (lives ++ aside')) (IsPermutation-to_front (lives ++
      aside') x) in
      let n : IsPermutation (x ∷ (lives ++ aside')) (lives ++ (aside' ++ x ∷ [])) = subst (IsPermutation (x ∷ (lives ++ aside'))) (append_assoc lives aside' (x ∷ [])) m in
      record {
        same = subst (λ (l : List Live). IsPermutation (before ++ (lives0 ++ aside)) (rest ++ (lives ++ l))) (sym pushed)
            (IsPermutation-trans (before ++ (lives0 ++ aside)) (rest ++ x ∷ (lives ++ aside')) (rest ++ (lives ++ (aside' ++ x ∷ []))) from (IsPermutation-append_right rest (x ∷ (lives ++
            aside')) (lives ++ (aside' ++ x ∷ [])) n));
        going = p.going;
        ended = λ h. subst (All HasEnded) (sym pushed) (All-push HasEnded aside' x (p.ended h) over);
      }

pub parted_init : (before lives aside : List Live) → Parted before lives aside before lives aside
parted_init before lives aside = record { same = IsPermutation-refl (before ++ (lives ++ aside)); going = λ h. h; ended = λ h. h }

pub parted_done : (before lives0 aside waiting lives aside' : List Live) → Parted before lives0 aside waiting lives aside' → length waiting ≡ 0 → Parted before lives0 aside [] lives aside'
parted_done before lives0 aside [] lives aside' p none = p
parted_done before lives0 aside (x ∷ xs) lives aside' p none = absurd (omega arith)

-- ---- the workers' answers

outs_ok : (rest : List Answer) (v : Vec Live Global) → outs_of (rest ++ Ok v ∷ []) ≡ outs_of rest ++ v.items
outs_ok [] v = append-nil v.items
outs_ok (Ok w ∷ rs) v = ap (λ (l : List Live). w.items ++ l) (outs_ok rs v) ∙ sym (append_assoc w.items (outs_of rs) v.items)
outs_ok (Err e ∷ rs) v = outs_ok rs v

more_ok : (rest : List Answer) (v : Vec Live Global) → AllOk rest → AllOk (rest ++ Ok v ∷ [])
more_ok [] v h = tt
more_ok (Ok w ∷ rs) v h = more_ok rs v h
more_ok (Err e ∷ rs) v h = absurd h

pub collected_init : (answers : List Answer) (aside : List Live) → Collected answers aside answers [] aside
collected_init answers aside = record { ok = λ h. h; same = IsPermutation-refl (outs_of answers ++ aside); going = All-nil IsGoing; ended = λ h. h }

pub collected_next : (answers waiting rest : List Answer) (v : Vec Live Global) (aside lives lives' mid aside' : List Live) → Collected answers aside waiting lives mid
    → waiting ≡ rest ++ Ok v ∷ [] → Parted v.items lives mid [] lives' aside' → Collected answers aside rest lives' aside'
collected_next answers waiting rest v aside lives lives' mid aside' c popped p =
    let all = outs_of answers ++ aside in
    let a : IsPermutation all (outs_of rest ++ (v.items ++ (lives ++ mid))) = subst (IsPermutation all) (ap (λ (r : List Answer). outs_of r ++ (lives ++ mid)) popped
    ∙ ap (λ (l : List Live). l ++ (lives ++ mid)) (outs_ok rest v) ∙ append_assoc (outs_of rest) v.items (lives ++ mid)) c.same in
    record {
      ok = λ h. c.ok (subst AllOk (sym popped) (more_ok rest v h));
      same = IsPermutation-trans all (outs_of rest ++ (v.items ++ (lives ++ mid))) (outs_of rest ++ (lives' ++ aside')) a (IsPermutation-append_right (outs_of rest) (v.items ++ (lives ++
          mid)) (lives' ++ aside') p.same);
      going = p.going c.going;
      ended = λ h. p.ended (c.ended h);
    }

pub collected_done : (answers waiting : List Answer) (aside lives aside' : List Live) → Collected answers aside waiting lives aside' → length waiting ≡ 0 → Collected answers aside [] lives aside'
collected_done answers [] aside lives aside' c none = c
collected_done answers (r ∷ rs) aside lives aside' c none = absurd (omega arith)

-- ---- all turns of a round

module _ (place : Place) where
  pub zip_turns : (bins : List Bin) (rs : List Answer) → length rs ≡ length bins → ((i : ℕ) (b : Bin) (r : Answer) → i < length bins
      → IfOk (get_or rs i r) (λ out. Turned place (get_or bins i b).lives.items out.items)) → AllZip (AnswersBin place) bins rs
  zip_turns [] [] e each = tt
  zip_turns [] (r ∷ rs) e each = absurd (omega arith)
  zip_turns (b ∷ bins) [] e each = absurd (omega arith)
  zip_turns (b ∷ bins) (Ok v ∷ rs) e each = (each 0 b (Ok v) (omega arith), zip_turns bins rs (omega arith) (λ i c r lt. each (suc i) c r (omega arith)))
  zip_turns (b ∷ bins) (Err x ∷ rs) e each = (tt, zip_turns bins rs (omega arith) (λ i c r lt. each (suc i) c r (omega arith)))

  turned_lives : (bins : List Bin) (rs : List Answer) → AllZip (AnswersBin place) bins rs → AllOk rs → All (IsLive place) (outs_of rs)
  turned_lives [] [] h ok = All-nil (IsLive place)
  turned_lives [] (r ∷ rs) h ok = absurd h
  turned_lives (b ∷ bins) [] h ok = absurd h
  turned_lives (b ∷ bins) (Err x ∷ rs) h ok = absurd ok
  turned_lives (b ∷ bins) (Ok v ∷ rs) h ok = let t = h.0 in All-append (IsLive place) v.items (outs_of rs) t.lives (turned_lives bins rs h.1 ok)

  turned_all : (bins : List Bin) (rs : List Answer) → AllZip (AnswersBin place) bins rs → AllOk rs → Goes place.job (length (spread bins)) (spread bins) (outs_of rs)
  turned_all [] [] h ok = goes_none place.job []
  turned_all [] (r ∷ rs) h ok = absurd h
  turned_all (b ∷ bins) [] h ok = absurd h
  turned_all (b ∷ bins) (Err x ∷ rs) h ok = absurd ok
  turned_all (b ∷ bins) (Ok v ∷ rs) h ok =
      let t = h.0 in
      let l = length-append b.lives.items (spread bins) in
      goes_less place.job (length (spread (b ∷ bins))) (length b.lives.items + length (spread bins)) (spread (b ∷ bins)) (outs_of (Ok v ∷ rs)) (omega arith)
      (goes_beside place.job (length b.lives.items) (length (spread bins)) b.lives.items v.items (spread bins) (outs_of rs) t.goes (turned_all bins rs h.1 ok))

  -- ---- passes that go on wait for a turn, and those laid aside have ended

  pub all_ready : (xs : List Live) → All (IsLive place) xs → All IsGoing xs → All (IsReady place) xs
  all_ready [] l g = All-nil (IsReady place)
  all_ready (x ∷ xs) l g =
      let live = All-head (IsLive place) x xs l in
      let going = All-head IsGoing x xs g in
      All-cons (IsReady place) x xs
      (record { live = live; goes = going.goes; state = subst (λ job. IsCore job (own x).core) live.of.job going.state })
      (all_ready xs (All-tail (IsLive place) x xs l) (All-tail IsGoing x xs g))

  all_over : (xs : List Live) → All (IsLive place) xs → All HasEnded xs → All (IsOver place) xs
  all_over [] l e = All-nil (IsOver place)
  all_over (x ∷ xs) l e =
      All-cons (IsOver place) x xs (record { live = All-head (IsLive place) x xs l; over = All-head HasEnded x xs e }) (all_over xs (All-tail (IsLive place) x xs l) (All-tail HasEnded x xs e))

  pub over_lives : (xs : List Live) → All (IsOver place) xs → All (IsLive place) xs
  over_lives [] h = All-nil (IsLive place)
  over_lives (x ∷ xs) h = let o = All-head (IsOver place) x xs h in All-cons (IsLive place) x xs o.live (over_lives xs (All-tail (IsOver place) x xs h))

  over_ended : (xs : List Live) → All (IsOver place) xs → All HasEnded xs
  over_ended [] h = All-nil HasEnded
  over_ended (x ∷ xs) h = let o = All-head (IsOver place) x xs h in All-cons HasEnded x xs o.over (over_ended xs (All-tail (IsOver place) x xs h))

  pub settled : (k : ℕ) (before all lives ended : List Live) → All (IsLive place) all → IsPermutation all (lives ++ ended) → All IsGoing lives → All HasEnded ended
      → Goes place.job k before all → Settled place k before lives ended
  settled k before all lives ended here same going over goes =
      let parts = all_apart (IsLive place) lives ended (All-permutation (IsLive place) all (lives ++ ended) same here) in
      record {
        ready = all_ready lives parts.0 going;
        over = all_over ended parts.1 over;
        goes = goes_as place.job k before before all (lives ++ ended) (IsPermutation-refl before) same goes;
      }

  pub round_settled : (xs aside : List Live) (bins : List Bin) (rs : List Answer) (lives ended : List Live) → IsPermutation xs (spread bins) → AllZip (AnswersBin place) bins rs
      → All (IsOver place) aside → Collected rs aside [] lives ended → Settled place (length xs) (xs ++ aside) lives ended
  round_settled xs aside bins rs lives ended dealt turned over c =
      let ok = c.ok tt in
      let n = length (spread bins) in
      let len = length_permutation xs (spread bins) dealt in
      let all = turned_all bins rs turned ok in
      let out = goes_as place.job n (spread bins) xs (outs_of rs) (outs_of rs) dealt (IsPermutation-refl (outs_of rs)) all in
      let beside = goes_beside place.job n 0 xs (outs_of rs) aside aside out (goes_none place.job aside) in
      settled (length xs) (xs ++ aside) (outs_of rs ++ aside) lives ended
      (All-append (IsLive place) (outs_of rs) aside (turned_lives bins rs turned ok) (over_lives aside over))
      c.same c.going (c.ended (over_ended aside over))
      (goes_less place.job (length xs) (n + 0) (xs ++ aside) (outs_of rs ++ aside) (omega arith) beside)

  -- ---- the first pass

  pub first_live : (pass : Standing) (job : JobData) → IsOf place pass → pass.view ≡ first_view job → IsLive place (record { pass = pass; records = [] })
  first_live pass job of is = record {
    of = of;
    threads = ap (λ (v : Held). v.threads) is ∙ ap (λ (t : Thread). t ∷ []) (sym (ap (λ (v : Held). first_of v.threads) is));
    born = ap (λ (v : Held). v.born) is;
    trace = sym (ap (λ (v : Held). (first_of v.threads).trace) is);
  }

  pub start_settled : (x : Live) (lives ended : List Live) → IsLive place x → Parted (x ∷ []) [] [] [] lives ended → Settled place 0 (x ∷ []) lives ended
  start_settled x lives ended here p =
      settled 0 (x ∷ []) (x ∷ []) lives ended (All-cons (IsLive place) x [] here (All-nil (IsLive place))) p.same (p.going (All-nil IsGoing)) (p.ended (All-nil HasEnded)) (goes_none
      place.job (x ∷ []))
