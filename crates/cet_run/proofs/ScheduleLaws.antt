-- A stated schedule is one list of turns, after which every thread has ended.
use Rattle.std.proofs.Common.{◌≡◌, ℕ, ◌+◌, cond, List, [], ◌∷◌, ◌++◌, drop, Option, Some, None, refl, sym, ap, ◌∙◌, subst}
use Rattle.std.specs.Prelude.{All, IsSome}
use Rattle.std.specs.Option.{option_or}
use Rattle.std.proofs.lemmas.List.Elements.{All-cons, All-nil}
use Rattle.cet_words.specs.Job.{JobData}
use Rattle.cet_isa.specs.declared.threads.End.{End}
use Rattle.cet_page.specs.Machine.{Machine, Thread, run, step}
use Rattle.cet_run.specs.Schedule.{IsComplete, IsFull, IsMix, IsRobin, after_last, first_live, goes_on, live_from, mix_turn, mixed, next_turn}

-- ---- every thread has ended

abbrev HasEnded : Thread → Type 0
HasEnded thread = IsSome thread.core.over

ended_by : (thread : Thread) (threads : List Thread) (n : ℕ) (over : Option End) → thread.core.over ≡ over → cond (goes_on over) (Some n) (first_live threads (n + 1)) ≡ None →
    HasEnded thread × (first_live threads (n + 1) ≡ None)
ended_by thread threads n None q e = cc
ended_by thread threads n (Some x) q e = (subst IsSome (sym q) refl, e)

none_live : (threads : List Thread) (n : ℕ) → first_live threads n ≡ None → All HasEnded threads
none_live [] n e = All-nil HasEnded
none_live (thread ∷ threads) n e =
    let h = ended_by thread threads n thread.core.over refl e in
    All-cons HasEnded thread threads h.0 (none_live threads (n + 1) h.1)

second_none : (a b : Option ℕ) → option_or a b ≡ None → b ≡ None
second_none None b e = e
second_none (Some n) b e = cc

next_none : (threads : List Thread) (last : Option ℕ) → next_turn threads last ≡ None → All HasEnded threads
next_none threads last e = none_live threads 0 (second_none (first_live (drop (after_last last) threads) (after_last last)) (first_live threads 0) e)

pub robin_complete : (job : JobData) (m : Machine) (last : Option ℕ) (turns : List ℕ) → IsRobin job m last turns → IsComplete (run job m turns)
robin_complete job m last [] r = next_none m.threads last r
robin_complete job m last (t ∷ ts) r = robin_complete job (step job m t) (Some t) ts r.1

run_on : (job : JobData) (m : Machine) (xs ys : List ℕ) → run job m (xs ++ ys) ≡ run job (run job m xs) ys
run_on job m [] ys = refl
run_on job m (x ∷ xs) ys = run_on job (step job m x) xs ys

pub full_complete : (job : JobData) (m : Machine) (given turns : List ℕ) → IsFull job m given turns → IsComplete (run job m turns)
full_complete job m given turns f =
    subst IsComplete (sym (ap (run job m) f.whole ∙ run_on job m given f.rest)) (robin_complete job (run job m given) None f.rest f.robin)

dead_by : (thread : Thread) (threads : List Thread) (n : ℕ) (over : Option End) → thread.core.over ≡ over → cond (goes_on over) (n ∷ live_from threads (n + 1)) (live_from threads (n + 1)) ≡ [] →
    HasEnded thread × (live_from threads (n + 1) ≡ [])
dead_by thread threads n None q e = cc
dead_by thread threads n (Some x) q e = (subst IsSome (sym q) refl, e)

all_dead : (threads : List Thread) (n : ℕ) → live_from threads n ≡ [] → All HasEnded threads
all_dead [] n e = All-nil HasEnded
all_dead (thread ∷ threads) n e =
    let h = dead_by thread threads n thread.core.over refl e in
    All-cons HasEnded thread threads h.0 (all_dead threads (n + 1) h.1)

pub mix_complete : (job : JobData) (m : Machine) (x : ℕ) (turns : List ℕ) → IsMix job m x turns → IsComplete (run job m turns)
mix_complete job m x [] r = all_dead m.threads 0 r
mix_complete job m x (t ∷ ts) r = mix_complete job (step job m t) (mixed x) ts r.1

-- ---- one list of turns

pub robin_same : (job : JobData) (m : Machine) (last : Option ℕ) (xs ys : List ℕ) → IsRobin job m last xs → IsRobin job m last ys → xs ≡ ys
robin_same job m last [] [] r s = refl
robin_same job m last [] (y ∷ ys) r s = (let never : None ≡ Some y = sym r ∙ s.0 in cc)
robin_same job m last (x ∷ xs) [] r s = (let never : None ≡ Some x = sym s ∙ r.0 in cc)
robin_same job m last (x ∷ xs) (y ∷ ys) r s =
    let one : Some x ≡ Some y = sym r.0 ∙ s.0 in
    let same : x ≡ y = cc in
    let rest : IsRobin job (step job m x) (Some x) ys = subst (λ n. IsRobin job (step job m n) (Some n) ys) (sym same) s.1 in
    let more : xs ≡ ys = robin_same job (step job m x) (Some x) xs ys r.1 rest in
    cc

pub full_same : (job : JobData) (m : Machine) (given xs ys : List ℕ) → IsFull job m given xs → IsFull job m given ys → xs ≡ ys
full_same job m given xs ys f g =
    f.whole ∙ ap (λ (l : List ℕ). given ++ l) (robin_same job (run job m given) None f.rest g.rest f.robin g.robin) ∙ sym g.whole

no_turn : (live : List ℕ) (x t : ℕ) → live ≡ [] → mix_turn live x ≡ Some t → ⊥
no_turn [] x t e f = cc
no_turn (n ∷ ns) x t e f = cc

pub mix_same : (job : JobData) (m : Machine) (x : ℕ) (xs ys : List ℕ) → IsMix job m x xs → IsMix job m x ys → xs ≡ ys
mix_same job m x [] [] r s = refl
mix_same job m x [] (t ∷ ts) r s = absurd (no_turn (live_from m.threads 0) (mixed x) t r s.0)
mix_same job m x (t ∷ ts) [] r s = absurd (no_turn (live_from m.threads 0) (mixed x) t s r.0)
mix_same job m x (t ∷ ts) (u ∷ us) r s =
    let one : Some t ≡ Some u = sym r.0 ∙ s.0 in
    let same : t ≡ u = cc in
    let rest : IsMix job (step job m t) (mixed x) us = subst (λ n. IsMix job (step job m n) (mixed x) us) (sym same) s.1 in
    let more : ts ≡ us = mix_same job (step job m t) (mixed x) ts us r.1 rest in
    cc
