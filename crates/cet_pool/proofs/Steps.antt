-- What one access leaves, and what more of them do. Source: own.
use Rattle.std.proofs.Common.{◌≡◌, ◌⊎◌, inl, inr, ⊎_elim, ℕ, suc, ◌+◌, ◌-◌, ◌*◌, ◌^◌, ◌<◌, ◌≤◌, List}
use Rattle.std.proofs.Common.{[], ◌∷◌, ◌++◌, Option, Some, None, refl, sym, ap, ◌∙◌, subst, arith, append-nil, append_assoc, eq-eqb}
use Rattle.std.specs.Prelude.{cond, false, is_some}
use Rattle.std.specs.List.Sorted.{IsPermutation}
use Rattle.std.proofs.lemmas.List.Elements.{All-nil, All-cons, All-append}
use Rattle.std.proofs.lemmas.List.Sorted.{IsPermutation-append_comm, IsPermutation-cons}
use Rattle.std.proofs.lemmas.List.Sums.{sum_by-cons}
use Rattle.std.proofs.Math.Nat.{pow-succ', mul-le-mul_right}
use Rattle.cet_words.specs.Job.{JobData}
use Rattle.cet_words.specs.Layout.{thread_limit}
use Rattle.cet_isa.specs.declared.threads.Arch.{Arch}
use Rattle.cet_isa.specs.declared.threads.End.{End}
use Rattle.cet_isa.specs.declared.threads.Record.{Record}
use Rattle.cet_cpu.specs.Cpu.{CpuData, IsCpu}
use Rattle.cet_cpu.specs.declared.threads.Taken.{Taken}
use Rattle.cet_page.specs.Core.{Core, After, answered, born, child_core, next_access, row_played, taken}
use Rattle.cet_page.specs.Left.{left_of}
use Rattle.cet_page.specs.Machine.{Thread, thread_after, traced}
use Rattle.cet_page.specs.Numbered.{IsBearing, Names, TellsOf, TellsOn, borne_in}
use Rattle.cet_page.specs.Script.{Played, Completed, Faulted, Wants, birth}
use Rattle.cet_page.specs.Trail.{row_trail, trail_of}
use Rattle.cet_page.specs.ValsData.{no_vals}
use Rattle.cet_page.specs.Within.{CoreAt, IsCore}
use Rattle.cet_page.specs.declared.finishes.Finish.{Finish}
use Rattle.cet_page.proofs.NumberLaws.{accesses_run_out, number_taken}
use Rattle.cet_own.proofs.Naming.{births_told}
use Rattle.cet_shared.specs.Held.{Held, IsOf, Place, alone, first_of, newborn, new_thread, rest_of, without, without_child}
use Rattle.cet_shared.specs.Performed.{Performs, left_by, told_by}
use Rattle.cet_pool.specs.declared.lives.Live.{Live}
use Rattle.cet_pool.specs.Going.{Accessed, Goes, IsLive, IsReady, Numbers, OfOne, Tells, Went, left_at, most_left, own, weight}
use Rattle.cet_pool.proofs.Goings.{goes_beside, goes_less, goes_moved, goes_none, goes_then, one_append, one_here, one_is, one_left, one_right, pow_above, pow_up, weigh_one}

-- ---- a child

born_fresh : (arch : Arch) (b : Option (ℕ × ℕ)) (core : Core) → born arch b ≡ Some core → core.vals ≡ no_vals
born_fresh arch None core e = absurd (cc)
born_fresh arch (Some b) core e = let f : child_core arch b.0 b.1 ≡ core = cc in ap (λ (c : Core). c.vals) (sym f)

answered_fresh : (job : JobData) (core : Core) (answer : ℕ) (came : Played Finish) (child : Core) → (answered job core answer came).child ≡ Some child → child.vals ≡ no_vals
answered_fresh job core answer (Wants a changes) child e = born_fresh core.arch (birth (changes answer)) child e
answered_fresh job core answer (Faulted f) child e = absurd (cc)
answered_fresh job core answer (Completed x left values) child e = absurd (cc)

-- it has made no access
child_fresh : (job : JobData) (core : Core) (answer : ℕ) (child : Core) → (taken job core answer).child ≡ Some child → child.vals ≡ no_vals
unfolding taken
child_fresh job core answer child e = answered_fresh job core answer (row_played job core.arch core.vals) child e

-- a thread without records that has made no access tells of nobody
pub tells_nobody : (job : JobData) (x : Thread) (n : ℕ) → x.trace ≡ [] → x.core.vals ≡ no_vals → TellsOf job x n → ⊥
tells_nobody job x n empty fresh t = ⊎_elim
    (λ (a : Names n x.trace). let b : Names n [] = subst (Names n) empty a in absurd b)
    (λ (b : IsBearing job x.core n).
    let none : borne_in (trail_of job x.core) ≡ None = ap (λ seen. borne_in (row_trail job x.core.arch seen)) fresh in
    let some = b.borne in
    absurd (cc))
    t

core_number : (job : JobData) (core : Core) (over : Option End) → CoreAt job core over → core.arch.number < thread_limit
core_number job core None h = h.state.number
core_number job core (Some e) h = h.state.number

-- ---- the weight

module _ (job : JobData) (core : Core) (answer : ℕ) (is : IsCore job core) (goes : core.over ≡ None) where
  abbrev moved_on : Core
  moved_on = (taken job core answer).core

  abbrev base : ℕ
  base = most_left job + 1

  less : left_of job moved_on moved_on.over < left_of job core core.over
  less = accesses_run_out.falls job core answer is goes

  weight_one : (l l' s : ℕ) → l' < l → 0 < s → l' * s + 1 ≤ l * s
  weight_one l l' s lt pos = let m : suc l' * s ≤ l * s = mul-le-mul_right s (omega arith) in let e : suc l' * s ≡ l' * s + s = omega arith in omega arith

  weight_two : (l l' c most small large : ℕ) → l' < l → 0 < small → c ≤ most → (most + 1) * small ≤ large → (l' * large + c * small) + 1 ≤ l * large
  weight_two l l' c most small large lt pos le up =
      let m : suc l' * large ≤ l * large = mul-le-mul_right large (omega arith) in
      let e : suc l' * large ≡ l' * large + large = omega arith in
      let n : c * small ≤ most * small = mul-le-mul_right small le in
      omega arith

  pub weight_falls : weight job moved_on + 1 ≤ weight job core
  unfolding weight
  weight_falls =
      let same = ap (λ n. left_of job moved_on moved_on.over * base ^ (thread_limit - 1 - n)) (number_taken job core answer) in
      let w = weight_one (left_of job core core.over) (left_of job moved_on moved_on.over) (base ^ (thread_limit - 1 - core.arch.number)) less (pow_above base (thread_limit - 1 -
      core.arch.number) (omega arith)) in
      omega (arith, same, w)

  pub weight_bears : (child : Core) → IsCore job child → core.arch.number < child.arch.number → (weight job moved_on + weight job child) + 1 ≤ weight job core
  unfolding weight
  weight_bears child there above =
      let low = core_number job child child.over there in
      let small = thread_limit - 1 - child.arch.number in
      let large = thread_limit - 1 - core.arch.number in
      let same = ap (λ n. left_of job moved_on moved_on.over * base ^ (thread_limit - 1 - n)) (number_taken job core answer) in
      let up : base ^ suc small ≤ base ^ large = pow_up base (suc small) large (omega arith) (omega arith) in
      let e : base ^ suc small ≡ base * base ^ small = pow-succ' base small in
      let big : (most_left job + 1) * base ^ small ≤ base ^ large = omega arith in
      let w = weight_two (left_of job core core.over) (left_of job moved_on moved_on.over) (left_of job child child.over) (most_left job) (base ^ small) (base ^ large)
      less (pow_above base small (omega arith)) (accesses_run_out.most job child) big in
      omega (arith, same, w)

-- ---- one access

module _ (job : JobData) (x x' : Live) (answer : ℕ) (is : IsCore job (own x).core) (goes : (own x).core.over ≡ None) (next : own x' ≡ thread_after (own x) (taken job (own x).core answer)) where
  numbered : (own x').core.arch.number ≡ (own x).core.arch.number
  numbered = ap (λ (t : Thread). t.core.arch.number) next ∙ number_taken job (own x).core answer

  core_is : (own x').core ≡ (taken job (own x).core answer).core
  core_is = ap (λ (t : Thread). t.core) next

  told_on : TellsOn job (own x) (own x') (taken job (own x).core answer).child
  told_on = subst (λ (t : Thread). TellsOn job (own x) t (taken job (own x).core answer).child) (sym next) (births_told job (own x) answer is goes)

  stays : (n : ℕ) → OfOne (Numbers n) (x ∷ []) → OfOne (Numbers n) (x' ∷ [])
  stays n h = one_here (Numbers n) x' (numbered ∙ one_is (Numbers n) x h)

  pub goes_alone : (taken job (own x).core answer).child ≡ None → Goes job 1 (x ∷ []) (x' ∷ [])
  goes_alone none = record {
    kept = stays;
    told = λ n h. ⊎_elim
        (λ (a : TellsOf job (own x) n). inl (one_here (Tells job n) x a))
        (λ (b : (core : Core) × ((taken job (own x).core answer).child ≡ Some core) × (core.arch.number ≡ n)). let e = b.1 in absurd (cc))
        (told_on.only n (one_is (Tells job n) x' h));
    falls =
        (let w = weight_falls job (own x).core answer is goes in
        let e = ap (weight job) core_is in
        omega (arith, sum_by-cons (weigh_one job) x' [], sum_by-cons (weigh_one job) x []));
  }

  module _ (child : Core) (kid : Live) (bears : (taken job (own x).core answer).child ≡ Some child) (young : own kid ≡ new_thread child) (there : IsCore job child) (above : (own
      x).core.arch.number < child.arch.number) where
    kid_numbered : (own kid).core.arch.number ≡ child.arch.number
    kid_numbered = ap (λ (t : Thread). t.core.arch.number) young

    kid_silent : (n : ℕ) → TellsOf job (own kid) n → ⊥
    kid_silent n t = tells_nobody job (own kid) n (ap (λ (t : Thread). t.trace) young) (ap (λ (t : Thread). t.core.vals) young ∙ child_fresh job (own x).core answer child bears) t

    told_of : (n : ℕ) → TellsOf job (own x') n → OfOne (Tells job n) (x ∷ []) ⊎ OfOne (Numbers n) (x' ∷ kid ∷ [])
    told_of n t = ⊎_elim
        (λ (a : TellsOf job (own x) n). inl (one_here (Tells job n) x a))
        (λ (b : (core : Core) × ((taken job (own x).core answer).child ≡ Some core) × (core.arch.number ≡ n)).
        let some : Some child ≡ Some b.0 = sym bears ∙ b.1 in
        let same : child ≡ b.0 = cc in
        inr (one_right (Numbers n) (x' ∷ []) (kid ∷ []) (one_here (Numbers n) kid (kid_numbered ∙ ap (λ (c : Core). c.arch.number) same ∙ b.2))))
        (told_on.only n t)

    pub goes_bears : Goes job 1 (x ∷ []) (x' ∷ kid ∷ [])
    goes_bears = record {
      kept = λ n h. one_left (Numbers n) (x' ∷ []) (kid ∷ []) (stays n h);
      told = λ n h. ⊎_elim
          (λ (a : OfOne (Tells job n) (x' ∷ [])). told_of n (one_is (Tells job n) x' a))
          (λ (b : OfOne (Tells job n) (kid ∷ [])). absurd (kid_silent n (one_is (Tells job n) kid b)))
          (one_append (Tells job n) (x' ∷ []) (kid ∷ []) h);
      falls =
          (let w = weight_bears job (own x).core answer is goes child there above in
          let e = ap (weight job) core_is in
          let f = ap (λ (t : Thread). weight job t.core) young in
          omega (arith, sum_by-cons (weigh_one job) x' (kid ∷ []), sum_by-cons (weigh_one job) kid [], sum_by-cons (weigh_one job) x []));
    }

-- ---- a step of a pass

alone_out : (x : Thread) → without x.core.arch.number (x ∷ []) ≡ []
alone_out x = ap (λ b. cond b [] (x ∷ [])) (eq-eqb x.core.arch.number x.core.arch.number refl)

module _ (place : Place) (before mid : Live) (old : List Live) (ready : IsReady place before) where
  -- the thread that the access leaves
  abbrev left : (child : Option CpuData) → Accessed place before mid child → Thread
  left child a = thread_after (own before) (left_at place.job before a.found)

  own_left : (child : Option CpuData) → (a : Accessed place before mid child) → own mid ≡ left child a
  own_left child a = ap first_of a.threads

  pub went_none : Accessed place before mid None → Went place 1 before mid old old
  went_none a =
      let same = own_left None a in
      record {
        children = [];
        added = sym (append-nil old);
        lives = All-nil (IsLive place);
        itself = record {
          of = a.of;
          threads = a.threads ∙ ap (λ (t : Thread). t ∷ []) (sym same);
          born = a.born ∙ ap newborn (sym a.bears);
          trace = a.trace
              ∙ ap (λ (t : Thread). t.trace) (sym same);
        };
        goes = goes_alone place.job before mid (told_by (next_access place.job (own before).core) a.found) ready.state ready.goes same (sym a.bears);
      }

  -- the same where a test tells that no child was born
  pub went_childless : (child : Option CpuData) → is_some child ≡ false → Accessed place before mid child → Went place 1 before mid old old
  went_childless None e a = went_none a
  went_childless (Some cpu) e a = absurd (cc)

  pub went_some : (child : CpuData) (after kid : Live) (a : Accessed place before mid (Some child)) → IsOf place after.pass
      → after.pass.view ≡ without_child child.core.arch.number mid.pass.view → after.records ≡ mid.records
      → IsOf place kid.pass → kid.pass.view ≡ alone place.job (new_thread child.core) → kid.records ≡ [] → IsCpu place.job child → Went place 1 before after old (old ++ kid ∷ [])
  went_some child after kid a after_of after_is after_records kid_of kid_is kid_records cpu =
      let same : own after ≡ left (Some child) a = ap (λ (v : Held). first_of v.threads) after_is ∙ own_left (Some child) a in
      let young : own kid ≡ new_thread child.core = ap (λ (v : Held). first_of v.threads) kid_is in
      let born_is : mid.pass.view.born ≡ new_thread child.core ∷ [] = a.born ∙ ap newborn (sym a.bears) in
      record {
        children = kid ∷ [];
        added = refl;
        lives = All-cons (IsLive place) kid [] (record {
          of = kid_of;
          threads = ap (λ (v : Held). v.threads) kid_is ∙ ap (λ (t : Thread). t ∷ []) (sym young);
          born = ap (λ (v : Held). v.born) kid_is;
          trace = kid_records ∙ ap (λ (t : Thread). t.trace) (sym young);
        }) (All-nil (IsLive place));
        itself = record {
          of = after_of;
          threads = ap (λ (v : Held). v.threads) after_is ∙ a.threads ∙ ap (λ (t : Thread). t ∷ []) (sym same);
          born = ap (λ (v : Held). v.born) after_is ∙ ap (without child.core.arch.number) born_is ∙ alone_out (new_thread child.core);
          trace = after_records ∙ a.trace ∙ ap (λ (t : Thread). t.trace) (sym same);
        };
        goes = goes_bears place.job before after (told_by (next_access place.job (own before).core) a.found) ready.state ready.goes same child.core kid (sym a.bears) young cpu.state
            (a.above child.core (sym a.bears));
      }

-- what an access tells of a pass's only thread, and its records
pub accessed : (place : Place) (before after : Live) (answer : Taken) → IsLive place before → Performs before.pass.view after.pass.view answer → IsOf place after.pass
    → after.records ≡ traced before.records answer.noted → Accessed place before after answer.child
accessed place before after answer live p of records =
    let left_is : left_by before.pass.view.job (own before).core p.found ≡ left_at place.job before p.found = ap (λ (j : JobData). left_by j (own before).core p.found) live.of.job in
    let m = p.moves in
    record {
      found = p.found;
      of = of;
      threads = ap (λ (v : Held). v.threads) m.view ∙ ap (λ (l : After). thread_after (own before) l ∷ rest_of before.pass.view.threads) left_is
          ∙ ap (λ (l : List Thread). thread_after (own before) (left_at place.job before p.found) ∷ rest_of l) live.threads;
      born = ap (λ (v : Held). v.born) m.view ∙ ap (λ (l : After). newborn l.child ++ before.pass.view.born) left_is
          ∙ ap (λ (l : List Thread). newborn (left_at place.job before p.found).child ++ l) live.born ∙ append-nil (newborn (left_at place.job before p.found).child);
      trace = records ∙ ap (λ (t : List Record). traced t answer.noted) live.trace ∙ ap (traced (own before).trace) p.noted ∙ ap (λ (l : After). traced (own before).trace l.noted) left_is;
      bears = p.child ∙ ap (λ (l : After). l.child) left_is;
      above = λ core e. m.above core (ap (λ (l : After). l.child) left_is ∙ e);
    }

-- ---- more steps

module _ (place : Place) (j k : ℕ) (a b c : Live) (old mid new : List Live) where
  pub went_more : Went place j a b old mid → Went place k b c mid new → Went place (j + k) a c old new
  went_more f g = record {
    children = f.children ++ g.children;
    added = g.added ∙ ap (λ (l : List Live). l ++ g.children) f.added ∙ append_assoc old f.children g.children;
    lives = All-append (IsLive place) f.children g.children f.lives g.lives;
    itself = g.itself;
    goes =
        (let job = place.job in
        let fc = f.children in
        let gc = g.children in
        let one = goes_beside job k 0 (b ∷ []) (c ∷ gc) fc fc g.goes (goes_none job fc) in
        let m : IsPermutation (c ∷ (gc ++ fc)) (c ∷ (fc ++ gc)) = IsPermutation-cons c (gc ++ fc) (fc ++ gc) (IsPermutation-append_comm gc fc) in
        let two = goes_then job (k + 0) 0 (b ∷ fc) (c ∷ (gc ++ fc)) (c ∷ (fc ++ gc)) one (goes_moved job (c ∷ (gc ++ fc)) (c ∷ (fc ++ gc)) m) in
        goes_less job (j + k) (j + ((k + 0) + 0)) (a ∷ []) (c ∷ (fc ++ gc)) (omega arith) (goes_then job j ((k + 0) + 0) (a ∷ []) (b ∷ fc) (c ∷ (fc ++ gc)) f.goes two));
  }

pub went_next : (place : Place) (a b c : Live) (old mid new : List Live) → Went place 1 a b old mid → Went place 1 b c mid new → Went place 1 a c old new
went_next place a b c old mid new f g =
    let h = went_more place 1 1 a b c old mid new f g in
    record { children = h.children; added = h.added; lives = h.lives; itself = h.itself; goes = goes_less place.job 1 (1 + 1) (a ∷ []) (c ∷ h.children) (omega arith) h.goes }
