-- One turn, and runs of turns.
use Rattle.std.proofs.Common.{◌≡◌, ℕ, ◌+◌, ◌*◌, ◌-◌, ◌<◌, ◌≤◌, List, [], ◌∷◌, ◌++◌, length, take, Option, Some, None, arith, refl, ap, sym, ◌∙◌, subst, get_or}
use Rattle.std.specs.Prelude.{IsSome, IfSome, option_map, slice_get, slice_set, sum_by}
use Rattle.std.proofs.lemmas.List.Sums.{sum_by-append, sum_by-set}
use Rattle.std.proofs.lemmas.List.{append-nil, get_or_append_left, take_more, map-append, map-set, length-append, length-map, length-set, set-append_left}
use Rattle.std.proofs.lemmas.List.Elements.{All-append, All-cons, All-nil}
use Rattle.std.proofs.lemmas.Option.{get_or_from_slice_get, slice_get-map, slice_get_read, slice_get_within}
use Rattle.cet_words.specs.Access.{answer, after}
use Rattle.cet_words.specs.declared.accesses.Access.{Access}
use Rattle.cet_words.specs.Job.{JobData}
use Rattle.cet_isa.specs.declared.threads.Arch.{Arch}
use Rattle.cet_isa.specs.declared.threads.End.{End}
use Rattle.cet_book.specs.Book.{Book, first_book}
use Rattle.cet_page.specs.Core.{Core, access_of, answered, born, child_core, next_access, row_played, taken}
use Rattle.cet_page.specs.Left.{left_of}
use Rattle.cet_page.proofs.LeftLaws.{falls}
use Rattle.cet_page.specs.Machine.{Machine, Thread, machine, thread_after, with_child, act, accessed, step_by, step, run}
use Rattle.cet_page.specs.Script.{Played, Completed, Faulted, Wants, birth}
use Rattle.cet_page.specs.Within.{Waits}
use Rattle.cet_page.proofs.WithinLaws.{waiting}
use Rattle.cet_page.specs.declared.finishes.Finish.{Finish}
use Rattle.cet_cpu.specs.Cpu.{CpuData, IsCpu}
use Rattle.cet_own.specs.Along.{Along}
use Rattle.cet_own.specs.Gates.{TurnTells}
use Rattle.cet_own.specs.Stands.{Stands}
use Rattle.cet_own.proofs.Run.{stands_run}
use Rattle.cet_run.specs.TracedThreads.{AllTraced, AskedAt, BoreAt, IsSetAt, TookAt, TracedThreadData, core_of, left_to, thread_of, threads_of, with_traced}
use Rattle.cet_run.specs.Turns.{IsGoing, IsStill, IsTurned, NotGoing, Reached, thread_left, whole_thread}

-- ---- one access

turn_step : (job : JobData) (words words' : List ℕ) (threads : List Thread) (t : ℕ) (thread thread' : Thread) (a : Access) (child : Option Core) → slice_get threads t ≡ Some thread →
    next_access job thread.core ≡ Some a → words' ≡ after words a → thread' ≡ thread_after thread (taken job thread.core (answer words a)) → child ≡ (taken job thread.core (answer words a)).child →
    machine words' (with_child (slice_set threads t thread') child) ≡ step job (machine words threads) t
unfolding step
turn_step job words words' threads t thread thread' a child i n w e c =
    let made : machine words' (with_child (slice_set threads t thread') child) ≡ accessed job (machine words threads) t thread a = rw (w, e, c) refl in
    made ∙ sym (ap (step_by job (machine words threads) t) i ∙ ap (act job (machine words threads) t thread) n)

turn_falls : (job : JobData) (threads : List Thread) (t value : ℕ) (thread thread' : Thread) → t < length threads → slice_get threads t ≡ Some thread → Waits job thread.core →
    thread.core.over ≡ None → thread' ≡ thread_after thread (taken job thread.core value) → sum_by (thread_left job) (slice_set threads t thread') < sum_by (thread_left job) threads
turn_falls job threads t value thread thread' l i h o e =
    let f : thread_left job thread' < thread_left job thread = subst (λ x. thread_left job x < thread_left job thread) (sym e) (falls job thread.core value h o) in
    let s = sum_by-set (thread_left job) threads t thread' thread l in
    let r : thread_left job (get_or threads t thread) ≡ thread_left job thread = ap (thread_left job) (get_or_from_slice_get threads t thread thread i) in
    omega arith

-- a child is live
born_lives : (arch : Arch) (child : Option (ℕ × ℕ)) (core : Core) → born arch child ≡ Some core → core.over ≡ None
born_lives arch None core e = cc
born_lives arch (Some b) core e = (let is : child_core arch b.0 b.1 ≡ core = cc in ap (λ (c : Core). c.over) (sym is))

child_lives : (job : JobData) (core child : Core) (answer : ℕ) (r : Played Finish) → (answered job core answer r).child ≡ Some child → child.over ≡ None
child_lives job core child answer (Wants a changes) e = born_lives core.arch (birth (changes answer)) child e
child_lives job core child answer (Faulted f) e = cc
child_lives job core child answer (Completed x left values) e = cc

pub born_live : (job : JobData) (core : Core) (answer : ℕ) (cpu : CpuData) → core_of (Some cpu) ≡ (taken job core answer).child → cpu.core.over ≡ None
unfolding taken
born_live job core answer cpu e = child_lives job core cpu.core answer (row_played job core.arch core.vals) (sym e)

-- ---- a turn of a thread that isn't live

ended_access : (job : JobData) (core : Core) (over : Option End) → IsSome over → access_of job core over ≡ None
ended_access job core None h = cc
ended_access job core (Some e) h = refl

no_access : (job : JobData) (core : Core) → IsSome core.over → next_access job core ≡ None
unfolding next_access
no_access job core h = ended_access job core core.over h

still_by : (job : JobData) (m : Machine) (t : ℕ) (o : Option Thread) → NotGoing o → step_by job m t o ≡ m
still_by job m t None h = refl
still_by job m t (Some thread) h = ap (act job m t thread) (no_access job thread.core h)

pub still : (job : JobData) (m : Machine) (t : ℕ) → IsStill m.threads t → m ≡ step job m t
unfolding step
still job m t h = sym (still_by job m t (slice_get m.threads t) h)

-- ---- runs

pub run_append : (job : JobData) (m : Machine) (xs ys : List ℕ) → run job m (xs ++ ys) ≡ run job (run job m xs) ys
run_append job m [] ys = refl
run_append job m (x ∷ xs) ys = run_append job (step job m x) xs ys

-- a moment later
pub reached_step : (job : JobData) (m m' : Machine) (t : ℕ) → Reached job m → m' ≡ step job m t → Reached job m'
reached_step job m m' t r e = record {
  is_job = r.is_job;
  start = r.start;
  starts = r.starts;
  turns = r.turns ++ t ∷ [];
  ran = run_append job r.start r.turns (t ∷ []) ∙ ap (λ x. step job x t) r.ran ∙ sym e;
}

pub reached_run : (job : JobData) (m m' : Machine) (ts : List ℕ) → Reached job m → m' ≡ run job m ts → Reached job m'
reached_run job m m' ts r e = record {
  is_job = r.is_job;
  start = r.start;
  starts = r.starts;
  turns = r.turns ++ ts;
  ran = run_append job r.start r.turns ts ∙ ap (λ x. run job x ts) r.ran ∙ sym e;
}

last_along : (At : Machine → Book → Type 0) (Turn : Machine → (before after : Book) → ℕ → Type 0) (job : JobData) (turns : List ℕ) (m : Machine) (b : Book) → Along At Turn job m b turns →
    (last : Book) × At (run job m turns) last
last_along At Turn job [] m b h = (b, h)
last_along At Turn job (t ∷ ts) m b h = last_along At Turn job ts (step job m t) h.1 h.4

-- no run has more than 32 threads
pub few : (job : JobData) (m : Machine) → Reached job m → length m.threads ≤ 32
few job m r =
    let stands = last_along (Stands job) (TurnTells job) job r.turns r.start first_book (stands_run job r.start r.turns r.is_job r.starts) in
    let number = stands.1.counters.number in
    let least : length (run job r.start r.turns).threads ≤ 32 = omega arith in
    subst (λ (x : Machine). length x.threads ≤ 32) r.ran least

-- ---- threads with what is kept beside them

-- the accesses that are left to these threads, at most
abbrev left_among : JobData → List TracedThreadData → ℕ
left_among job all_traced = sum_by (thread_left job) (threads_of all_traced)

thread_here : (all_traced : List TracedThreadData) (t : ℕ) (traced : TracedThreadData) → slice_get all_traced t ≡ Some traced → slice_get (threads_of all_traced) t ≡ Some (thread_of traced)
thread_here all_traced t traced i = slice_get-map thread_of all_traced t ∙ ap (option_map thread_of) i

traced_step : (job : JobData) (words words' : List ℕ) (all_traced : List TracedThreadData) (t : ℕ) (traced traced' : TracedThreadData) (a : Access) (child : Option CpuData) →
    slice_get all_traced t ≡ Some traced → next_access job traced.cpu.core ≡ Some a → words' ≡ after words a →
    thread_of traced' ≡ thread_after (thread_of traced) (taken job traced.cpu.core (answer words a)) → core_of child ≡ (taken job traced.cpu.core (answer words a)).child →
    machine words' (with_child (threads_of (slice_set all_traced t traced')) (core_of child)) ≡ step job (machine words (threads_of all_traced)) t
traced_step job words words' all_traced t traced traced' a child i n w e b =
    ap (λ threads. machine words' (with_child threads (core_of child))) (map-set thread_of all_traced t traced')
    ∙ turn_step job words words' (threads_of all_traced) t (thread_of traced) (thread_of traced') a (core_of child) (thread_here all_traced t traced i) n w e b

traced_falls : (job : JobData) (all_traced : List TracedThreadData) (t value : ℕ) (traced traced' : TracedThreadData) → t < length all_traced → slice_get all_traced t ≡ Some traced →
    IsCpu job traced.cpu → traced.cpu.core.over ≡ None → thread_of traced' ≡ thread_after (thread_of traced) (taken job traced.cpu.core value) →
    left_among job (slice_set all_traced t traced') < left_among job all_traced
traced_falls job all_traced t value traced traced' l i h o e =
    let below : t < length (threads_of all_traced) = subst (λ n. t < n) (sym (length-map all_traced thread_of)) l in
    subst (λ threads. sum_by (thread_left job) threads < left_among job all_traced) (sym (map-set thread_of all_traced t traced'))
    (turn_falls job (threads_of all_traced) t value (thread_of traced) (thread_of traced') below (thread_here all_traced t traced i) (waiting job traced.cpu.core h.state o) o e)

over_here : (all_traced : List TracedThreadData) (t : ℕ) (traced : TracedThreadData) → slice_get all_traced t ≡ Some traced → IsGoing (threads_of all_traced) t → traced.cpu.core.over ≡ None
over_here all_traced t traced i w =
    let e : thread_of traced ≡ w.0 = let h = thread_here all_traced t traced i in cc (h, w.1) in
    ap (λ (x : Thread). x.core.over) e ∙ w.2

cpu_here : (job : JobData) (all_traced : List TracedThreadData) (t : ℕ) (traced : TracedThreadData) → AllTraced job all_traced → t < length all_traced →
    slice_get all_traced t ≡ Some traced → IsCpu job traced.cpu
cpu_here job all_traced t traced a l i =
    subst (λ (x : TracedThreadData). IsCpu job x.cpu) (get_or_from_slice_get all_traced t traced traced i) (a t traced l)

-- ---- a child that comes last

child_last : (all_traced : List TracedThreadData) (child : Option CpuData) → threads_of (with_traced all_traced child) ≡ with_child (threads_of all_traced) (core_of child)
child_last all_traced None = refl
child_last all_traced (Some cpu) = map-append thread_of all_traced (record { cpu = cpu; trace = [] } ∷ [])

-- no thread has more accesses left than a whole one
most_by : (job : JobData) (core : Core) (over : Option End) → left_of job core over ≤ whole_thread job
most_by job core None = omega arith
most_by job core (Some e) = omega arith

room_less : (n whole : ℕ) → n < 32 → (32 - n) * whole ≡ (32 - (n + 1)) * whole + whole
room_less n whole l = (let k : 32 - n ≡ 32 - (n + 1) + 1 = omega arith in rw k (grind arith))

sum_last : (f : Thread → ℕ) (xs : List Thread) (x : Thread) → sum_by f (xs ++ x ∷ []) ≡ sum_by f xs + f x
sum_last f xs x = (let one : sum_by f (x ∷ []) ≡ f x = omega arith in sum_by-append f xs (x ∷ []) ∙ ap (λ n. sum_by f xs + n) one)

less_by : (a before child whole rest sum room room' : ℕ) → a < before → child ≤ whole → sum ≡ a + child → room ≡ rest → room' ≡ rest + whole → sum + room < before + room'
less_by a before child whole rest sum room room' l m s r r' = omega arith

-- those that come with a child, and those not yet born, have less left
child_falls : (job : JobData) (before all_traced : List TracedThreadData) (child : Option CpuData) → length before ≡ length all_traced → length (with_traced all_traced child) ≤ 32 →
    left_among job all_traced < left_among job before → left_to job (with_traced all_traced child) < left_to job before
child_falls job before all_traced None s few l =
    let a : length (threads_of before) ≡ length (threads_of all_traced) = length-map before thread_of ∙ s ∙ sym (length-map all_traced thread_of) in
    subst (λ n. left_among job all_traced + (32 - length (threads_of all_traced)) * whole_thread job < left_among job before + (32 - n) * whole_thread job) (sym a) (omega arith)
child_falls job before all_traced (Some cpu) s few l =
    let traced : TracedThreadData = record { cpu = cpu; trace = [] } in
    let whole = whole_thread job in
    let n = length (threads_of before) in
    let a : length (threads_of before) ≡ length before = length-map before thread_of in
    let b : length (all_traced ++ traced ∷ []) ≡ length all_traced + 1 = length-append all_traced (traced ∷ []) in
    let c : length (threads_of (all_traced ++ traced ∷ [])) ≡ n + 1 = let d = length-map (all_traced ++ traced ∷ []) thread_of in omega arith in
    let few' : n < 32 = omega arith in
    let sum : left_among job (all_traced ++ traced ∷ []) ≡ left_among job all_traced + thread_left job (thread_of traced) =
    ap (sum_by (thread_left job)) (map-append thread_of all_traced (traced ∷ [])) ∙ sum_last (thread_left job) (threads_of all_traced) (thread_of traced) in
    let most : thread_left job (thread_of traced) ≤ whole = most_by job cpu.core cpu.core.over in
    let less = room_less n whole few' in
    let same : (32 - length (threads_of (all_traced ++ traced ∷ []))) * whole ≡ (32 - (n + 1)) * whole = ap (λ k. (32 - k) * whole) c in
    less_by (left_among job all_traced) (left_among job before) (thread_left job (thread_of traced)) whole ((32 - (n + 1)) * whole) (left_among job (all_traced ++ traced ∷ []))
    ((32 - length (threads_of (all_traced ++ traced ∷ []))) * whole) ((32 - n) * whole) l most sum same less

-- a turn's threads: one is another than before, and a child may come last
turned_is : (before all_traced : List TracedThreadData) (child : Option CpuData) (t : ℕ) → IsSetAt before all_traced t → IsTurned (threads_of before) (threads_of (with_traced all_traced child)) t
turned_is before all_traced None t h = record {
  thread = thread_of h.traced;
  more = [];
  is = ap threads_of h.is ∙ map-set thread_of before t h.traced ∙ sym (append-nil (slice_set (threads_of before) t (thread_of h.traced)));
}
turned_is before all_traced (Some cpu) t h = record {
  thread = thread_of h.traced;
  more = record { core = cpu.core; trace = [] } ∷ [];
  is =
      map-append thread_of all_traced (record { cpu = cpu; trace = [] } ∷ [])
      ∙ ap (λ l. threads_of l ++ record { core = cpu.core; trace = [] } ∷ []) h.is
      ∙ ap (λ l. l ++ record { core = cpu.core; trace = [] } ∷ []) (map-set thread_of before t h.traced);
}

-- all are threads of the job, and so is a child
pub all_with : (job : JobData) (all_traced : List TracedThreadData) (child : Option CpuData) → AllTraced job all_traced → IfSome child (IsCpu job) → AllTraced job (with_traced all_traced child)
all_with job all_traced None a b = a
all_with job all_traced (Some cpu) a b =
    let P : TracedThreadData → Type 0 = λ traced. IsCpu job traced.cpu in
    All-append P all_traced (record { cpu = cpu; trace = [] } ∷ []) a (All-cons P (record { cpu = cpu; trace = [] }) [] b (All-nil P))

set_long : (before all_traced : List TracedThreadData) (t : ℕ) → IsSetAt before all_traced t → length before ≡ length all_traced
set_long before all_traced t h = sym (ap length h.is ∙ length-set before t h.traced)

-- what is left after a whole turn
whole_falls : (job : JobData) (m m' : Machine) (before all_traced : List TracedThreadData) (child : Option CpuData) (t : ℕ) → Reached job m → m' ≡ step job m t →
    m'.threads ≡ threads_of (with_traced all_traced child) → IsSetAt before all_traced t → left_among job all_traced < left_among job before →
    left_to job (with_traced all_traced child) < left_to job before
whole_falls job m m' before all_traced child t r e threads h l =
    let most = few job m' (reached_step job m m' t r e) in
    let same = ap length threads in
    let map = length-map (with_traced all_traced child) thread_of in
    let room : length (with_traced all_traced child) ≤ 32 = omega arith in
    child_falls job before all_traced child (set_long before all_traced t h) room l

-- ---- a whole turn

here_with : (all_traced : List TracedThreadData) (child : Option CpuData) (t : ℕ) (traced : TracedThreadData) → slice_get all_traced t ≡ Some traced →
    slice_get (with_traced all_traced child) t ≡ Some traced
here_with all_traced None t traced i = i
here_with all_traced (Some cpu) t traced i =
    let last : List TracedThreadData = record { cpu = cpu; trace = [] } ∷ [] in
    let l : t < length all_traced = slice_get_within all_traced t traced i in
    let n = length-append all_traced last in
    slice_get_read (all_traced ++ last) (length (all_traced ++ last)) t traced refl (omega arith)
    (sym (get_or_append_left all_traced last traced t l ∙ get_or_from_slice_get all_traced t traced traced i))

set_with : (all_traced : List TracedThreadData) (child : Option CpuData) (t : ℕ) (traced : TracedThreadData) → t < length all_traced →
    slice_set (with_traced all_traced child) t traced ≡ with_traced (slice_set all_traced t traced) child
set_with all_traced None t traced l = refl
set_with all_traced (Some cpu) t traced l = set-append_left all_traced (record { cpu = cpu; trace = [] } ∷ []) t traced l

-- the thread goes on where another one comes last
pub going_with : (job : JobData) (old new : List TracedThreadData) (t value : ℕ) → BoreAt job old new t value → IsGoing (threads_of old) t → IsGoing (threads_of new) t
going_with job old new t value b w =
    let here : slice_get new t ≡ Some b.traced = ap (λ (l : List TracedThreadData). slice_get l t) b.is ∙ here_with old b.child t b.traced b.here in
    (thread_of b.traced, thread_here new t b.traced here, over_here old t b.traced b.here w)

pub within_with : (job : JobData) (old new : List TracedThreadData) (t value : ℕ) → BoreAt job old new t value → t < length new
within_with job old new t value b =
    slice_get_within new t b.traced (ap (λ (l : List TracedThreadData). slice_get l t) b.is ∙ here_with old b.child t b.traced b.here)

-- what a turn comes to
pub record TurnIs (job : JobData) (words words' : List ℕ) (old new : List TracedThreadData) (t : ℕ) : Type 0 where
  pub stepped : machine words' (threads_of new) ≡ step job (machine words (threads_of old)) t
  pub falls : left_to job new < left_to job old
  pub turned : IsTurned (threads_of old) (threads_of new) t

-- the same, where the threads are those of before with one set and maybe one more
turn_by : (job : JobData) (words words' : List ℕ) (old : List TracedThreadData) (t value : ℕ) (child : Option CpuData) (left : TracedThreadData) → Reached job (machine words (threads_of old)) →
    AllTraced job old → IsGoing (threads_of old) t → (asked : AskedAt job old t words words' value) → thread_of left ≡ thread_after (thread_of asked.traced) (taken job asked.traced.cpu.core value) →
    core_of child ≡ (taken job asked.traced.cpu.core value).child → TurnIs job words words' old (with_traced (slice_set old t left) child) t
turn_by job words words' old t value child left r all going asked took bears =
    let traced = asked.traced in
    let one = slice_set old t left in
    let set : IsSetAt old one t = record { traced = left; is = refl } in
    let l : t < length old = slice_get_within old t traced asked.here in
    let gave = asked.asked.gave in
    let took' = subst (λ v. thread_of left ≡ thread_after (thread_of traced) (taken job traced.cpu.core v)) gave took in
    let bears' = subst (λ v. core_of child ≡ (taken job traced.cpu.core v).child) gave bears in
    let stepped : machine words' (threads_of (with_traced one child)) ≡ step job (machine words (threads_of old)) t =
    ap (machine words') (child_last one child)
    ∙ traced_step job words words' old t traced left asked.asked.access child asked.here asked.asked.next asked.asked.left took' bears' in
    let falls = traced_falls job old t value traced left l asked.here (cpu_here job old t traced all l asked.here) (over_here old t traced asked.here going) took in
    record {
      stepped = stepped;
      falls = whole_falls job (machine words (threads_of old)) (machine words' (threads_of (with_traced one child))) old one child t r stepped refl set falls;
      turned = turned_is old one child t set;
    }

-- the access, the birth, and what the thread makes of the answer
pub turn_is : (job : JobData) (words words' : List ℕ) (old mid new : List TracedThreadData) (t value : ℕ) → Reached job (machine words (threads_of old)) → AllTraced job old →
    IsGoing (threads_of old) t → AskedAt job old t words words' value → BoreAt job old mid t value → TookAt job mid new t value → TurnIs job words words' old new t
turn_is job words words' old mid new t value r all going asked bore took =
    let traced = asked.traced in
    let left = took.set.traced in
    let child = bore.child in
    let mid_here : slice_get mid t ≡ Some traced = ap (λ (l : List TracedThreadData). slice_get l t) bore.is ∙ here_with old child t traced asked.here in
    let bearer : bore.traced ≡ traced = cc (bore.here, asked.here) in
    let taker : took.traced ≡ traced = cc (took.here, mid_here) in
    let is : new ≡ with_traced (slice_set old t left) child =
    took.set.is ∙ ap (λ (l : List TracedThreadData). slice_set l t left) bore.is ∙ set_with old child t left (slice_get_within old t traced asked.here) in
    let took' = subst (λ (x : TracedThreadData). thread_of left ≡ thread_after (thread_of x) (taken job x.cpu.core value)) taker took.took in
    let bears' = subst (λ (x : TracedThreadData). core_of child ≡ (taken job x.cpu.core value).child) bearer bore.bears in
    subst (λ (l : List TracedThreadData). TurnIs job words words' old l t) (sym is) (turn_by job words words' old t value child left r all going asked took' bears')

-- one more turn of a list
pub run_take : (job : JobData) (m : Machine) (xs : List ℕ) (i d : ℕ) → i < length xs → run job m (take (i + 1) xs) ≡ step job (run job m (take i xs)) (get_or xs i d)
run_take job m xs i d l =
    ap (run job m) (take_more xs i d l) ∙ run_append job m (take i xs) (get_or xs i d ∷ [])
