-- The numbers of the live threads, thread by thread.
use Rattle.std.proofs.Common.{◌≡◌, ℕ, zero, suc, ◌+◌, ◌/◌, ◌%◌, ◌^◌, ◌<◌, ◌≤◌, Bool, true, false, List, [], ◌∷◌, ◌++◌, length}
use Rattle.std.proofs.Common.{take, drop, Option, Some, None, refl, ap, sym, ◌∙◌, subst, arith, get_or}
use Rattle.std.specs.Prelude.{IsSome, cond, is_some, not, option_map, slice_get, slice_set}
use Rattle.std.specs.Option.{option_or}
use Rattle.std.proofs.lemmas.List.{append_assoc, get_or-set_same, length-map, map-append, map-set, set_split, take_more}
use Rattle.std.proofs.lemmas.Option.{slice_get-map, slice_get_past, slice_get_read, slice_get_within}
use Rattle.cet_isa.specs.declared.threads.End.{End}
use Rattle.cet_page.specs.Machine.{Thread}
use Rattle.cet_run.specs.TracedThreads.{LiveBefore, TracedThreadData, thread_of, threads_of}
use Rattle.cet_run.specs.Schedule.{after_last, first_live, goes_on, live_from, mix_turn, next_turn}
use Rattle.cet_run.specs.Turns.{IsGoing, IsStill, IsTurned, NotGoing}

-- ---- lists of numbers

cond_more : (b : Bool) (n : ℕ) (all l r : List ℕ) → all ≡ l ++ r → cond b (n ∷ all) all ≡ cond b (n ∷ l) l ++ r
cond_more true n all l r e = ap (λ x. n ∷ x) e
cond_more false n all l r e = e

pub live_append : (xs ys : List Thread) (n : ℕ) → live_from (xs ++ ys) n ≡ live_from xs n ++ live_from ys (n + length xs)
live_append [] ys n = (let e : n ≡ n + 0 = omega arith in ap (live_from ys) e)
live_append (x ∷ xs) ys n =
    let e : n + 1 + length xs ≡ n + suc (length xs) = omega arith in
    cond_more (goes_on x.core.over) n (live_from (xs ++ ys) (n + 1)) (live_from xs (n + 1)) (live_from ys (n + suc (length xs)))
    (live_append xs ys (n + 1) ∙ ap (λ k. live_from xs (n + 1) ++ live_from ys k) e)

-- a live thread that comes last
pub live_push : (threads : List Thread) (thread : Thread) → thread.core.over ≡ None → live_from (threads ++ thread ∷ []) 0 ≡ live_from threads 0 ++ length threads ∷ []
live_push threads thread o =
    let e : 0 + length threads ≡ length threads = omega arith in
    live_append threads (thread ∷ []) 0
    ∙ ap (λ k. live_from threads 0 ++ cond (goes_on thread.core.over) (k ∷ []) []) e
    ∙ ap (λ over. live_from threads 0 ++ cond (goes_on over) (length threads ∷ []) []) o

-- a thread that is live as it was before
pub live_same : (threads : List Thread) (n t : ℕ) (thread x : Thread) → slice_get threads t ≡ Some thread → goes_on x.core.over ≡ goes_on thread.core.over → live_from (slice_set threads t x) n ≡ live_from threads n
live_same [] n t thread x i e = cc
live_same (y ∷ ys) n zero thread x i e =
    let same : y ≡ thread = cc in
    ap (λ b. cond b (n ∷ live_from ys (n + 1)) (live_from ys (n + 1))) (e ∙ ap (λ (z : Thread). goes_on z.core.over) (sym same))
live_same (y ∷ ys) n (suc t) thread x i e =
    ap (λ l. cond (goes_on y.core.over) (n ∷ l) l) (live_same ys (n + 1) t thread x i e)

-- ---- the place of a live thread

pub record IsPlaced (threads : List Thread) (n place t : ℕ) : Type 0 where
  at : ℕ
  is : t ≡ n + at
  thread : Thread
  there : slice_get threads at ≡ Some thread
  going : thread.core.over ≡ None
  before : take place (live_from threads n) ≡ live_from (take at threads) n
  after : drop (suc place) (live_from threads n) ≡ live_from (drop (suc at) threads) (t + 1)

pub placed_by : (y : Thread) (ys : List Thread) (n place t : ℕ) (over : Option End) → y.core.over ≡ over →
    slice_get (cond (goes_on over) (n ∷ live_from ys (n + 1)) (live_from ys (n + 1))) place ≡ Some t → ((i : ℕ) → slice_get (live_from ys (n + 1)) i ≡ Some t → IsPlaced ys (n + 1) i t) →
    IsPlaced (y ∷ ys) n place t
placed_by y ys n zero t None o e later =
    let same : n ≡ t = cc in
    let number : t ≡ n + 0 = omega arith in
    record {
      at = 0;
      is = number;
      thread = y;
      there = refl;
      going = o;
      before = refl;
      after = ap (λ b. drop 1 (cond (goes_on b) (n ∷ live_from ys (n + 1)) (live_from ys (n + 1)))) o ∙ ap (λ k. live_from ys (k + 1)) same;
    }
placed_by y ys n (suc place) t None o e later =
    let p = later place e in
    let number : t ≡ n + suc p.at = let is = p.is in omega arith in
    record {
      at = suc p.at;
      is = number;
      thread = p.thread;
      there = p.there;
      going = p.going;
      before =
          ap (λ b. take (suc place) (cond (goes_on b) (n ∷ live_from ys (n + 1)) (live_from ys (n + 1)))) o
          ∙ ap (λ l. n ∷ l) p.before
          ∙ sym (ap (λ b. cond (goes_on b) (n ∷ live_from (take p.at ys) (n + 1)) (live_from (take p.at ys) (n + 1))) o);
      after = ap (λ b. drop (suc (suc place)) (cond (goes_on b) (n ∷ live_from ys (n + 1)) (live_from ys (n + 1)))) o ∙ p.after;
    }
placed_by y ys n place t (Some x) o e later =
    let p = later place e in
    let number : t ≡ n + suc p.at = let is = p.is in omega arith in
    record {
      at = suc p.at;
      is = number;
      thread = p.thread;
      there = p.there;
      going = p.going;
      before =
          ap (λ b. take place (cond (goes_on b) (n ∷ live_from ys (n + 1)) (live_from ys (n + 1)))) o
          ∙ p.before
          ∙ sym (ap (λ b. cond (goes_on b) (n ∷ live_from (take p.at ys) (n + 1)) (live_from (take p.at ys) (n + 1))) o);
      after = ap (λ b. drop (suc place) (cond (goes_on b) (n ∷ live_from ys (n + 1)) (live_from ys (n + 1)))) o ∙ p.after;
    }

placed_from : (threads : List Thread) (n place t : ℕ) → slice_get (live_from threads n) place ≡ Some t → IsPlaced threads n place t
placed_from [] n place t e = cc
placed_from (y ∷ ys) n place t e = placed_by y ys n place t y.core.over refl e (λ i f. placed_from ys (n + 1) i t f)

pub record IsLiveAt (threads : List Thread) (place t : ℕ) : Type 0 where
  pub going : IsGoing threads t
  pub inside : t < length threads
  pub before : take place (live_from threads 0) ≡ live_from (take t threads) 0
  pub after : drop (suc place) (live_from threads 0) ≡ live_from (drop (suc t) threads) (t + 1)

pub live_at : (threads : List Thread) (place t : ℕ) → slice_get (live_from threads 0) place ≡ Some t → IsLiveAt threads place t
live_at threads place t e =
    let p = placed_from threads 0 place t e in
    let same : p.at ≡ t = let is = p.is in omega arith in
    record {
      going = (p.thread, subst (λ k. slice_get threads k ≡ Some p.thread) same p.there, p.going);
      inside = slice_get_within threads t p.thread (subst (λ k. slice_get threads k ≡ Some p.thread) same p.there);
      before = subst (λ k. take place (live_from threads 0) ≡ live_from (take k threads) 0) same p.before;
      after = subst (λ k. drop (suc place) (live_from threads 0) ≡ live_from (drop (suc k) threads) (t + 1)) same p.after;
    }

-- ---- the live threads after a turn

drop_within : (a b : List ℕ) (i : ℕ) → length a ≡ i → drop i (a ++ b) ≡ b
drop_within [] b zero e = refl
drop_within [] b (suc i) e = cc
drop_within (x ∷ a) b zero e = cc
drop_within (x ∷ a) b (suc i) e = (let f : length a ≡ i = omega arith in drop_within a b i f)

length_within : (l : List ℕ) (i t : ℕ) → slice_get l i ≡ Some t → length (take i l) ≡ i
length_within [] i t e = cc
length_within (x ∷ l) zero t e = refl
length_within (x ∷ l) (suc i) t e = (let h = length_within l i t e in omega arith)

drop_over : {X : Type 0} (a b : List X) (x : X) (t : ℕ) → length a ≡ t → drop (suc t) (a ++ x ∷ b) ≡ b
drop_over [] b x zero e = refl
drop_over [] b x (suc t) e = cc
drop_over (y ∷ a) b x zero e = cc
drop_over (y ∷ a) b x (suc t) e = (let f : length a ≡ t = omega arith in drop_over a b x t f)

take_length : {X : Type 0} (l : List X) (t : ℕ) → t < length l → length (take t l) ≡ t
take_length [] t e = absurd (omega arith)
take_length (x ∷ l) zero e = refl
take_length (x ∷ l) (suc t) e = (let h = take_length l t (omega arith) in omega arith)

module _ (threads threads' : List Thread) (place t : ℕ) (at : slice_get (live_from threads 0) place ≡ Some t) (s : IsTurned threads threads' t) where
  live : IsLiveAt threads place t
  live = live_at threads place t at

  parts : threads' ≡ take t threads ++ s.thread ∷ (drop (suc t) threads ++ s.more)
  parts =
      s.is
      ∙ ap (λ l. l ++ s.more) (set_split threads t s.thread live.inside)
      ∙ append_assoc (take t threads) (s.thread ∷ drop (suc t) threads) s.more

  long : length (take t threads) ≡ t
  long = take_length threads t live.inside

  abbrev rest : List ℕ
  rest = live_from (drop (suc t) threads ++ s.more) (t + 1)

  live_parts : live_from threads' 0 ≡ live_from (take t threads) 0 ++ cond (goes_on s.thread.core.over) (t ∷ rest) rest
  live_parts =
      let e : 0 + length (take t threads) ≡ t = let l = long in omega arith in
      ap (λ l. live_from l 0) parts
      ∙ live_append (take t threads) (s.thread ∷ (drop (suc t) threads ++ s.more)) 0
      ∙ ap (λ k. live_from (take t threads) 0 ++ live_from (s.thread ∷ (drop (suc t) threads ++ s.more)) k) e

  later_parts : drop (t + 1) threads' ≡ drop (suc t) threads ++ s.more
  later_parts =
      let e : t + 1 ≡ suc t = omega arith in
      ap (λ k. drop k threads') e
      ∙ ap (drop (suc t)) parts
      ∙ drop_over (take t threads) (drop (suc t) threads ++ s.more) s.thread t long

  first_long : length (live_from (take t threads) 0) ≡ place
  first_long = ap length (sym live.before) ∙ length_within (live_from threads 0) place t at

  here : slice_get threads' t ≡ Some s.thread
  here = ap (λ l. slice_get l t) parts ∙ here_by (take t threads) (drop (suc t) threads ++ s.more) s.thread t long
    where
      here_by : (a b : List Thread) (x : Thread) (k : ℕ) → length a ≡ k → slice_get (a ++ x ∷ b) k ≡ Some x
      here_by [] b x zero e = refl
      here_by [] b x (suc k) e = cc
      here_by (y ∷ a) b x zero e = cc
      here_by (y ∷ a) b x (suc k) e = (let f : length a ≡ k = omega arith in here_by a b x k f)

  -- where it goes on, the next place is that of the next live thread
  pub next_goes : IsGoing threads' t → drop (place + 1) (live_from threads' 0) ≡ live_from (drop (t + 1) threads') (t + 1)
  next_goes g =
      let same : s.thread ≡ g.0 = let h = here in cc (h, g.1) in
      let over : s.thread.core.over ≡ None = ap (λ (x : Thread). x.core.over) same ∙ g.2 in
      let e : place + 1 ≡ suc place = omega arith in
      ap (λ k. drop k (live_from threads' 0)) e
      ∙ ap (drop (suc place)) live_parts
      ∙ ap (λ o. drop (suc place) (live_from (take t threads) 0 ++ cond (goes_on o) (t ∷ rest) rest)) over
      ∙ drop_over (live_from (take t threads) 0) rest t place first_long
      ∙ sym (ap (λ l. live_from l (t + 1)) later_parts)

  -- where it has ended, the place is that of the next one now
  pub next_stays : IsStill threads' t → drop place (live_from threads' 0) ≡ live_from (drop (t + 1) threads') (t + 1)
  next_stays g =
      ap (drop place) live_parts
      ∙ stays_by s.thread.core.over (subst NotGoing here g)
      ∙ sym (ap (λ l. live_from l (t + 1)) later_parts)
    where
      stays_by : (over : Option End) → IsSome over → drop place (live_from (take t threads) 0 ++ cond (goes_on over) (t ∷ rest) rest) ≡ rest
      stays_by None h = cc
      stays_by (Some e) h = drop_within (live_from (take t threads) 0) rest place first_long

-- ---- whose turn it is

head_by : (b : Bool) (n : ℕ) (l : List ℕ) (o : Option ℕ) → o ≡ slice_get l 0 → cond b (Some n) o ≡ slice_get (cond b (n ∷ l) l) 0
head_by true n l o e = refl
head_by false n l o e = e

-- the first live thread is the first of them
first_head : (threads : List Thread) (n : ℕ) → first_live threads n ≡ slice_get (live_from threads n) 0
first_head [] n = refl
first_head (x ∷ xs) n = head_by (goes_on x.core.over) n (live_from xs (n + 1)) (first_live xs (n + 1)) (first_head xs (n + 1))

head_drop : (i : ℕ) (l : List ℕ) → slice_get (drop i l) 0 ≡ slice_get l i
head_drop zero l = refl
head_drop (suc i) [] = refl
head_drop (suc i) (x ∷ l) = head_drop i l

-- Robin, by the place in the order of the live threads
pub robin_is : (threads : List Thread) (last : Option ℕ) (place : ℕ) → drop place (live_from threads 0) ≡ live_from (drop (after_last last) threads) (after_last last) →
    next_turn threads last ≡ option_or (slice_get (live_from threads 0) place) (slice_get (live_from threads 0) 0)
robin_is threads last place e =
    ap (λ o. option_or o (first_live threads 0)) (first_head (drop (after_last last) threads) (after_last last) ∙ ap (λ l. slice_get l 0) (sym e) ∙ head_drop place (live_from threads 0))
    ∙ ap (option_or (slice_get (live_from threads 0) place)) (first_head threads 0)

pub none_next : (l : List ℕ) (place : ℕ) → l ≡ [] → option_or (slice_get l place) (slice_get l 0) ≡ None
none_next [] place e = refl
none_next (x ∷ l) place e = cc

-- Mix, by the place that a number picks
pub mix_is : (l : List ℕ) (x place t : ℕ) → place ≡ x / 2 ^ 33 % length l → slice_get l place ≡ Some t → mix_turn l x ≡ Some t
mix_is [] x place t p e = cc
mix_is (y ∷ ys) x place t p e = ap (slice_get (y ∷ ys)) (sym p) ∙ e

-- ---- threads with what is kept beside them

over_none : (over : Option End) (b : Bool) → is_some over ≡ not b → b ≡ true → over ≡ None
over_none None b e h = refl
over_none (Some x) true e h = cc
over_none (Some x) false e h = cc

over_some : (over : Option End) (b : Bool) → is_some over ≡ not b → b ≡ false → IsSome over
over_some None true e h = cc
over_some None false e h = cc
over_some (Some x) b e h = refl

thread_at : (all_traced : List TracedThreadData) (t : ℕ) (o : Option TracedThreadData) → o ≡ slice_get all_traced t → slice_get (threads_of all_traced) t ≡ option_map thread_of o
thread_at all_traced t o e = slice_get-map thread_of all_traced t ∙ ap (option_map thread_of) (sym e)

pub going_at : (all_traced : List TracedThreadData) (t : ℕ) (traced : TracedThreadData) (over : Option End) (b : Bool) → t < length all_traced → traced ≡ get_or all_traced t traced →
    over ≡ traced.cpu.core.over → is_some over ≡ not b → b ≡ true → IsGoing (threads_of all_traced) t
going_at all_traced t traced over b l i o e h = (thread_of traced, thread_at all_traced t (Some traced) (sym (slice_get_read all_traced (length all_traced) t traced refl l i)), sym o ∙ over_none over b e h)

pub still_at : (all_traced : List TracedThreadData) (t : ℕ) (traced : TracedThreadData) (over : Option End) (b : Bool) → t < length all_traced → traced ≡ get_or all_traced t traced →
    over ≡ traced.cpu.core.over → is_some over ≡ not b → b ≡ false → IsStill (threads_of all_traced) t
still_at all_traced t traced over b l i o e h = subst NotGoing (sym (thread_at all_traced t (Some traced) (sym (slice_get_read all_traced (length all_traced) t traced refl l i)))) (subst IsSome o (over_some over b e h))

pub still_past : (all_traced : List TracedThreadData) (t : ℕ) → length all_traced ≤ t → IsStill (threads_of all_traced) t
still_past all_traced t l = subst NotGoing (sym (thread_at all_traced t None (sym (slice_get_past all_traced t l)))) tt

-- one number more
pub live_more : (all_traced : List TracedThreadData) (at : ℕ) (traced : TracedThreadData) (old new : List ℕ) → at < length all_traced → traced ≡ get_or all_traced at traced →
    new ≡ old ++ cond (goes_on traced.cpu.core.over) (at ∷ []) [] → old ≡ live_from (threads_of (take at all_traced)) 0 → new ≡ live_from (threads_of (take (at + 1) all_traced)) 0
live_more all_traced at traced old new l i n o =
    let long : 0 + length (threads_of (take at all_traced)) ≡ at = let m = length-map (take at all_traced) thread_of in let k = take_length all_traced at l in omega arith in
    n
    ∙ ap (λ l. l ++ cond (goes_on traced.cpu.core.over) (at ∷ []) []) o
    ∙ sym (
    ap (λ l. live_from (threads_of l) 0) (take_more all_traced at traced l ∙ ap (λ x. take at all_traced ++ x ∷ []) (sym i))
    ∙ ap (λ l. live_from l 0) (map-append thread_of (take at all_traced) (traced ∷ []))
    ∙ live_append (threads_of (take at all_traced)) (thread_of traced ∷ []) 0
    ∙ ap (λ k. live_from (threads_of (take at all_traced)) 0 ++ live_from (thread_of traced ∷ []) k) long
    )

-- a live one comes last
pub live_born : (all_traced all_traced' : List TracedThreadData) (live live' : List ℕ) (traced : TracedThreadData) (n : ℕ) → traced.cpu.core.over ≡ None → live ≡ live_from (threads_of all_traced) 0 →
    n ≡ length all_traced → live' ≡ live ++ n ∷ [] → all_traced' ≡ all_traced ++ traced ∷ [] → live' ≡ live_from (threads_of all_traced') 0
live_born all_traced all_traced' live live' traced n o l k e f =
    e
    ∙ ap (λ x. x ++ n ∷ []) l
    ∙ ap (λ x. live_from (threads_of all_traced) 0 ++ x ∷ []) (k ∙ sym (length-map all_traced thread_of))
    ∙ sym (live_push (threads_of all_traced) (thread_of traced) o)
    ∙ ap (λ x. live_from x 0) (sym (map-append thread_of all_traced (traced ∷ [])))
    ∙ ap (λ x. live_from (threads_of x) 0) (sym f)

-- the list stays where the thread of the turn goes on
pub live_kept : (all_traced : List TracedThreadData) (live : List ℕ) (t : ℕ) (traced : TracedThreadData) (over : Option End) → LiveBefore all_traced live t → t < length all_traced →
    traced ≡ get_or all_traced t traced → over ≡ traced.cpu.core.over → is_some over ≡ false → live ≡ live_from (threads_of all_traced) 0
live_kept all_traced live t traced over h l i o e =
    let x = h.set.traced in
    let n : over ≡ None = over_none over true e refl in
    let inside : t < length h.old = slice_get_within-map h.old t h.going.0 h.going.1 in
    let same : traced ≡ x = i ∙ ap (λ l. get_or l t traced) h.set.is ∙ get_or-set_same h.old t x traced inside in
    let lives : goes_on x.cpu.core.over ≡ goes_on h.going.0.core.over = ap (λ (y : TracedThreadData). goes_on y.cpu.core.over) (sym same) ∙ ap goes_on (sym o ∙ n) ∙ sym (ap goes_on h.going.2) in
    h.numbers
    ∙ sym (live_same (threads_of h.old) 0 t h.going.0 (thread_of x) h.going.1 lives)
    ∙ ap (λ k. live_from k 0) (sym (map-set thread_of h.old t x))
    ∙ ap (λ k. live_from (threads_of k) 0) (sym h.set.is)
  where
    slice_get_within-map : (xs : List TracedThreadData) (k : ℕ) (thread : Thread) → slice_get (threads_of xs) k ≡ Some thread → k < length xs
    slice_get_within-map xs k thread e = (let a = slice_get_within (threads_of xs) k thread e in let b = length-map xs thread_of in omega arith)
