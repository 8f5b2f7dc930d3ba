-- What holds of every row, whatever its accesses answer: it is short, a fault comes only before its first write, who is
-- born is in range, and what the row comes to. Source: own.
use Rattle.std.proofs.Common.{zero, suc, true, false, arith, cond, subst, ap, sym, ◌∙◌}
use Rattle.std.proofs.lemmas.Bool.{leb-true, le-leb}
use Rattle.std.specs.Prelude.{◌≡◌, ℕ, ◌+◌, ◌<◌, ◌≤◌, ◌%◌, Bool, ◌||◌, ◌==◌, nat_le, List, [], ◌∷◌, ◌++◌, length, Option, Some, None, refl}
use Rattle.std.specs.Int.{cast_unsigned}
use Rattle.cet_words.specs.Layout.{page_at, thread_limit}
use Rattle.cet_words.specs.Change.{Change, Called, Returned, Raised, Acquired, Released, Claimed, Seeded, Born, Pushed, Popped, Ended, Busied, Freed}
use Rattle.cet_words.specs.declared.accesses.Access.{Access}
use Rattle.cet_words.specs.declared.accesses.Access.TheVariants as access
use Rattle.cet_isa.specs.Address.{canonical}
use Rattle.cet_isa.specs.declared.instructions.Operand.{Operand}
use Rattle.cet_isa.specs.declared.instructions.Operand.TheVariants as operand
use Rattle.cet_isa.specs.declared.instructions.Size.{Size}
use Rattle.cet_isa.specs.declared.threads.Arch.{Arch}
use Rattle.cet_isa.specs.declared.threads.Fault.{Fault}
use Rattle.cet_page.specs.Script.{Script, done, fault, ask, tell, ◌>>=◌, Played, Completed, Faulted, Wants, play, birth, held_after}
use Rattle.cet_page.specs.ValsData.{keeps, kept_after}
use Rattle.cet_page.specs.Page.{allows, page_fault}
use Rattle.cet_page.specs.Parts.{check_address_as, look_in_as, look_as, probe_in, probe, read_entry, load_as, store_as, compare_exchange_as, swap, fetch_add_as, fetch_or, fetch_and, stores, store_each, loads, general_protection}
use Rattle.cet_page.specs.Structures.{if_found, span}
use Rattle.cet_page.specs.Values.{limit, width}
use Rattle.cet_page.specs.Finish.{IsMade}
use Rattle.cet_page.specs.Gate.{gate_in, gate_out, freed}
use Rattle.cet_page.specs.Operands.{register, load_word, load_at, write_place, store_at, read_operand}
use Rattle.cet_page.specs.declared.finishes.Leaving.{Leaving}
use Rattle.cet_page.specs.declared.finishes.Leaving.TheVariants as leaving
use Rattle.cet_page.specs.declared.checks.Kind.{Kind}
use Rattle.cet_page.specs.declared.checks.Who.{Who}

-- the access changes a word, where it answers this
abbrev pub writes : Access → (answer : ℕ) → Bool
writes (access.Look page) v = false
writes (access.Load word) v = false
writes (access.Store word value) v = true
writes (access.Swap word value) v = true
writes (access.FetchAdd word value) v = true
writes (access.FetchOr word value) v = true
writes (access.FetchAnd word value) v = true
writes (access.CompareExchange word expected value) v = v == expected

-- ---- births

-- who may be born: a thread with a number below 32, on eight pages of the shadow area
pub record MayBear (child : ℕ × ℕ) : Type 0 where
  pub number : child.0 < thread_limit
  pub made : IsMade child.1

abbrev pub BornFits : Option (ℕ × ℕ) → Type 0
BornFits None = Unit {0}
BornFits (Some child) = MayBear child

-- nobody is born, or one thread that may be, and then nothing else changes
pub record BirthFits (changes : List Change) : Type 0 where
  pub fits : BornFits (birth changes)
  pub alone : (child : ℕ × ℕ) → birth changes ≡ Some child → changes ≡ Born child.0 child.1 ∷ []

pub no_birth : (changes : List Change) → birth changes ≡ None → BirthFits changes
no_birth changes e = record { fits = subst BornFits (sym e) tt; alone = λ child b. cc }

pub birth_if : (b : Bool) (s t : List Change) → (b ≡ true → BirthFits s) → (b ≡ false → BirthFits t) → BirthFits (cond b s t)
birth_if true s t p q = p refl
birth_if false s t p q = q refl

-- ---- supervisor stacks

-- one of the changes takes or gives back a supervisor stack
abbrev pub moves : List Change → Bool
moves [] = false
moves (Busied k ∷ changes) = true
moves (Freed k ∷ changes) = true
moves (Called back ∷ changes) = moves changes
moves (Returned ∷ changes) = moves changes
moves (Raised count ∷ changes) = moves changes
moves (Acquired at ∷ changes) = moves changes
moves (Released ∷ changes) = moves changes
moves (Claimed start pages maker ∷ changes) = moves changes
moves (Seeded start blanks ∷ changes) = moves changes
moves (Born child start ∷ changes) = moves changes
moves (Pushed restorer ∷ changes) = moves changes
moves (Popped ∷ changes) = moves changes
moves (Ended ∷ changes) = moves changes

pub moves_if : (b : Bool) (s t : List Change) → moves s ≡ false → moves t ≡ false → moves (cond b s t) ≡ false
moves_if true s t p q = p
moves_if false s t p q = q

-- where none does, the thread holds what it held
pub held_still : (changes : List Change) (held : Option ℕ) → moves changes ≡ false → held_after changes held ≡ held
held_still [] held e = refl
held_still (Busied k ∷ changes) held e = cc
held_still (Freed k ∷ changes) held e = cc
held_still (Called back ∷ changes) held e = held_still changes held e
held_still (Returned ∷ changes) held e = held_still changes held e
held_still (Raised count ∷ changes) held e = held_still changes held e
held_still (Acquired at ∷ changes) held e = held_still changes held e
held_still (Released ∷ changes) held e = held_still changes held e
held_still (Claimed start pages maker ∷ changes) held e = held_still changes held e
held_still (Seeded start blanks ∷ changes) held e = held_still changes held e
held_still (Born child start ∷ changes) held e = held_still changes held e
held_still (Pushed restorer ∷ changes) held e = held_still changes held e
held_still (Popped ∷ changes) held e = held_still changes held e
held_still (Ended ∷ changes) held e = held_still changes held e

-- ---- the walk

-- the bounds of a row
abbrev pub most_accesses : ℕ
most_accesses = 4095

abbrev pub most_kept : ℕ
most_kept = 31

abbrev pub fits : (used kept : ℕ) → Bool
fits used kept = cond (nat_le used most_accesses) (nat_le kept most_kept) false

-- something was written, or a supervisor stack taken or given back, before an access or by it
abbrev pub acted : (wrote : Bool) → Access → (answer : ℕ) → List Change → Bool
acted wrote a answer changes = wrote || (moves changes || writes a answer)

-- After so many accesses and kept answers, and where something was written or not: the script ends within the bounds; a fault
-- comes only where nothing was written before; who is born is in range; and P holds of each result.
abbrev pub Walks : {A : Type 0} → (used kept : ℕ) → (wrote : Bool) → (P : A → Type 0) → Script A → Type 0
Walks used kept wrote P (done x) = (fits used kept ≡ true) × P x
Walks used kept wrote P (fault e) = (fits used kept ≡ true) × (wrote ≡ false)
Walks used kept wrote P (ask a changes f) =
    (keeps a ≡ true) × ((v : ℕ) → BirthFits (changes v) × Walks (used + 1) (kept + 1) (acted wrote a v (changes v)) P (f v))
Walks used kept wrote P (tell word value changes s) =
    BirthFits changes × Walks (used + 1) kept true P s

pub record Walk {A : Type 0} (used kept : ℕ) (wrote : Bool) (P : A → Type 0) (s : Script A) : Type 0 where
  pub walks : Walks used kept wrote P s

-- ---- one lemma for each part, with what follows it

stores_walk : {A : Type 0} (used kept : ℕ) (wrote : Bool) (P : A → Type 0) (f : Unit {0} → Script A) (count word value step all : ℕ) → used + count ≡ all → ((w : Bool) → Walks all kept w P (f tt)) →
    Walks used kept wrote P (stores count word value step >>= f)
unfolding ◌>>=◌ stores
stores_walk used kept wrote P f zero word value step all e h = let same : all ≡ used = omega arith in subst (λ n. Walks n kept wrote P (f tt)) same (h wrote)
stores_walk used kept wrote P f (suc count) word value step all e h = (no_birth [] refl, stores_walk (used + 1) kept true P f count (word + 1) (value + step) step all (omega arith) h)

bounds_by : (used kept : ℕ) (b c : Bool) → nat_le used most_accesses ≡ b → nat_le kept most_kept ≡ c → cond b c false ≡ true → (used ≤ most_accesses) × (kept ≤ most_kept)
bounds_by used kept true true p q e = (leb-true used most_accesses p, leb-true kept most_kept q)
bounds_by used kept true false p q e = cc
bounds_by used kept false c p q e = cc

bounds_of : (used kept : ℕ) → fits used kept ≡ true → (used ≤ most_accesses) × (kept ≤ most_kept)
bounds_of used kept e = bounds_by used kept (nat_le used most_accesses) (nat_le kept most_kept) refl refl e

fits_of : (used kept : ℕ) → used ≤ most_accesses → kept ≤ most_kept → fits used kept ≡ true
fits_of used kept l m = rw (le-leb used most_accesses l, le-leb kept most_kept m) refl

fits_fewer : (used kept n k : ℕ) → n ≤ used → k ≤ kept → fits used kept ≡ true → fits n k ≡ true
fits_fewer used kept n k l m e = let b = bounds_of used kept e in fits_of n k (omega arith) (omega arith)

walks_fit : {A : Type 0} (used kept : ℕ) (wrote : Bool) (P : A → Type 0) (s : Script A) → Walks used kept wrote P s → fits used kept ≡ true
walks_fit used kept wrote P (done x) h = h.0
walks_fit used kept wrote P (fault e) h = h.0
walks_fit used kept wrote P (ask a changes f) h =
    let g = h.1 0 in
    fits_fewer (used + 1) (kept + 1) used kept (omega arith) (omega arith) (walks_fit (used + 1) (kept + 1) (acted wrote a 0 (changes 0)) P (f 0) g.1)
walks_fit used kept wrote P (tell word value changes s) h =
    fits_fewer (used + 1) kept used kept (omega arith) (omega arith) (walks_fit (used + 1) kept true P s h.1)

-- fewer accesses and answers before it do no harm
walks_fewer : {A : Type 0} (used kept n k : ℕ) (wrote : Bool) (P : A → Type 0) (s : Script A) → n ≤ used → k ≤ kept → Walks used kept wrote P s → Walks n k wrote P s
walks_fewer used kept n k wrote P (done x) l m h = (fits_fewer used kept n k l m h.0, h.1)
walks_fewer used kept n k wrote P (fault e) l m h = (fits_fewer used kept n k l m h.0, h.1)
walks_fewer used kept n k wrote P (ask a changes f) l m h =
    (h.0, λ v. let g = h.1 v in (g.0, walks_fewer (used + 1) (kept + 1) (n + 1) (k + 1) (acted wrote a v (changes v)) P (f v) (omega arith) (omega arith) g.1))
walks_fewer used kept n k wrote P (tell word value changes s) l m h =
    (h.0, walks_fewer (used + 1) kept (n + 1) k true P s (omega arith) m h.1)

module _ {A : Type 0} {used kept : ℕ} {wrote : Bool} {P : A → Type 0} where
  pub walk_done : {x : A} → fits used kept ≡ true → P x → Walk used kept wrote P (done x)
  walk_done e h = record { walks = (e, h) }

  pub walk_fault : {e : Fault} → fits used kept ≡ true → wrote ≡ false → Walk used kept wrote P (fault e)
  walk_fault f h = record { walks = (f, h) }

  pub walk_if : (b : Bool) (s t : Script A) → (b ≡ true → Walk used kept wrote P s) → (b ≡ false → Walk used kept wrote P t) → Walk used kept wrote P (cond b s t)
  walk_if true s t p q = p refl
  walk_if false s t p q = q refl

module _ {A B : Type 0} {used kept : ℕ} {wrote : Bool} {P : A → Type 0} (f : B → Script A) where
  pub walk_return : (x : B) → Walk used kept wrote P (f x) → Walk used kept wrote P (done x >>= f)
  unfolding ◌>>=◌
  walk_return x h = record { walks = h.walks }

  pub walk_fault_then : (e : Fault) → fits used kept ≡ true → wrote ≡ false → Walk used kept wrote P (fault e >>= f)
  unfolding ◌>>=◌
  walk_fault_then e r h = record { walks = (r, h) }

  pub walk_if_then : (b : Bool) (s t : Script B) → (b ≡ true → Walk used kept wrote P (s >>= f)) → (b ≡ false → Walk used kept wrote P (t >>= f)) → Walk used kept wrote P (cond b s t >>= f)
  walk_if_then true s t p q = p refl
  walk_if_then false s t p q = q refl

or_none : (wrote : Bool) → (wrote || false) ≡ wrote
or_none true = refl
or_none false = refl

-- changes that move no supervisor stack count for nothing
unmoved : (wrote b c : Bool) → b ≡ false → (wrote || c) ≡ (wrote || (b || c))
unmoved wrote true c e = cc
unmoved wrote false c e = refl

module _ {A : Type 0} {used kept : ℕ} {wrote : Bool} {P : A → Type 0} (f : ℕ → Script A) where
  pub walk_read_entry : (page : ℕ) → ((v : ℕ) → Walk (used + 1) (kept + 1) (wrote || false) P (f v)) → Walk used kept wrote P (read_entry page >>= f)
  unfolding ◌>>=◌ read_entry
  walk_read_entry page h = record { walks = (refl, λ v. (no_birth [] refl, (h v).walks)) }

  -- changes that leave the supervisor stack alone
  pub walk_load : (changes : ℕ → List Change) (word : ℕ) → ((v : ℕ) → BirthFits (changes v)) → ((v : ℕ) → moves (changes v) ≡ false) → ((v : ℕ) → Walk (used + 1) (kept + 1) (wrote || false) P (f v)) →
      Walk used kept wrote P (load_as changes word >>= f)
  unfolding ◌>>=◌ load_as
  walk_load changes word c m h = record { walks = (refl, λ v. (c v, subst (λ w. Walks (used + 1) (kept + 1) w P (f v)) (unmoved wrote (moves (changes v)) false (m v)) (h v).walks)) }

  pub walk_compare_exchange : (changes : ℕ → List Change) (word expected value : ℕ) → ((v : ℕ) → BirthFits (changes v)) → ((v : ℕ) → moves (changes v) ≡ false) →
      ((v : ℕ) → Walk (used + 1) (kept + 1) (wrote || (v == expected)) P (f v)) → Walk used kept wrote P (compare_exchange_as changes word expected value >>= f)
  unfolding ◌>>=◌ compare_exchange_as
  walk_compare_exchange changes word expected value c m h = record { walks = (refl, λ v. (c v, subst (λ w. Walks (used + 1) (kept + 1) w P (f v)) (unmoved wrote (moves (changes v)) (v == expected) (m v)) (h v).walks)) }

  -- any changes, where what follows may have been written before or not
  pub walk_exchange_any : (changes : ℕ → List Change) (word expected value : ℕ) → ((v : ℕ) → BirthFits (changes v)) → ((w : Bool) (v : ℕ) → Walk (used + 1) (kept + 1) w P (f v)) →
      Walk used kept wrote P (compare_exchange_as changes word expected value >>= f)
  unfolding ◌>>=◌ compare_exchange_as
  walk_exchange_any changes word expected value c h = record { walks = (refl, λ v. (c v, (h _ v).walks)) }

  pub walk_swap : (word value : ℕ) → ((v : ℕ) → Walk (used + 1) (kept + 1) (wrote || true) P (f v)) → Walk used kept wrote P (swap word value >>= f)
  unfolding ◌>>=◌ swap
  walk_swap word value h = record { walks = (refl, λ v. (no_birth [] refl, (h v).walks)) }

  pub walk_fetch_add : (changes : ℕ → List Change) (word value : ℕ) → ((v : ℕ) → BirthFits (changes v)) → ((v : ℕ) → moves (changes v) ≡ false) →
      ((v : ℕ) → Walk (used + 1) (kept + 1) (wrote || true) P (f v)) → Walk used kept wrote P (fetch_add_as changes word value >>= f)
  unfolding ◌>>=◌ fetch_add_as
  walk_fetch_add changes word value c m h = record { walks = (refl, λ v. (c v, subst (λ w. Walks (used + 1) (kept + 1) w P (f v)) (unmoved wrote (moves (changes v)) true (m v)) (h v).walks)) }

module _ {A : Type 0} {used kept : ℕ} {wrote : Bool} {P : A → Type 0} (f : Unit {0} → Script A) where
  pub walk_store : (changes : List Change) (word value : ℕ) → BirthFits changes → Walk (used + 1) kept true P (f tt) → Walk used kept wrote P (store_as changes word value >>= f)
  unfolding ◌>>=◌ store_as
  walk_store changes word value c h = record { walks = (c, h.walks) }

  -- a run of stores takes as many accesses as it has stores
  pub walk_stores : (count word value step : ℕ) → ((w : Bool) → Walk (used + count) kept w P (f tt)) → Walk used kept wrote P (stores count word value step >>= f)
  walk_stores count word value step h = record { walks = stores_walk used kept wrote P f count word value step (used + count) refl (λ w. (h w).walks) }

each_walk : {A : Type 0} (used kept : ℕ) (wrote : Bool) (P : A → Type 0) (f : Unit {0} → Script A) (word : ℕ) (values : List ℕ) (all : ℕ) → used + length values ≡ all →
    ((w : Bool) → Walks all kept w P (f tt)) → Walks used kept wrote P (store_each word values >>= f)
unfolding ◌>>=◌ store_each
each_walk used kept wrote P f word [] all e h = let same : all ≡ used = omega arith in subst (λ n. Walks n kept wrote P (f tt)) same (h wrote)
each_walk used kept wrote P f word (value ∷ values) all e h = (no_birth [] refl, each_walk (used + 1) kept true P f (word + 1) values all (omega arith) h)

module _ {A : Type 0} {used kept : ℕ} {wrote : Bool} {P : A → Type 0} (f : Unit {0} → Script A) where
  pub walk_store_each : (word : ℕ) (values : List ℕ) → ((w : Bool) → Walk (used + length values) kept w P (f tt)) → Walk used kept wrote P (store_each word values >>= f)
  walk_store_each word values h = record { walks = each_walk used kept wrote P f word values (used + length values) refl (λ w. let g = h w in g.walks) }

-- so many at most
module _ {A : Type 0} {used kept : ℕ} {wrote : Bool} {P : A → Type 0} (f : Unit {0} → Script A) where
  pub walk_stores_most : (most count word value step : ℕ) → nat_le count most ≡ true → ((w : Bool) → Walk (used + most) kept w P (f tt)) → Walk used kept wrote P (stores count word value step >>= f)
  walk_stores_most most count word value step l h =
      let m : count ≤ most = leb-true count most l in
      walk_stores f count word value step (λ w. record { walks = walks_fewer (used + most) kept (used + count) kept w P (f tt) (omega arith) (omega arith) (let g = h w in g.walks) })

checked_walk : {A : Type 0} (used kept : ℕ) (P : A → Type 0) (b : Bool) (page : ℕ) (e : Fault) (f : ℕ → Script A) → Walk (used + 1) (kept + 1) false P (f page) →
    Walk (used + 1) (kept + 1) false P (cond b (done page) (fault e) >>= f)
checked_walk used kept P true page e f h = walk_return f page h
checked_walk used kept P false page e f h = walk_fault_then f e (walks_fit (used + 1) (kept + 1) false P (f page) h.walks) refl

look_in_walk : {A : Type 0} (used kept : ℕ) (P : A → Type 0) (changes : ℕ → List Change) (at : Option ℕ) (kd : Kind) (w : Who) (addr : ℕ) (f : ℕ → Script A) → ((v : ℕ) → BirthFits (changes v)) →
    ((v : ℕ) → moves (changes v) ≡ false) → ((page : ℕ) → Walk (used + 1) (kept + 1) false P (f page)) → Walk used kept false P (look_in_as changes at kd w addr >>= f)
unfolding ◌>>=◌ look_in_as
look_in_walk used kept P changes None kd w addr f c m h = let p = h 0 in walk_fault (fits_fewer (used + 1) (kept + 1) used kept (omega arith) (omega arith) (walks_fit (used + 1) (kept + 1) false P (f 0) p.walks)) refl
look_in_walk used kept P changes (Some page) kd w addr f c m h =
    record {
      walks = (
        refl,
        λ v. (
          c v,
          subst (λ wrote. Walks (used + 1) (kept + 1) wrote P (cond (allows v kd w) (done page) (fault (page_fault v kd w addr)) >>= f))
              (unmoved false (moves (changes v)) false (m v)) (checked_walk used kept P (allows v kd w) page (page_fault v kd w addr) f (h page)).walks,
        ),
      );
    }

probe_in_walk : {A : Type 0} (used kept : ℕ) (wrote : Bool) (P : A → Type 0) (at : Option ℕ) (kd : Kind) (w : Who) (f : Option ℕ → Script A) →
    ((found : Option ℕ) → Walk (used + 1) (kept + 1) (wrote || false) P (f found)) → Walk used kept wrote P (probe_in at kd w >>= f)
unfolding ◌>>=◌ probe_in
probe_in_walk used kept wrote P None kd w f h =
    let p = h None in
    record { walks = walks_fewer (used + 1) (kept + 1) used kept wrote P (f None) (omega arith) (omega arith) (subst (λ w. Walks (used + 1) (kept + 1) w P (f None)) (or_none wrote) p.walks) }
probe_in_walk used kept wrote P (Some page) kd w f h = record { walks = (refl, λ v. (no_birth [] refl, (h (cond (allows v kd w) (Some page) None)).walks)) }

module _ {A : Type 0} {used kept : ℕ} {P : A → Type 0} where
  pub walk_check_address : (misaligned : Fault) (addr size : ℕ) (f : Unit {0} → Script A) → Walk used kept false P (f tt) → Walk used kept false P (check_address_as misaligned addr size >>= f)
  unfolding check_address_as
  walk_check_address misaligned addr size f h =
      let e = walks_fit used kept false P (f tt) h.walks in
      walk_if_then f (canonical addr) (cond (addr % size == 0) (done tt) (fault misaligned)) (fault general_protection)
      (λ _. walk_if_then f (addr % size == 0) (done tt) (fault misaligned) (λ _. walk_return f tt h) (λ _. walk_fault_then f _ e refl))
      (λ _. walk_fault_then f _ e refl)

  pub walk_look : (changes : ℕ → List Change) (kd : Kind) (w : Who) (addr : ℕ) (f : ℕ → Script A) → ((v : ℕ) → BirthFits (changes v)) → ((v : ℕ) → moves (changes v) ≡ false) →
      ((page : ℕ) → Walk (used + 1) (kept + 1) false P (f page)) → Walk used kept false P (look_as changes kd w addr >>= f)
  unfolding look_as
  walk_look changes kd w addr f c m h = look_in_walk used kept P changes (page_at addr) kd w addr f c m h

module _ {A : Type 0} {used kept : ℕ} {wrote : Bool} {P : A → Type 0} where
  pub walk_probe : (kd : Kind) (w : Who) (addr : ℕ) (f : Option ℕ → Script A) → ((found : Option ℕ) → Walk (used + 1) (kept + 1) (wrote || false) P (f found)) → Walk used kept wrote P (probe kd w addr >>= f)
  unfolding probe
  walk_probe kd w addr f h = probe_in_walk used kept wrote P (page_at addr) kd w f h

assoc_walks : {A B C : Type 0} (used kept : ℕ) (wrote : Bool) (P : A → Type 0) (m : Script C) (h : C → Script B) (f : B → Script A) → Walks used kept wrote P (m >>= (λ x. h x >>= f)) → Walks used kept wrote P ((m >>= h) >>= f)
unfolding ◌>>=◌
assoc_walks used kept wrote P (done x) h f w = w
assoc_walks used kept wrote P (fault e) h f w = w
assoc_walks used kept wrote P (ask a changes c) h f w = (w.0, λ v. let g = w.1 v in (g.0, assoc_walks (used + 1) (kept + 1) (acted wrote a v (changes v)) P (c v) h f g.1))
assoc_walks used kept wrote P (tell word value changes s) h f w = (w.0, assoc_walks (used + 1) kept true P s h f w.1)

module _ {A B C : Type 0} {used kept : ℕ} {wrote : Bool} {P : A → Type 0} where
  pub walk_assoc : (m : Script C) (h : C → Script B) (f : B → Script A) → Walk used kept wrote P (m >>= (λ x. h x >>= f)) → Walk used kept wrote P ((m >>= h) >>= f)
  walk_assoc m h f w = record { walks = assoc_walks used kept wrote P m h f w.walks }

pub ruleset walk_parts = (
  walk_done,
  walk_fault,
  walk_if,
  walk_return,
  walk_fault_then,
  walk_if_then,
  walk_assoc,
  walk_read_entry,
  walk_load,
  walk_compare_exchange,
  walk_swap,
  walk_fetch_add,
  walk_store,
  walk_stores,
  walk_check_address,
  walk_look,
  walk_probe,
  no_birth,
  birth_if,
  moves_if,
)

-- ---- operands

module _ {A : Type 0} {used kept : ℕ} {P : A → Type 0} where
  pub walk_load_at : (addr count : ℕ) (f : ℕ → Script A) → ((v : ℕ) → Walk (used + 1 + 1) (kept + 1 + 1) false P (f v)) → Walk used kept false P (load_at addr count >>= f)
  unfolding load_at load_word
  walk_load_at addr count f h = search walk_parts depth 12

  pub walk_write_place : (addr : ℕ) (f : ℕ → Script A) → ((word : ℕ) → Walk (used + 1) (kept + 1) false P (f word)) → Walk used kept false P (write_place addr >>= f)
  unfolding write_place
  walk_write_place addr f h = search walk_parts depth 12

  pub walk_store_at : (addr value : ℕ) (f : Unit {0} → Script A) → Walk (used + 1 + 1) (kept + 1) true P (f tt) → Walk used kept false P (store_at addr value >>= f)
  unfolding store_at
  walk_store_at addr value f h = search (walk_parts, walk_write_place) depth 12

  pub walk_read : (arch : Arch) (s : Size) (o : Operand) (next : ℕ) (f : ℕ → Script A) → ((v : ℕ) → Walk (used + 1 + 1) (kept + 1 + 1) false P (f v)) → Walk used kept false P (read_operand arch s o next >>= f)
  unfolding read_operand
  walk_read arch s (operand.Reg r) next f h = walk_return f (register arch r % limit s) (record {
    walks =
        walks_fewer (used + 1 + 1) (kept + 1 + 1) used kept false P (f (register arch r % limit s)) (omega arith) (omega arith) (let g = h (register arch r % limit s) in g.walks);
  })
  walk_read arch s (operand.Imm z) next f h = walk_return f (cast_unsigned (width s) z) (record {
    walks =
        walks_fewer (used + 1 + 1) (kept + 1 + 1) used kept false P (f (cast_unsigned (width s) z)) (omega arith) (omega arith) (let g = h (cast_unsigned (width s) z) in g.walks);
  })
  walk_read arch s (operand.Mem m) next f h = walk_load_at _ _ f h

-- ---- the gate, where nothing faults

-- nobody is born with the way out
none_freed : (ends : Leaving) (k : ℕ) → BirthFits (freed ends k)
none_freed leaving.Back k = no_birth (Freed k ∷ []) refl
none_freed leaving.Popped k = no_birth (Popped ∷ Freed k ∷ []) refl
none_freed (leaving.Ended status) k = no_birth (Ended ∷ Freed k ∷ []) refl

-- From here on it isn't known whether the exchanges have written.
module _ {A : Type 0} {used kept : ℕ} {wrote : Bool} {P : A → Type 0} where
  pub walk_gate_in : (k : ℕ) (f : Option ℕ → Script A) → ((w : Bool) → Walk (used + 1 + 1 + 1) (kept + 1 + 1) w P (f None)) →
      ((w : Bool) (found : ℕ) → Walk (used + 1 + 1) (kept + 1 + 1) w P (f (Some found))) → Walk used kept wrote P (gate_in k >>= f)
  unfolding gate_in
  walk_gate_in k f free busy = search (walk_parts, walk_exchange_any) depth 20

  pub walk_gate_out : (ends : Leaving) (k : ℕ) (f : Unit {0} → Script A) → ((w : Bool) → Walk (used + 1 + 1) (kept + 1 + 1) w P (f tt)) → Walk used kept wrote P (gate_out ends k >>= f)
  unfolding gate_out
  walk_gate_out ends k f h = search (walk_parts, walk_exchange_any, none_freed) depth 20

-- ---- the services on signals: loads of several words, and structures, where nothing faults

loads_walk : {A : Type 0} (used kept : ℕ) (wrote : Bool) (P : A → Type 0) (f : List ℕ → Script A) (count word u k : ℕ) → used + count ≡ u → kept + count ≡ k →
    ((values : List ℕ) → Walks u k wrote P (f values)) → Walks used kept wrote P (loads count word >>= f)
unfolding ◌>>=◌ loads
loads_walk used kept wrote P f zero word u k e d h =
    let same : u ≡ used = omega arith in
    let also : k ≡ kept = omega arith in
    subst (λ n. Walks n kept wrote P (f [])) same (subst (λ m. Walks u m wrote P (f [])) also (h []))
loads_walk used kept wrote P f (suc count) word u k e d h = (
  refl,
  λ v. (
    no_birth [] refl,
    subst (λ w. Walks (used + 1) (kept + 1) w P ((loads count (word + 1) >>= (λ values. done (v ∷ values))) >>= f)) (sym (or_none wrote))
        (assoc_walks (used + 1) (kept + 1) wrote P (loads count (word + 1)) (λ values. done (v ∷ values)) f
        (loads_walk (used + 1) (kept + 1) wrote P (λ values. f (v ∷ values)) count (word + 1) u k (omega arith) (omega arith) (λ values. h (v ∷ values)))),
  ),
)

module _ {A : Type 0} {used kept : ℕ} {wrote : Bool} {P : A → Type 0} where
  -- fewer accesses and answers before it do no harm
  pub walk_fewer : (n k : ℕ) (s : Script A) → nat_le n used ≡ true → nat_le k kept ≡ true → Walk used kept wrote P s → Walk n k wrote P s
  walk_fewer n k s l m h = record { walks = walks_fewer used kept n k wrote P s (leb-true n used l) (leb-true k kept m) h.walks }

  pub walk_loads : (count word : ℕ) (f : List ℕ → Script A) → ((w : Bool) (values : List ℕ) → Walk (used + count) (kept + count) w P (f values)) → Walk used kept wrote P (loads count word >>= f)
  walk_loads count word f h = record { walks = loads_walk used kept wrote P f count word (used + count) (kept + count) refl refl (λ values. let g = h wrote values in g.walks) }

  pub walk_fetch_or : (word value : ℕ) (f : ℕ → Script A) → ((w : Bool) (v : ℕ) → Walk (used + 1) (kept + 1) w P (f v)) → Walk used kept wrote P (fetch_or word value >>= f)
  unfolding ◌>>=◌ fetch_or
  walk_fetch_or word value f h = record { walks = (refl, λ v. (no_birth [] refl, (h _ v).walks)) }

  pub walk_fetch_and : (word value : ℕ) (f : ℕ → Script A) → ((w : Bool) (v : ℕ) → Walk (used + 1) (kept + 1) w P (f v)) → Walk used kept wrote P (fetch_and word value >>= f)
  unfolding ◌>>=◌ fetch_and
  walk_fetch_and word value f h = record { walks = (refl, λ v. (no_birth [] refl, (h _ v).walks)) }

-- two accesses and answers fewer before it, and one
module _ {A B : Type 0} {used kept : ℕ} {w : Bool} {P : A → Type 0} where
  pub walk_less : (f : B → Script A) (x : B) → ((w : Bool) (x : B) → Walk (used + 1 + 1) (kept + 1 + 1) w P (f x)) → Walk used kept w P (f x)
  walk_less f x h = record { walks = walks_fewer (used + 1 + 1) (kept + 1 + 1) used kept w P (f x) (omega arith) (omega arith) (let g = h w x in g.walks) }

  pub walk_less_one : (f : B → Script A) (x : B) → ((w : Bool) (x : B) → Walk (used + 1) (kept + 1) w P (f x)) → Walk used kept w P (f x)
  walk_less_one f x h = record { walks = walks_fewer (used + 1) (kept + 1) used kept w P (f x) (omega arith) (omega arith) (let g = h w x in g.walks) }

-- what follows nothing comes after as many accesses at most as what follows something
module _ {A B C : Type 0} {used kept : ℕ} {P : A → Type 0} where
  pub walk_if_found : {wrote : Bool} (o : Option C) (g : C → Script (Option B)) (f : Option B → Script A) → Walk used kept wrote P (f None) → ((x : C) → Walk used kept wrote P (g x >>= f)) →
      Walk used kept wrote P (if_found o g >>= f)
  walk_if_found None g f n h = walk_return f None n
  walk_if_found (Some x) g f n h = h x

module _ {A : Type 0} {used kept : ℕ} {wrote : Bool} {P : A → Type 0} where
  pub walk_span : (kd : Kind) (addr last : ℕ) (f : Option ℕ → Script A) → ((w : Bool) (found : Option ℕ) → Walk (used + 1 + 1) (kept + 1 + 1) w P (f found)) → Walk used kept wrote P (span kd addr last >>= f)
  unfolding span
  walk_span kd addr last f h =
      let fewer : (w : Bool) (n : ℕ) → Walk (used + 1) (kept + 1) w P (f None) = λ w n. record {
        walks =
            walks_fewer (used + 1 + 1) (kept + 1 + 1) (used + 1) (kept + 1) w P (f None) (omega arith) (omega arith) (let g = h w None in g.walks);
      } in
      search (walk_parts, walk_if_found, fewer, h) depth 20

pub ruleset walk_rules = (walk_parts, walk_store_each, walk_stores_most, walk_load_at, walk_write_place, walk_store_at, walk_read, walk_gate_in, walk_gate_out)

-- ---- what it tells of a script that was played

pub kept_cons : (x : ℕ) (vs : List ℕ) (a : Access) (v : ℕ) → kept_after (x ∷ vs) a v ≡ x ∷ kept_after vs a v
kept_cons x vs a v = elim (keeps a) as (λ b. cond b ((x ∷ vs) ++ v ∷ []) (x ∷ vs) ≡ x ∷ cond b (vs ++ v ∷ []) vs) [ true ↦ refl | false ↦ refl ]

-- The accesses so far are the first ones of the script, and these are the answers kept of them.
abbrev pub Spent : {A : Type 0} → Script A → ℕ → List ℕ → Type 0
Spent s zero [] = Unit {0}
Spent s zero (v ∷ vs) = ⊥
Spent (done x) (suc n) vs = ⊥
Spent (fault e) (suc n) vs = ⊥
Spent (ask a changes f) (suc n) [] = ⊥
Spent (ask a changes f) (suc n) (v ∷ vs) = Spent (f v) n vs
Spent (tell word value changes s) (suc n) vs = Spent s n vs

module _ {A : Type 0} (P : A → Type 0) where
  -- one access more
  pub spent_more : (wrote : Bool) (s : Script A) (n k i : ℕ) (vs : List ℕ) (a : Access) (own : ℕ → List Change) (v : ℕ) → Walks n k wrote P s → Spent s i vs → play s i vs ≡ Wants a own →
      Spent s (suc i) (kept_after vs a v)
  spent_more wrote (done x) n k i vs a own v f h w = cc
  spent_more wrote (fault e) n k i vs a own v f h w = cc
  spent_more wrote (ask b changes c) n k zero [] a own v f h w =
      let e : a ≡ b = cc in
      let kept : keeps a ≡ true = ap keeps e ∙ f.0 in
      rw kept tt
  spent_more wrote (ask b changes c) n k zero (x ∷ vs) a own v f h w = absurd h
  spent_more wrote (ask b changes c) n k (suc i) [] a own v f h w = absurd h
  spent_more wrote (ask b changes c) n k (suc i) (x ∷ vs) a own v f h w =
      let g = f.1 x in
      subst (λ l. Spent (ask b changes c) (suc (suc i)) l) (sym (kept_cons x vs a v)) (spent_more (acted wrote b x (changes x)) (c x) (n + 1) (k + 1) i vs a own v g.1 h w)
  spent_more wrote (tell word value changes s) n k zero [] a own v f h w =
      let e : a ≡ access.Store word value = cc in
      let kept : keeps a ≡ false = ap keeps e in
      rw kept tt
  spent_more wrote (tell word value changes s) n k zero (x ∷ vs) a own v f h w = absurd h
  spent_more wrote (tell word value changes s) n k (suc i) vs a own v f h w = spent_more true s (n + 1) k i vs a own v f.1 h w

  -- no more accesses and answers than there may be
  pub spent_fits : (wrote : Bool) (s : Script A) (n k i : ℕ) (vs : List ℕ) (a : Access) (own : ℕ → List Change) → Walks n k wrote P s → Spent s i vs → play s i vs ≡ Wants a own →
      (n + i < most_accesses) × (k + length vs ≤ most_kept)
  spent_fits wrote (done x) n k i vs a own f h w = cc
  spent_fits wrote (fault e) n k i vs a own f h w = cc
  spent_fits wrote (ask b changes c) n k zero [] a own f h w =
      let g = f.1 0 in
      let r = bounds_of (n + 1) (k + 1) (walks_fit (n + 1) (k + 1) (acted wrote b 0 (changes 0)) P (c 0) g.1) in
      (omega arith, omega arith)
  spent_fits wrote (ask b changes c) n k zero (x ∷ vs) a own f h w = absurd h
  spent_fits wrote (ask b changes c) n k (suc i) [] a own f h w = absurd h
  spent_fits wrote (ask b changes c) n k (suc i) (x ∷ vs) a own f h w =
      let g = f.1 x in
      let r = spent_fits (acted wrote b x (changes x)) (c x) (n + 1) (k + 1) i vs a own g.1 h w in
      (omega arith, omega arith)
  spent_fits wrote (tell word value changes s) n k zero [] a own f h w = let r = bounds_of (n + 1) k (walks_fit (n + 1) k true P s f.1) in (omega arith, omega arith)
  spent_fits wrote (tell word value changes s) n k zero (x ∷ vs) a own f h w = absurd h
  spent_fits wrote (tell word value changes s) n k (suc i) vs a own f h w =
      let r = spent_fits true s (n + 1) k i vs a own f.1 h w in
      (omega arith, r.1)

  -- who is born at the next access
  pub births : (wrote : Bool) (s : Script A) (n k i : ℕ) (vs : List ℕ) (a : Access) (changes : ℕ → List Change) (answer : ℕ) → Walks n k wrote P s → play s i vs ≡ Wants a changes → BirthFits (changes answer)
  births wrote (done x) n k i vs a changes answer f w = cc
  births wrote (fault e) n k i vs a changes answer f w = cc
  births wrote (ask b own c) n k zero vs a changes answer f w =
      let e : own ≡ changes = cc in
      let g = f.1 answer in
      subst (λ (l : ℕ → List Change). BirthFits (l answer)) e g.0
  births wrote (ask b own c) n k (suc i) [] a changes answer f w =
      let e : own ≡ changes = cc in
      let g = f.1 answer in
      subst (λ (l : ℕ → List Change). BirthFits (l answer)) e g.0
  births wrote (ask b own c) n k (suc i) (v ∷ vs) a changes answer f w = let g = f.1 v in births (acted wrote b v (own v)) (c v) (n + 1) (k + 1) i vs a changes answer g.1 w
  births wrote (tell word value own s) n k zero vs a changes answer f w =
      let e : (λ (v : ℕ). own) ≡ changes = cc in
      subst (λ (l : ℕ → List Change). BirthFits (l answer)) e f.0
  births wrote (tell word value own s) n k (suc i) vs a changes answer f w = births true s (n + 1) k i vs a changes answer f.1 w

-- what holds of a result
abbrev pub OnOver : {A : Type 0} → (A → Type 0) → Played A → Type 0
OnOver P (Completed x left values) = P x
OnOver P (Faulted e) = Unit {0}
OnOver P (Wants a changes) = Unit {0}

pub over_play : {A : Type 0} (P : A → Type 0) (wrote : Bool) (s : Script A) (n k i : ℕ) (vs : List ℕ) → Walks n k wrote P s → OnOver P (play s i vs)
over_play P wrote (done x) n k i vs h = h.1
over_play P wrote (fault e) n k i vs h = tt
over_play P wrote (ask a changes c) n k zero vs h = tt
over_play P wrote (ask a changes c) n k (suc i) [] h = tt
over_play P wrote (ask a changes c) n k (suc i) (v ∷ vs) h = let g = h.1 v in over_play P (acted wrote a v (changes v)) (c v) (n + 1) (k + 1) i vs g.1
over_play P wrote (tell word value changes s) n k zero vs h = tt
over_play P wrote (tell word value changes s) n k (suc i) vs h = over_play P true s (n + 1) k i vs h.1

pub before_it : (wrote b : Bool) → (wrote || b) ≡ false → wrote ≡ false
before_it true b e = cc
before_it false b e = refl

pub none_of : (wrote b c : Bool) → (wrote || (b || c)) ≡ false → b ≡ false
none_of true b c e = cc
none_of false true c e = cc
none_of false false c e = refl

pub none_written : (wrote b c : Bool) → (wrote || (b || c)) ≡ false → c ≡ false
none_written true b c e = cc
none_written false true c e = cc
none_written false false c e = e

-- a script that comes to a fault began where nothing was written
pub unacted : {A : Type 0} (P : A → Type 0) (wrote : Bool) (s : Script A) (n k i : ℕ) (vs : List ℕ) (e : Fault) → Walks n k wrote P s → play s i vs ≡ Faulted e → wrote ≡ false
unacted P wrote (done x) n k i vs e h p = cc
unacted P wrote (fault x) n k zero vs e h p = h.1
unacted P wrote (fault x) n k (suc i) vs e h p = h.1
unacted P wrote (ask a changes c) n k zero vs e h p = cc
unacted P wrote (ask a changes c) n k (suc i) [] e h p = cc
unacted P wrote (ask a changes c) n k (suc i) (v ∷ vs) e h p =
    let g = h.1 v in
    before_it wrote (moves (changes v) || writes a v) (unacted P (acted wrote a v (changes v)) (c v) (n + 1) (k + 1) i vs e g.1 p)
unacted P wrote (tell word value changes s) n k zero vs e h p = cc
unacted P wrote (tell word value changes s) n k (suc i) vs e h p = absurd (let t = unacted P true s (n + 1) k i vs e h.1 p in cc)

keep_one : (a : Access) (v : ℕ) → keeps a ≡ true → kept_after [] a v ≡ v ∷ []
keep_one a v e = rw e refl

keep_none : (a : Access) (v : ℕ) → keeps a ≡ false → kept_after [] a v ≡ []
keep_none a v e = rw e refl

-- A script that an access has brought to a fault had written nothing before it, and the access left the supervisor stack alone.
pub still_at : {A : Type 0} (P : A → Type 0) (wrote : Bool) (s : Script A) (n k i : ℕ) (vs : List ℕ) (a : Access) (own : ℕ → List Change) (v : ℕ) (e : Fault) → Walks n k wrote P s → Spent s i vs →
    play s i vs ≡ Wants a own → play s (suc i) (kept_after vs a v) ≡ Faulted e → moves (own v) ≡ false
still_at P wrote (done x) n k i vs a own v e f h w p = cc
still_at P wrote (fault x) n k i vs a own v e f h w p = cc
still_at P wrote (ask b changes c) n k zero [] a own v e f h w p =
    let same : b ≡ a = cc in
    let changed : changes ≡ own = cc in
    let kept : keeps a ≡ true = sym (ap keeps same) ∙ f.0 in
    let q : play (ask b changes c) (suc zero) (v ∷ []) ≡ Faulted e = subst (λ (l : List ℕ). play (ask b changes c) (suc zero) l ≡ Faulted e) (keep_one a v kept) p in
    let g = f.1 v in
    subst (λ (l : ℕ → List Change). moves (l v) ≡ false) changed (none_of wrote (moves (changes v)) (writes b v) (unacted P (acted wrote b v (changes v)) (c v) (n + 1) (k + 1) zero [] e g.1 q))
still_at P wrote (ask b changes c) n k zero (x ∷ vs) a own v e f h w p = absurd h
still_at P wrote (ask b changes c) n k (suc i) [] a own v e f h w p = absurd h
still_at P wrote (ask b changes c) n k (suc i) (x ∷ vs) a own v e f h w p =
    let g = f.1 x in
    still_at P (acted wrote b x (changes x)) (c x) (n + 1) (k + 1) i vs a own v e g.1 h w
    (subst (λ (l : List ℕ). play (ask b changes c) (suc (suc i)) l ≡ Faulted e) (kept_cons x vs a v) p)
still_at P wrote (tell word value changes s) n k zero [] a own v e f h w p =
    let same : access.Store word value ≡ a = cc in
    let kept : keeps a ≡ false = sym (ap keeps same) in
    let q : play (tell word value changes s) (suc zero) [] ≡ Faulted e = subst (λ (l : List ℕ). play (tell word value changes s) (suc zero) l ≡ Faulted e) (keep_none a v kept) p in
    absurd (let t = unacted P true s (n + 1) k zero [] e f.1 q in cc)
still_at P wrote (tell word value changes s) n k zero (x ∷ vs) a own v e f h w p = absurd h
still_at P wrote (tell word value changes s) n k (suc i) vs a own v e f h w p = still_at P true s (n + 1) k i vs a own v e f.1 h w p
