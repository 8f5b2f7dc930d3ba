-- What the exchange of RSTORSSP and the first one of the kernel's entry come to, by the book. Source: own.
use Rattle.std.proofs.Common.{◌≡◌, ℕ, ◌+◌, ◌-◌, ◌<◌, Option, Some, None, refl, sym, ◌∙◌, ap, subst, arith}
use Rattle.std.specs.Prelude.{◌/◌, List, slice_get, slice_index}
use Rattle.std.proofs.Math.Nat.{mod-lt}
use Rattle.cet_words.specs.Access.{answer}
use Rattle.cet_words.specs.Job.{JobData, IsJob}
use Rattle.cet_words.specs.Layout.{first_shadow_page, page_at, shadow_start, token, word_in}
use Rattle.cet_isa.specs.declared.threads.Arch.{Arch}
use Rattle.cet_isa.specs.declared.threads.End.{End}
use Rattle.cet_book.specs.Book.{Book, region, top}
use Rattle.cet_book.specs.Facts.{Place}
use Rattle.cet_book.specs.Shape.{Shape}
use Rattle.cet_book.specs.Stack.{slot_word}
use Rattle.cet_page.specs.Core.{Core, taken}
use Rattle.cet_page.specs.Entering.{AtGate, at_syscall, at_signal, at_fault, gate_exchange}
use Rattle.cet_page.specs.Gate.{stack_of as own_stack}
use Rattle.cet_page.specs.Machine.{Machine, Thread}
use Rattle.cet_page.specs.Restoring.{AtRestore, token_exchange}
use Rattle.cet_page.specs.Tokens.{restore_token, restore_token_at}
use Rattle.cet_page.specs.ValsData.{ValsData, no_vals}
use Rattle.cet_page.specs.Within.{CoreAt}
use Rattle.cet_page.specs.Word64.{add64}
use Rattle.cet_page.proofs.EnterLaws.{enters_of}
use Rattle.cet_page.proofs.RestoreLaws.{restores_of}
use Rattle.cet_own.specs.Enters.{EntersRight, ThreadEnters, TurnEnters}
use Rattle.cet_own.specs.Gates.{AccessGates, ThreadGates, TurnGates}
use Rattle.cet_own.specs.Restores.{RestoresRight, ThreadRestores, TurnRestores}
use Rattle.cet_own.specs.ToldTokens.{AccessTokens, IsToken, NotedTokens, ThreadTokens, TurnTokens}
use Rattle.cet_own.proofs.Marks.{parked_place}
use Rattle.cet_own.specs.Owed.{State}
use Rattle.cet_own.proofs.Places.{shadow_page, shadow_slot}
use Rattle.cet_own.proofs.StandsAt.{core_at, token_found}
use Rattle.cet_own.specs.Threads.{ThreadStands}
use Rattle.cet_own.proofs.TokenWords.{restore_token_is}
use Rattle.cet_own.proofs.Turns.{Invariant}

-- ---- a thread that has made an access of its row goes on

goes_on : (job : JobData) (core : Core) (over : Option End) → core.over ≡ over → CoreAt job core over → (core.vals ≡ no_vals → ⊥) → core.over ≡ None
goes_on job core None e h n = e
goes_on job core (Some x) e h n = absurd (n h.vals)

some_vals : (vals : ValsData) → 0 < vals.accesses → vals ≡ no_vals → ⊥
some_vals vals l e = let none = ap (λ (v : ValsData). v.accesses) e in omega arith

at_restore : (job : JobData) (core : Core) (p : ℕ) → AtRestore job core p → core.vals ≡ no_vals → ⊥
at_restore job core p at = some_vals core.vals (let seen = ap (λ (v : ValsData). v.accesses) at.seen in omega arith)

at_gate : (job : JobData) (core : Core) → AtGate job core → core.vals ≡ no_vals → ⊥
at_gate job core (at_syscall len pending entry due unposted unmasked rip reads seen) =
    some_vals core.vals (let is = ap (λ (v : ValsData). v.accesses) seen in omega arith)
at_gate job core (at_signal signal pending entry due unposted unmasked seen) =
    some_vals core.vals (let is = ap (λ (v : ValsData). v.accesses) seen in omega arith)
at_gate job core (at_fault e entry due seen) = some_vals core.vals (let is = ap (λ (v : ValsData). v.accesses) seen in omega arith)

going : (job : JobData) (m : Machine) (t : ℕ) (s : State) (thread : Thread) → Invariant job m s → slice_get m.threads t ≡ Some thread → (thread.core.vals ≡ no_vals → ⊥) → thread.core.over ≡ None
going job m t s thread st found n =
    let stands = subst (ThreadStands job t s) found (st.threads t) in
    goes_on job thread.core thread.core.over refl (core_at job t s thread thread.core.over stands.1) n

-- ---- RSTORSSP

token_place : (b : Book) (p : ℕ) → Shape b → IsToken b p → Place p
token_place b p shape k =
    let at = k.2 in
    let here : top (region b k.0) - 8 ≡ p = omega arith in
    subst Place here (parked_place b k.0 shape k.1).0

token_is : (p : ℕ) → Place p → restore_token_at p ≡ p + 9
token_is p place =
    let even = place.even in
    let high = place.high in
    let sum : add64 p 8 ≡ p + 8 = omega arith in
    ap restore_token sum ∙ restore_token_is (p + 8) (omega arith) ∙ omega arith

-- the exchange is of the word at p
word_found : (words : List ℕ) (arch : Arch) (p page : ℕ) → Place p → page_at p ≡ Some page → answer words (token_exchange arch p page) ≡ slot_word words p
word_found words arch p page place within =
    let is = shadow_page p place.low place.high in
    let same : page ≡ first_shadow_page + (p - shadow_start) / 4096 = (let both = sym within ∙ is in cc) in
    ap (λ n. slice_index words (word_in n p)) same ∙ ap (slice_index words) (shadow_slot p place.low place.high)

restores_right : (job : JobData) (m : Machine) (t : ℕ) (s : State) (next : Book) (thread : Thread) → Invariant job m s → slice_get m.threads t ≡ Some thread → ThreadTokens job m s.book next (Some thread) →
    (p : ℕ) (at : AtRestore job thread.core p) → RestoresRight job s.book thread.core p (answer m.words (token_exchange thread.core.arch p at.page))
restores_right job m t s next thread st found tokens p at =
    let core : Core = thread.core in
    let v : ℕ = answer m.words (token_exchange core.arch p at.page) in
    let over = going job m t s thread st found (at_restore job core p at) in
    let does = restores_of job core (taken job core v).core v (taken job core v).noted over refl refl p at in
    let stood : v ≡ restore_token_at p → IsToken s.book p = λ e.
    (let told : NotedTokens s.book next (taken job core v).noted = subst (AccessTokens job m thread s.book next) (does.exchange at.page at.within) tokens in
    subst (NotedTokens s.book next) (does.takes e).0 told) in
    let finds : IsToken s.book p → v ≡ restore_token_at p = λ k.
    (let place = token_place s.book p st.holds.sound.book.shape k in
    word_found m.words core.arch p at.page place at.within ∙ (token_found m.words s.book p st.holds.marks place).1 k ∙ sym (token_is p place)) in
    record {
      exactly = (stood, finds);
      takes = λ k. (does.takes (finds k)).0;
      misses = λ n. (does.misses (λ e. n (stood e))).0;
      does = does;
    }

restores_by : (job : JobData) (m : Machine) (t : ℕ) (s : State) (next : Book) (o : Option Thread) → Invariant job m s → slice_get m.threads t ≡ o → ThreadTokens job m s.book next o → ThreadRestores job m s.book o
restores_by job m t s next None st found tokens = tt
restores_by job m t s next (Some thread) st found tokens = λ p at. restores_right job m t s next thread st found tokens p at

-- a turn that tells right of tokens takes stacks by the book
pub turn_restores : (job : JobData) (m : Machine) (t : ℕ) (s : State) (next : Book) → Invariant job m s → TurnTokens job m s.book next t → TurnRestores job m s.book t
turn_restores job m t s next st tokens = restores_by job m t s next (slice_get m.threads t) st refl tokens

-- ---- the kernel's entry

stack_low : (job : JobData) (arch : Arch) → IsJob job → own_stack job arch < 8
stack_low job arch j =
    let low = j.procs_low in
    let high = j.procs_high in
    let l : own_stack job arch < job.procs = mod-lt arch.number (omega arith) in
    omega arith

enters_right : (job : JobData) (m : Machine) (t : ℕ) (s : State) (thread : Thread) → IsJob job → Invariant job m s → slice_get m.threads t ≡ Some thread → ThreadGates job m s.book (Some thread) →
    AtGate job thread.core → EntersRight job s.book thread.core (answer m.words (gate_exchange (own_stack job thread.core.arch)))
enters_right job m t s thread j st found gates at =
    let core : Core = thread.core in
    let k : ℕ = own_stack job core.arch in
    let v : ℕ = answer m.words (gate_exchange k) in
    let over = going job m t s thread st found (at_gate job core at) in
    let does = enters_of job core (taken job core v).core v (taken job core v).noted over refl refl at in
    let finds = subst (AccessGates m s.book thread) does.exchange gates in
    let exactly = finds.enters k (token k + 1) (stack_low job core.arch j) refl in
    record {
      exactly = exactly;
      takes = λ free. ap (λ (a : Arch). a.held) (does.takes (exactly.1 free)).1;
      waits = λ busy. (does.waits (λ e. busy (exactly.0 e))).0;
      does = does;
    }

enters_by : (job : JobData) (m : Machine) (t : ℕ) (s : State) (o : Option Thread) → IsJob job → Invariant job m s → slice_get m.threads t ≡ o → ThreadGates job m s.book o → ThreadEnters job m s.book o
enters_by job m t s None j st found gates = tt
enters_by job m t s (Some thread) j st found gates = λ at. enters_right job m t s thread j st found gates at

-- a turn whose accesses find tokens right enters the kernel by the book
pub turn_enters : (job : JobData) (m : Machine) (t : ℕ) (s : State) → IsJob job → Invariant job m s → TurnGates job m s.book t → TurnEnters job m s.book t
turn_enters job m t s j st gates = enters_by job m t s (slice_get m.threads t) j st refl gates
