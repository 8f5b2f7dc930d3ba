-- The lowest signal of a set, found one by one. Source: own.
use Rattle.std.proofs.Common.{◌≡◌, ℕ, suc, ◌+◌, ◌-◌, ◌/◌, ◌%◌, ◌<◌, ◌≤◌, zero, Bool, true, false, cond, Option, Some, None, ap, sym, ◌∙◌, arith, refl, subst}
use Rattle.std.specs.Prelude.{◌^◌, ◌==◌}
use Rattle.std.specs.Int.Bits.{bit_and}
use Rattle.std.proofs.lemmas.Nat.Bits.{shr_and_one}
use Rattle.std.specs.Prelude.{List, [], length, get_or, slice_get, nat_le, IfSome}
use Rattle.std.proofs.lemmas.List.Sums.{length-filter, count_by-le-length}
use Rattle.std.proofs.lemmas.List.Elements.{All-filter, All-get_or}
use Rattle.std.proofs.lemmas.Option.{slice_get_within, get_or_from_slice_get, none-some, cond_some}
use Rattle.std.specs.List.{count_by}
use Rattle.cet_words.specs.Job.{JobData, IsJob, IsSignal}
use Rattle.cet_words.specs.declared.images.Signal.{Signal}
use Rattle.cet_isa.specs.declared.threads.Arch.{Arch}
use Rattle.cet_page.specs.Posting.{lowest, listed, due_by, due_signal}
use Rattle.cet_cpu.specs.Due.{IsDue}

by_bit : (set from n : ℕ) (b : Bool) → (set / 2 ^ (from - 1) % 2 == 1) ≡ b → lowest set from (suc n) ≡ cond b (Some from) (lowest set (from + 1) n)
unfolding lowest
by_bit set from n b e = ap (λ (b : Bool). cond b (Some from) (lowest set (from + 1) n)) e

-- its bit is set
pub lowest_here : (set from : ℕ) → from < 32 → bit_and (set / 2 ^ (from - 1)) 1 ≡ 1 → lowest set from (32 - from) ≡ Some from
lowest_here set from l e =
    ap (lowest set from) (let n : 32 - from ≡ suc (31 - from) = omega arith in n)
    ∙ by_bit set from (31 - from) true (ap (λ (bit : ℕ). bit == 1) (sym (shr_and_one set (from - 1)) ∙ e))

-- its bit is clear
pub lowest_later : (set from : ℕ) → from < 32 → (bit_and (set / 2 ^ (from - 1)) 1 ≡ 1 → ⊥) → lowest set from (32 - from) ≡ lowest set (from + 1) (32 - (from + 1))
lowest_later set from l e =
    let other : (set / 2 ^ (from - 1) % 2 ≡ 1 → ⊥) = λ q. e (shr_and_one set (from - 1) ∙ q) in
    let clear : set / 2 ^ (from - 1) % 2 ≡ 0 = omega arith in
    ap (lowest set from) (let n : 32 - from ≡ suc (31 - from) = omega arith in n)
    ∙ by_bit set from (31 - from) false (ap (λ (bit : ℕ). bit == 1) clear)
    ∙ ap (lowest set (from + 1)) (let n : 31 - from ≡ 32 - (from + 1) = omega arith in n)

-- none is left
pub lowest_end : (set from : ℕ) → 32 ≤ from → lowest set from (32 - from) ≡ None
unfolding lowest
lowest_end set from l = ap (lowest set from) (let n : 32 - from ≡ zero = omega arith in n)

-- none is set in 0
pub lowest_none : (from n : ℕ) → lowest 0 from n ≡ None
unfolding lowest
lowest_none from zero = refl
lowest_none from (suc n) =
    let clear : 0 / 2 ^ (from - 1) % 2 ≡ 0 = omega arith in
    ap (λ (bit : ℕ). cond (bit == 1) (Some from) (lowest 0 (from + 1) n)) clear ∙ lowest_none (from + 1) n

-- ---- listed signals

-- a job that lists none has none that is due
pub none_listed : (job : JobData) (arch : Arch) → job.signals ≡ [] → due_signal job arch ≡ None
none_listed job arch e = ap (λ (signals : List Signal). due_by arch.count (slice_get (listed signals arch.number) arch.posted)) e

-- the signal in this place of a thread's list
pub due_at : (job : JobData) (arch : Arch) (signal : ℕ) (s : Signal) → IsJob job → slice_get (listed job.signals arch.number) arch.posted ≡ Some s → s.number ≡ signal → IsDue arch signal
due_at job arch signal s is found number =
    let p : (Signal → Bool) = λ s. s.thread == arch.number in
    let mine : List Signal = listed job.signals arch.number in
    let within : arch.posted < length mine = slice_get_within mine arch.posted s found in
    let counted : length mine ≡ count_by p job.signals = length-filter p job.signals in
    let fewer : count_by p job.signals ≤ length job.signals = count_by-le-length p job.signals in
    let few : length job.signals ≤ 256 = is.few in
    let each : IsSignal (get_or mine arch.posted s) = All-get_or IsSignal mine arch.posted s within (All-filter p IsSignal job.signals is.signals) in
    let one : IsSignal s = subst IsSignal (get_or_from_slice_get mine arch.posted s s found) each in
    let low : 1 ≤ s.number = one.low in
    let high : s.number ≤ 31 = one.high in
    record { low = omega arith; high = omega arith; few = omega arith }

due_from : (job : JobData) (arch : Arch) (signal : ℕ) → IsJob job → (o : Option Signal) → slice_get (listed job.signals arch.number) arch.posted ≡ o → due_by arch.count o ≡ Some signal → IsDue arch signal
due_from job arch signal is None found due = absurd (none-some signal due)
due_from job arch signal is (Some s) found due = due_at job arch signal s is found ((cond_some (nat_le s.count arch.count) s.number signal due).1)

-- a signal that is due is one, and few were posted before it
pub due_is : (job : JobData) (arch : Arch) (signal : ℕ) → IsJob job → due_signal job arch ≡ Some signal → IsDue arch signal
due_is job arch signal is due = due_from job arch signal is (slice_get (listed job.signals arch.number) arch.posted) refl due

due_so : (job : JobData) (arch : Arch) → IsJob job → (o : Option ℕ) → due_signal job arch ≡ o → IfSome o (IsDue arch)
due_so job arch is None e = tt
due_so job arch is (Some signal) e = due_is job arch signal is e

-- the same of the answer of a search
pub due_of : (job : JobData) (arch : Arch) → IsJob job → IfSome (due_signal job arch) (IsDue arch)
due_of job arch is = due_so job arch is (due_signal job arch) refl
