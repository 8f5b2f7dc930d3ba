-- A look at the table changes nothing, and tells a pass with all parts that it holds all threads. Source: own.
use Rattle.std.proofs.Common.{◌≡◌, ◌≢◌, ◌⊎◌, inl, inr, ⊎_elim, ℕ, zero, suc, ◌+◌, ◌-◌, ◌^◌, ◌<◌, ◌≤◌, List, [], ◌∷◌, ◌++◌, length}
use Rattle.std.proofs.Common.{set, Some, None, refl, sym, ap, ◌∙◌, subst, arith, append-nil}
use Rattle.std.proofs.Math.Pow.{pow_mono}
use Rattle.std.proofs.lemmas.List.{set-get_or}
use Rattle.std.specs.Prelude.{nat_lt, slice_get}
use mathlib.Core.Option.{some}
use lib.ListN.{get_elem?}
use Rattle.atomic_table.specs.Table.{State, Me, Step, Allows, keeps}
use Rattle.atomic_table.proofs.Lists.{set_again}
use Rattle.cet_words.specs.Job.{JobData}
use Rattle.cet_words.specs.Layout.{thread_limit}
use Rattle.cet_page.specs.Machine.{Thread, run}
use Rattle.cet_page.specs.Numbered.{Named, Names, Numbered}
use Rattle.cet_own.proofs.Naming.{named_run}
use Rattle.cet_own.proofs.Numbers.{numbered_run}
use Rattle.cet_shared.specs.Closing.{AreAll, Audited, HasNumber, HoldsAll}
use Rattle.cet_shared.specs.Held.{Held, held, nobody, whole}
use Rattle.cet_shared.specs.Rule.{Among, AreViews, Explained, HoldExactly, IsView, times, total}
use Rattle.cet_shared.proofs.Counts.{bit, one_below, times_among, total_only, total_two}
use Rattle.cet_shared.proofs.Holding.{count, number_of}
use Rattle.cet_shared.proofs.Parts.{parts, reserve}

some_reserved : (n : ℕ) → 0 < reserve n
some_reserved n = let least : 2 ^ 0 ≤ 2 ^ (thread_limit - n) = pow_mono {i = 0} (omega arith) in let one : 2 ^ 0 ≡ 1 = refl in omega arith

module _ (job : JobData) (threads : List Thread) (views : List Held) (h : HoldExactly threads views) (n : ℕ) (all : AreViews job n views) (sum : total parts views ≡ whole)
    (id : ℕ) (v : Held) (at : get_elem? views id ≡ some v) (whole_is : v.parts ≡ whole) where
  -- the others are spent
  others_spent : (j : ℕ) (u : Held) → j ≢ id → get_elem? views j ≡ some u → u ≡ nobody
  others_spent j u apart there = ⊎_elim
      (λ (none : u ≡ nobody). none)
      (λ (is : IsView job n u).
      let t = total_two parts views id j v u at there apart in
      let p = is.parts in
      let r = some_reserved n in
      absurd (omega arith))
      (all j u there)

  pub holds_each : (i : ℕ) → i < length threads → HasNumber i (held v)
  holds_each i lt =
      let o : total (count i) views ≡ bit (nat_lt i (length threads)) = h.once i in
      let b = one_below i (length threads) lt in
      let t = total_only (count i) views id v at (λ j u ne there. ap (count i) (others_spent j u ne there)) in
      times_among i (held v) (omega arith)

pub audits : {S : Type 0} (job : JobData) (id : ℕ) (me : Me S Held) (slots : ℕ) (st : Step S) → Allows (λ (s : State S Held). Explained job s.words s.views) slots id me 0 (λ n. n) (Audited st me)
audits job id me slots st s h len at fits =
    let m = run job h.start h.schedule in
    let numbered = numbered_run job h.start h.schedule h.is_job h.starts in
    let named = named_run job h.start h.schedule h.is_job h.starts in (
      me.0,
      keeps,
      tt,
      subst (λ (t : List ℕ × List Held). Explained job t.0 t.1) (λ i. (sym (set-get_or s.words 0 0) i, sym (set_again s.views id me.0 at) i)) h,
      (
        refl,
        λ all. record {
          count = length m.threads;
          some = numbered.first;
          each = holds_each job m.threads s.views h.threads_are (length m.threads) h.views_are h.parts_are id me.0 at all;
          named = λ y n a told. (named.told (number_of y) n y (h.threads_are.each id me.0 y at a) (inl told)).1;
        },
      ),
    )

-- so a pass that has all parts, and no child left, has gathered all threads once all of its own have ended
pub all_are : (v : Held) → HoldsAll v → v.born ≡ [] → ((y : Thread) → Among y v.threads → y.core.over ≢ None) → AreAll v.threads
all_are v h none over = record {
  over = over;
  first = there 0 h.some;
  named = λ y n a told. there n (h.named y n (subst (Among y) (sym own) a) told);
} where
  own : held v ≡ v.threads
  own = ap (λ (l : List Thread). v.threads ++ l) none ∙ append-nil v.threads

  there : (n : ℕ) → n < h.count → HasNumber n v.threads
  there n lt = subst (HasNumber n) own (h.each n lt)
