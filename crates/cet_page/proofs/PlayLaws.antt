-- What a part's next answers, and what a thread waits for, by what the script comes to. Source: own.
use Rattle.std.proofs.Common.{ap}
use Rattle.std.specs.Prelude.{◌≡◌, ℕ, List, Option, Some, Result, Ok, Err, refl}
use Rattle.cet_words.specs.declared.accesses.Access.{Access}
use Rattle.cet_isa.specs.declared.threads.Arch.{Arch}
use Rattle.cet_isa.specs.declared.threads.Fault.{Fault}
use Rattle.cet_isa.specs.declared.threads.Record.{Record}
use Rattle.cet_words.specs.Access.{InRange}
use Rattle.cet_page.specs.Script.{Played, Completed, Faulted, Wants}
use Rattle.cet_page.specs.Core.{wanted}
use Rattle.cet_page.specs.declared.finishes.Finish.{Finish}
use Rattle.cet_page.specs.declared.cursors.Mark.{Mark}
use Rattle.cet_page.specs.declared.cursors.Suspended.{Suspended}
use Rattle.cet_page.specs.declared.cursors.Suspended.TheVariants as suspended
use Rattle.cet_page.specs.Plays.{next_by, with_record, with_state, Wanted, Refines, Follows, next_of, NextInRange, next_after}
use Rattle.cet_page.specs.declared.nexts.Next.TheVariants as nexts

-- a function over a cursor answers what its script does next
pub next_by_is : {A : Type 0} (view : A → Arch × Option Record) (came : Played A) (reached : Result A Suspended) (left : ℕ) (values : List ℕ) → Refines came reached left values → next_after view reached ≡ next_by view came
next_by_is view came (Ok x) left values h = rw h refl
next_by_is view (Wants b changes) (Err (suspended.Access a mark)) left values h = cc
next_by_is view (Faulted e) (Err (suspended.Access a mark)) left values h = absurd h
next_by_is view (Completed x m vs) (Err (suspended.Access a mark)) left values h = absurd h
next_by_is view came (Err (suspended.Fault e)) left values h = rw h refl

pub next_by_ranges : {A : Type 0} (view : A → Arch × Option Record) (came : Played A) (reached : Result A Suspended) (left : ℕ) (values : List ℕ) → Refines came reached left values → NextInRange (next_after view reached)
next_by_ranges view came (Ok x) left values h = tt
next_by_ranges view (Wants b changes) (Err (suspended.Access a mark)) left values h = h.2
next_by_ranges view (Faulted e) (Err (suspended.Access a mark)) left values h = absurd h
next_by_ranges view (Completed x m vs) (Err (suspended.Access a mark)) left values h = absurd h
next_by_ranges view came (Err (suspended.Fault e)) left values h = tt

-- the same of an instruction, which changes the state in its place
pub next_is : (came : Played (Arch × Record)) (before after : Arch) (reached : Result Record Suspended) (left : ℕ) (values : List ℕ) → Follows came before after reached left values → next_after (with_state after) reached ≡ next_of came
next_is came before after (Ok noted) left values h = rw h refl
next_is came before after (Err (suspended.Access a mark)) left values h = next_by_is with_record came (Err (suspended.Access a mark)) left values h.1
next_is came before after (Err (suspended.Fault e)) left values h = next_by_is with_record came (Err (suspended.Fault e)) left values h.1

pub next_ranges : (came : Played (Arch × Record)) (before after : Arch) (reached : Result Record Suspended) (left : ℕ) (values : List ℕ) → Follows came before after reached left values → NextInRange (next_after (with_state after) reached)
next_ranges came before after (Ok noted) left values h = tt
next_ranges came before after (Err (suspended.Access a mark)) left values h = next_by_ranges with_record came (Err (suspended.Access a mark)) left values h.1
next_ranges came before after (Err (suspended.Fault e)) left values h = tt

-- what is wanted
pub wanted_access : (c : Played Finish) (a : Access) (mark : Mark) → Wanted c a mark → wanted c ≡ Some a
wanted_access (Wants b changes) a mark h = ap {B = Option Access} (λ (x : Access). Some x) h.0
wanted_access (Faulted e) a mark h = absurd h
wanted_access (Completed x left values) a mark h = absurd h

pub wanted_range : (c : Played Finish) (a : Access) (mark : Mark) → Wanted c a mark → InRange a
wanted_range (Wants b changes) a mark h = h.2
wanted_range (Faulted e) a mark h = absurd h
wanted_range (Completed x left values) a mark h = absurd h

-- a fault next is one that the script has come to
pub faulted_of : (came : Played (Arch × Record)) (e : Fault) → next_of came ≡ nexts.Fault e → came ≡ Faulted e
faulted_of (Wants a changes) e h = cc
faulted_of (Faulted f) e h = cc
faulted_of (Completed x left values) e h = cc
