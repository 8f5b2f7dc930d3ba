-- What a fault leaves: the instruction has done nothing, and can be tried again. Source: Intel SDM volume 3 (exceptions that
-- are faults); own for the accesses.
use Rattle.std.specs.Prelude.{◌≡◌, ℕ, ◌+◌, List, Some, All}
use Rattle.cet_words.specs.Access.{answer, after}
use Rattle.cet_words.specs.Job.{JobData}
use Rattle.cet_words.specs.declared.accesses.Access.{Access}
use Rattle.cet_isa.specs.declared.threads.Fault.{Fault}
use Rattle.cet_isa.specs.declared.threads.Record.{Record}
use Rattle.cet_page.specs.ValsData.{vals_after}
use Rattle.cet_page.specs.Trail.{Visit, vals_of, row_trail}
use Rattle.cet_page.specs.Core.{Core, next_access, fault_record}

-- the access left all words as they were: it does so to any words that give the answer that it had
abbrev pub KeepsWords : Visit → Type 0
KeepsWords x = (words : List ℕ) → answer words x.access ≡ x.answer → after words x.access ≡ words

-- The record is of a fault, and this is what the access left that ended in it.
pub record Faults (job : JobData) (before after : Core) (answer : ℕ) (r : Record) : Type 0 where
  pub fault : Fault
  -- the record stands at the instruction
  pub noted : r ≡ fault_record before.arch fault
  -- the fault is due, there is one record more, and nothing else of the thread has changed: no register, flag, mask or pointer
  pub arch : after.arch ≡ record before.arch { count = before.arch.count + 1; due = Some fault }
  -- the row has made these accesses, the last one with them, and each has left the words as they were
  pub accesses : (a : Access) → next_access job before ≡ Some a → vals_of (row_trail job before.arch (vals_after before.vals a answer)) ≡ vals_after before.vals a answer
  pub words : (a : Access) → next_access job before ≡ Some a → All KeepsWords (row_trail job before.arch (vals_after before.vals a answer))
