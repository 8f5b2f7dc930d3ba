-- The book has every event of every run, so what holds of such lists holds of runs. Source: own.
use Rattle.std.proofs.Common.{ℕ, List}
use Rattle.cet_words.specs.Job.{JobData, IsJob}
use Rattle.cet_book.specs.Book.{first_book}
use Rattle.cet_book.proofs.Switched.{switched}
use Rattle.cet_book.proofs.Raises.{raises_exactly}
use Rattle.cet_page.specs.Machine.{Machine, Starts}
use Rattle.cet_own.specs.Event.{events}
use Rattle.cet_own.specs.Switched.{Legal, Switched, Raises}
use Rattle.cet_own.proofs.CoveredRun.{ran, first_recorded}
use Rattle.cet_own.proofs.Run.{first_stands}

pub legal_run : (job : JobData) (start : Machine) (turns : List ℕ) → IsJob job → Starts job start → Legal job start turns
legal_run job start turns j s =
    let r = ran job j turns start (record { book = first_book }) (first_stands job start j s) (first_recorded job start s) in
    (r.next.book, r.is)

pub switches_run : (job : JobData) (start : Machine) (turns : List ℕ) → IsJob job → Starts job start → Switched job start turns
switches_run job start turns j s =
    let legal = legal_run job start turns j s in
    switched (events job start turns) legal.0 legal.1

pub raises_run : (job : JobData) (start : Machine) (turns : List ℕ) → IsJob job → Starts job start → Raises job start turns
raises_run job start turns j s = raises_exactly (events job start turns)
