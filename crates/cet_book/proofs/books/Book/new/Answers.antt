use Rattle.cet_book.proofs.Latest.{first_listed}
use Rattle.cet_book.proofs.books.Book.new.Goals as goal

pub invariant_of-result : goal.invariant_of-result
invariant_of-result c = rw (c.in_ok-push.ensures.items, c.new-stacks.ensures.items, c.new-first.ensures) first_listed
