-- the rest of the words leads from here to the end
use Rattle.std.proofs.Common.{◌≡◌, drop}
use Rattle.cet_book.specs.Marks.{followed}
use Rattle.cet_book.proofs.marks.follow_words.Given as goal

abbrev pub invariant-loop-word : goal.invariant-loop-word
invariant-loop-word l = followed l.regions (drop l.word-index l.words) l.found ≡ followed l.regions l.words l.initial.found
