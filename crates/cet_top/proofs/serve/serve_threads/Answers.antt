use Rattle.std.proofs.Common.{refl, true}
use Rattle.cet_top.specs.Answer.{AnswersThreaded}
use Rattle.cet_top.proofs.Serving.{cut_has, serves_cut, serves_no_memory, serves_read_fault, serves_too_long, serves_written, threaded_is_answered, written_has}
use Rattle.cet_top.proofs.serve.serve_threads.Goals as goal
