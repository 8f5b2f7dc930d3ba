use Rattle.std.proofs.Common.{map, string_bytes, sym}
use Rattle.cet_cli.proofs.CallWords.{faulty_plain_first, plain_read}
use Rattle.cet_cli.proofs.calls.read_plain.Goals as goal

pub returns-then-is_smp-clause-means : goal.returns-then-is_smp-clause-means
returns-then-is_smp-clause-means c = faulty_plain_first (map string_bytes c.args.words.now) (sym c.if-is_smp.ensures)

pub returns-clause-means : goal.returns-clause-means
returns-clause-means c = plain_read (map string_bytes c.args.words.now) c.read_words.result (sym c.if-is_smp.ensures) c.read_words.ensures.means
