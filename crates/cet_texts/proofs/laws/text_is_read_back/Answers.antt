use Rattle.cet_texts.proofs.TextLaws.{line_text_of}
use Rattle.cet_texts.proofs.ProgramTexts.{program_text_of}
use Rattle.cet_texts.proofs.laws.text_is_read_back.Goals as goal

-- src/laws.rt:15:1
pub returns : goal.returns
returns c = record { line = line_text_of; program = program_text_of }
