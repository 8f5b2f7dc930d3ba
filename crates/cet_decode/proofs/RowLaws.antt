-- The row that the maps of opcodes name reads what all rows read.
use Rattle.std.proofs.Common.{◌≡◌, ℕ, List, Option, Some, ap, sym, ◌∙◌}
use Rattle.cet_isa.specs.Forms.{forms}
use Rattle.cet_isa.specs.Reader.{IsBytes}
use Rattle.cet_isa.specs.Reading.{any_at}
use Rattle.cet_decode.specs.declared.forms.Form.{Form}
use Rattle.cet_decode.specs.declared.forms.TheConstants.{FORMS}
use Rattle.cet_decode.specs.Lead.{LeadData, lead_at, chosen, numbers_by}
use Rattle.cet_decode.proofs.IndexLaws.{lead_is}
use Rattle.cet_decode.proofs.LeadLaws.{read_chosen}

pub row_reads : (bytes : List ℕ) (x : LeadData) (row : Option Form) → IsBytes bytes → Some x ≡ lead_at bytes
    → row ≡ chosen FORMS (numbers_by x.prefix x.escaped x.opcode) x.rex x.rest
    → read_chosen row x.rex x.opcode x.rest ≡ any_at forms bytes
row_reads bytes x row fits leads e = ap (λ (o : Option Form). read_chosen o x.rex x.opcode x.rest) e ∙ lead_is bytes x fits (sym leads)
