use Rattle.std.proofs.Common.{◌+◌, ◌%◌, ◌^◌, List, ℕ, arith, ap, ◌∙◌, refl}
use Rattle.std.proofs.lemmas.Fn.{gave_at}
use Rattle.cet_words.specs.Job.{JobData}
use Rattle.cet_isa.specs.Reading.{decoded, read_length}
use Rattle.cet_page.specs.Row.{instruction_bytes}
use Rattle.cet_page.proofs.Fetching.{address_is}
use Rattle.cet_page.proofs.fetches.next_address.Goals as goal

pub returns : goal.returns
returns g c =
    let told = c.requires.tells _ _ (gave_at g.F.FnOnce c.length.ensures refl) in
    let bytes = ap (λ (bytes : List ℕ). read_length (decoded bytes)) c.fetch-fetched.ensures.bytes in
    let seen = ap (λ (job : JobData). read_length (decoded (instruction_bytes job c.args.arch.now))) c.job.view_is in
    let count = c.from.ensures ∙ told ∙ bytes ∙ seen in
    ap (λ (count : ℕ). (c.args.arch.now.rip + count) % 2 ^ 64) count ∙ address_is c.args.arch.now (decoded (instruction_bytes c.args.job.now c.args.arch.now)) (omega arith)
