use Rattle.std.proofs.Common.{arith}
use Rattle.cet_elf.proofs.WrittenLoads.{all_loaded}
use Rattle.cet_elf.proofs.written.write.Goals as goal

pub returns-clause-loaded : goal.returns-clause-loaded
returns-clause-loaded c = λ h.
    let p = c.args.program.now in
    all_loaded p.text p.static_data c.as_slice.result.now c.as_slice-2.result.now p.entry p.mark c.write_parts.result
    c.as_slice.ensures c.as_slice-2.ensures c.write_parts.ensures (omega arith) h
