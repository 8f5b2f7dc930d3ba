use Rattle.std.proofs.Common.{length, rules}
use Rattle.cet_elf.specs.Rules.{header_breaches, is_filled, is_placed, is_aligned, is_guarded, is_apart}
use Rattle.cet_elf.proofs.rules.header_breaches.Goals as goal

pub returns : goal.returns
unfolding header_breaches
returns c =
    let filled = c.load_breach.ensures (is_filled (length c.args.bytes.now)) (λ h r returned. search rules) in
    let placed = c.load_breach-2.ensures is_placed (λ h r returned. search rules) in
    let aligned = c.load_breach-3.ensures is_aligned (λ h r returned. search rules) in
    let guarded = c.load_breach-4.ensures is_guarded (λ h r returned. search rules) in
    let apart = c.load_breach-5.ensures (is_apart c.args.headers.now) (λ h r returned. search rules) in
    search (filled, placed, aligned, guarded, apart, rules)
