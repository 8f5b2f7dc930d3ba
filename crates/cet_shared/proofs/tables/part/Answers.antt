use Rattle.std.proofs.Common.{◌≡◌, ℕ, ◌<◌, ◌≤◌, [], sym, ap, ◌∙◌, subst, arith}
use Rattle.atomic_table.specs.Table.{Me}
use Rattle.cet_isa.specs.declared.threads.Arch.{Arch}
use Rattle.cet_shared.specs.Held.{Held, first_child, new_thread, parts_of, without_child, without_first}
use Rattle.cet_shared.specs.Keys.{job_of}
use Rattle.cet_shared.proofs.Children.{child_is, left_is}
use Rattle.cet_shared.proofs.Law.{splits}
use Rattle.cet_shared.proofs.tables.part.Goals as goal

pub split_seat-requires : goal.split_seat-requires
split_seat-requires c =
    let table = c.args.shared.now in
    let wide : 0 < table.table_id.words = omega (arith, c.requires.table.1) in
    (c.bring.ensures.table.0 ∙ c.requires.table.0, wide, splits (job_of table.key) _ _)

pub returns-clause-view : goal.returns-clause-view
returns-clause-view c =
    let v = c.args.seat.now.me.0 in
    let y = new_thread c.args.child.now.core in
    let k : ℕ = c.arch.result.now.number in
    let is : y.core.arch.number ≡ k = sym (ap (λ (a : Arch). a.number) c.arch.ensures) in
    let one = c.bring.ensures.picked y c.requires.child is in
    ap (λ (m : Me (Unit {0}) Held). m.0) c.split_seat.ensures.2 ∙ ap without_first c.bring.ensures.view ∙ left_is v y k one.0 is ∙ ap (λ (n : ℕ). without_child n v) (sym is)

pub returns-clause-seat : goal.returns-clause-seat
returns-clause-seat c =
    let v = c.args.seat.now.me.0 in
    let y = new_thread c.args.child.now.core in
    let k : ℕ = c.arch.result.now.number in
    let is : y.core.arch.number ≡ k = sym (ap (λ (a : Arch). a.number) c.arch.ensures) in
    let one = c.bring.ensures.picked y c.requires.child is in
    let seated : Held → Me (Unit {0}) Held = λ w. (w, []) in
    (c.split_seat.ensures.3 ∙ c.bring.ensures.table.0, c.split_seat.ensures.4 ∙ ap seated (ap first_child c.bring.ensures.view ∙ child_is v y k one.0))

pub returns-clause-parts : goal.returns-clause-parts
returns-clause-parts c =
    let y = new_thread c.args.child.now.core in
    let k : ℕ = c.arch.result.now.number in
    let is : y.core.arch.number ≡ k = sym (ap (λ (a : Arch). a.number) c.arch.ensures) in
    let one = c.bring.ensures.picked y c.requires.child is in
    subst (λ (n : ℕ). parts_of n ≤ c.args.seat.now.me.0.parts) (sym is) one.1
