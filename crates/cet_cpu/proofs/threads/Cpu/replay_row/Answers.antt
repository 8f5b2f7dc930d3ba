use Rattle.std.proofs.Common.{ℕ, List, Ok, Err, Result, subst, ap, refl}
use Rattle.cet_isa.specs.declared.threads.Arch.{Arch}
use Rattle.cet_page.specs.Core.{row_played, kept_by, unheld}
use Rattle.cet_page.specs.Plays.{RefinesBy}
use Rattle.cet_page.specs.Row.{row}
use Rattle.cet_page.specs.Script.{Played, play}
use Rattle.cet_page.specs.declared.cursors.Suspended.{Suspended}
use Rattle.cet_page.specs.declared.finishes.Finish.{Finish}
use Rattle.cet_cpu.specs.Changes.{finish_with, Stays}
use Rattle.cet_cpu.specs.Cpu.{RefinesRow, CpuData}
use Rattle.cet_cpu.specs.declared.kernel.RowEnd.{RowEnd}
use Rattle.cet_cpu.specs.declared.kernel.RowEnd.TheVariants as row_end
use Rattle.cet_cpu.proofs.threads.Cpu.replay_row.Goals as goal

-- the place of the cursor afterwards doesn't matter
came_to : (before after : Arch) (came : Played Finish) (result : Result RowEnd Suspended) (left : ℕ) (values : List ℕ)
    → RefinesBy (finish_with after) came result left values → Stays (unheld before) after result
    → RefinesRow came before (kept_by before before.held after) result
came_to before after came (Ok row_end.Stopped) left values h s = (after, left, values, refl, h, ap (kept_by before before.held) s)
came_to before after came (Ok (row_end.Noted noted)) left values h s = (after, left, values, refl, h, tt)
came_to before after came (Ok row_end.Posted) left values h s = (after, left, values, refl, h, tt)
came_to before after came (Ok (row_end.Exited noted status)) left values h s = (after, left, values, refl, h, tt)
came_to before after came (Err stop) left values h s = (ap (kept_by before before.held) s, h)

pub returns-clause-came : goal.returns-clause-came
returns-clause-came c =
    let before = c.self.inside.arch in
    let after = kept_by before before.held c.row-came.new.arch in
    let result = c.row-came.result in
    let script = row c.args.job.now (unheld before) in
    let from_start : RefinesRow (play script c.start.result.left c.start.result.rest.now) before after result =
    came_to before c.row-came.new.arch _ result _ _ c.row-came.ensures.comes c.row-came.ensures.stays in
    let with_count : RefinesRow (play script c.self.inside.vals.accesses c.start.result.rest.now) before after result =
    subst (λ (n : ℕ). RefinesRow (play script n c.start.result.rest.now) before after result) c.start.ensures.left from_start in
    let with_kept : RefinesRow (play script c.self.inside.vals.accesses c.self.inside.vals.values) before after result =
    subst (λ (values : List ℕ). RefinesRow (play script c.self.inside.vals.accesses values) before after result) c.start.ensures.rest with_count in
    subst (λ (v : CpuData). RefinesRow (row_played c.args.job.now v.core.arch v.core.vals) v.core.arch after result) c.self.view_is with_kept
