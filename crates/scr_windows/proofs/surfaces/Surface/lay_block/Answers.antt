use Rattle.std.proofs.Common.{ℕ, ◌≡◌, ◌+◌, ap, arith, get_or, refl, subst}
use Rattle.scr_cells.specs.CellViews.{blank_cell}
use Rattle.scr_windows.specs.Code.Steps.{Changes}
use Rattle.scr_windows.specs.Surfaces.Formulas.{block_at, part_laid, part_of}
use Rattle.scr_windows.proofs.FilledLaws.{filled_is}
use Rattle.scr_windows.proofs.ChangeLaws.{run_at}
use Rattle.scr_windows.proofs.BlockLaws.{lay_more}
use Rattle.scr_windows.proofs.surfaces.Surface.lay_block.Goals as goal

pub loop-row-preserved : goal.loop-row-preserved
loop-row-preserved c =
    lay_more _ _ _ c.args.area (part_of c.args.top c.args.left c.args.block.now) c.args.overlay (block_at c.args.block.now) c.loop-row.row _ c.requires.area c.requires.below c.requires.right (omega arith) c.loop-row.invariant
    (run_at _ _ refl (ap (λ n. c.args.area.left + c.args.left + n) c.columns.ensures.value) c.lay_row.ensures)
    (λ k h. ap (λ line. get_or line k blank_cell) c.row.ensures.elements)

pub returns : goal.returns
returns c =
    let done : c.loop-row.row ≡ c.args.block.now.rows = omega arith in
    let P : ℕ → Type 0 = λ rows. Changes c.args.self.now c.loop-row.self c.args.area (part_laid c.args.overlay (record (part_of c.args.top c.args.left c.args.block.now) { rows = rows }) (block_at c.args.block.now)) in
    filled_is _ _ _ (part_laid c.args.overlay (part_of c.args.top c.args.left c.args.block.now) (block_at c.args.block.now)) (subst P done c.loop-row.invariant)
