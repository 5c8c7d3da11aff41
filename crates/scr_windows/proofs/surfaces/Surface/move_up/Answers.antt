use Rattle.std.proofs.Common.{◌≡◌, ℕ, ◌+◌, ◌-◌, arith, subst}
use Rattle.scr_windows.specs.Code.Steps.{Changes}
use Rattle.scr_cells.specs.Grids.{rows_up}
use Rattle.scr_windows.proofs.ChangeLaws.{row_free_up_there, row_up_there, rows_partly_up, up_begun}
use Rattle.scr_windows.proofs.FilledLaws.{filled_is}
use Rattle.scr_windows.proofs.surfaces.Surface.move_up.Goals as goal

pub loop-row-init : goal.loop-row-init
loop-row-init c = up_begun _ c.args.area c.args.first c.args.end c.args.n (c.args.area.top + c.args.first) c.args.cell c.requires.surface (omega arith)

pub loop-row-preserved : goal.loop-row-preserved
loop-row-preserved c = row_up_there _ _ _ c.args.area c.args.first c.args.end c.args.n c.loop-row.row c.args.cell c.requires.part (omega arith) (omega arith) c.requires.end (omega arith) c.loop-row.invariant c.move_row.ensures

pub loop-below-init : goal.loop-below-init
loop-below-init c =
    let done : c.loop-row.row ≡ c.args.area.top + c.args.first + c.saturating_sub.result = omega arith in
    let P : ℕ → Type 0 = λ row. Changes c.args.self.now c.loop-row.self c.args.area (rows_partly_up c.args.first (row - c.args.area.top) c.args.end c.args.n c.args.cell) in
    subst P done c.loop-row.invariant

pub loop-below-preserved : goal.loop-below-preserved
loop-below-preserved c = row_free_up_there _ _ _ c.args.area c.args.first c.args.end c.args.n c.loop-below.below c.args.cell c.requires.part (omega arith) (omega arith) c.requires.end (omega arith) c.loop-below.invariant c.put_row.ensures

pub returns : goal.returns
returns c =
    let done : c.loop-below.below - c.args.area.top ≡ c.args.end = omega arith in
    let P : ℕ → Type 0 = λ row. Changes c.args.self.now c.loop-below.self c.args.area (rows_partly_up c.args.first row c.args.end c.args.n c.args.cell) in
    filled_is _ _ _ (rows_up c.args.first c.args.end c.args.n c.args.cell) (subst P done c.loop-below.invariant)
