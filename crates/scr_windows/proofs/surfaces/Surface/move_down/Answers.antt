use Rattle.std.proofs.Common.{◌≡◌, ℕ, ◌-◌, arith, refl, subst}
use Rattle.scr_windows.specs.Code.Steps.{Changes}
use Rattle.scr_cells.specs.Grids.{rows_down}
use Rattle.scr_windows.proofs.ChangeLaws.{row_down_there, row_free_down_there, rows_partly_down}
use Rattle.scr_windows.proofs.FilledLaws.{filled_is}
use Rattle.scr_windows.proofs.surfaces.Surface.move_down.Goals as goal

pub loop-done-preserved : goal.loop-done-preserved
loop-done-preserved c = row_down_there _ _ _ c.args.area c.args.first c.args.end c.args.n c.loop-done.done _ c.args.cell c.requires.part refl (omega arith) c.requires.order c.requires.end (omega arith) c.loop-done.invariant c.move_row.ensures

pub loop-put-preserved : goal.loop-put-preserved
loop-put-preserved c = row_free_down_there _ _ _ c.args.area c.args.first c.args.end c.args.n c.loop-put.put _ c.args.cell c.requires.part refl (omega arith) c.requires.order c.requires.end (omega arith) c.loop-put.invariant c.put_row.ensures

pub returns : goal.returns
returns c =
    let done : c.args.end - c.loop-put.put ≡ c.args.first = omega arith in
    let P : ℕ → Type 0 = λ row. Changes c.args.self.now c.loop-put.self c.args.area (rows_partly_down c.args.first row c.args.end c.args.n c.args.cell) in
    filled_is _ _ _ (rows_down c.args.first c.args.end c.args.n c.args.cell) (subst P done c.loop-put.invariant)
