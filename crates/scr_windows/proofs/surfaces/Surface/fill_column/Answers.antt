use Rattle.std.proofs.Common.{◌≡◌, ℕ, arith, subst}
use Rattle.scr_windows.specs.Code.Steps.{Changes}
use Rattle.scr_windows.specs.Surfaces.Formulas.{column_put}
use Rattle.scr_windows.proofs.FilledLaws.{filled_is}
use Rattle.scr_windows.proofs.ChangeLaws.{column_begun, column_more}
use Rattle.scr_windows.proofs.surfaces.Surface.fill_column.Goals as goal

pub loop-row-init : goal.loop-row-init
loop-row-init c = column_begun _ c.args.area c.args.column c.args.first c.args.cell c.requires.surface

pub loop-row-preserved : goal.loop-row-preserved
loop-row-preserved c = column_more _ _ _ c.args.area c.args.column c.args.first c.loop-row.row c.args.cell c.requires.part c.requires.column (omega arith) (omega arith) c.loop-row.invariant c.put_row.ensures

pub returns : goal.returns
returns c =
    let done : c.loop-row.row ≡ c.args.end = omega arith in
    let P : ℕ → Type 0 = λ row. Changes c.args.self.now c.loop-row.self c.args.area (column_put c.args.column c.args.first row c.args.cell) in
    filled_is _ _ _ _ (subst P done c.loop-row.invariant)
