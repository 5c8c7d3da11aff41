use Rattle.std.proofs.Common.{◌≡◌, ℕ, arith, subst}
use Rattle.scr_windows.specs.Code.Steps.{Changes}
use Rattle.scr_windows.proofs.FilledLaws.{filled_is}
use Rattle.scr_windows.specs.Surfaces.Formulas.{rows_put}
use Rattle.scr_windows.proofs.surfaces.Surface.fill_rows.Goals as goal

pub returns : goal.returns
returns c =
    let done : c.loop-row.row ≡ c.args.end = omega arith in
    let P : ℕ → Type 0 = λ row. Changes c.args.self.now c.loop-row.self c.args.area (rows_put c.args.first row c.args.cell) in
    filled_is _ _ _ _ (subst P done c.loop-row.invariant)
