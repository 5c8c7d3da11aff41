use Rattle.std.proofs.Common.{◌≡◌, ℕ, arith, subst}
use Rattle.scr_windows.specs.Code.Steps.{Changes}
use Rattle.scr_windows.proofs.FilledLaws.{filled_is}
use Rattle.scr_windows.proofs.ChangeLaws.{below_partly, below_first, below_more, below_all}
use Rattle.scr_windows.proofs.surfaces.Surface.fill_below.Goals as goal

pub loop-below-init : goal.loop-below-init
loop-below-init c = below_first _ _ c.args.area c.args.row c.args.column c.args.cell c.requires.surface c.requires.part c.requires.row c.put_row.ensures

pub loop-below-preserved : goal.loop-below-preserved
loop-below-preserved c = below_more _ _ _ c.args.area c.args.row c.args.column c.loop-below.below c.args.cell c.requires.part (omega arith) (omega arith) c.loop-below.invariant c.put_row-in-loop-below.ensures

pub returns : goal.returns
returns c =
    let done : c.loop-below.below ≡ c.args.area.rows = omega arith in
    let P : ℕ → Type 0 = λ row. Changes c.args.self.now c.loop-below.self c.args.area (below_partly c.args.row c.args.column row c.args.cell) in
    filled_is _ _ _ _ (below_all _ _ _ _ _ _ (subst P done c.loop-below.invariant))
