use Rattle.std.proofs.Common.{◌≡◌, ℕ, arith, subst}
use Rattle.scr_windows.specs.Code.Steps.{Changes}
use Rattle.scr_windows.specs.Code.Steps.{sides_put}
use Rattle.scr_windows.proofs.BorderLaws.{sides_begun, sides_more}
use Rattle.scr_windows.proofs.surfaces.Surface.draw_sides.Goals as goal

pub loop-row-init : goal.loop-row-init
loop-row-init c = sides_begun _ c.args.area c.args.left c.args.right c.requires.surface

pub loop-row-preserved : goal.loop-row-preserved
loop-row-preserved c = sides_more _ _ _ _ c.args.area c.loop-row.row c.args.left c.args.right c.requires.part (omega arith) c.loop-row.invariant c.put_row.ensures c.put_row-in-loop-row.ensures

pub returns : goal.returns
returns c =
    let done : c.loop-row.row ≡ c.args.area.rows = omega arith in
    let P : ℕ → Type 0 = λ row. Changes c.args.self.now c.loop-row.self c.args.area (sides_put c.args.area.columns row c.args.left c.args.right) in
    subst P done c.loop-row.invariant
