use Rattle.std.proofs.Common.{◌≡◌, ◌+◌, ◌-◌, ◌∙◌, arith, ap, drop, take}
use Rattle.scr_cells.specs.Grids.{grid_row}
use Rattle.scr_windows.specs.Surfaces.SurfaceViews.{SurfaceView}
use Rattle.scr_windows.proofs.RunLaws.{line_is, surface_is}
use Rattle.scr_windows.proofs.surfaces.Surface.line.Goals as goal

pub returns-clause-cells : goal.returns-clause-cells
returns-clause-cells c =
    let n : c.args.area.left + c.args.area.columns - c.args.area.left ≡ c.args.area.columns = omega arith in
    c.part.ensures.elements ∙ ap (λ (v : SurfaceView). take (c.args.area.left + c.args.area.columns - c.args.area.left) (drop c.args.area.left (grid_row v.lines (c.args.area.top + c.args.row)))) c.self.view_is
    ∙ line_is c.args.self.now c.args.area c.args.row _ (surface_is _ _ c.self.view_is c.self.invariant) c.requires.part c.requires.row n
