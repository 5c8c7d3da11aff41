use Rattle.std.proofs.Common.{◌≡◌, ◌+◌, ◌∙◌, ap, arith}
use Rattle.scr_cells.specs.CellViews.{CellView}
use Rattle.scr_cells.specs.Grids.{GridView, grid_of}
use Rattle.scr_windows.specs.Surfaces.SurfaceViews.{inside_at}
use Rattle.scr_windows.proofs.BlockLaws.{read_more}
use Rattle.scr_windows.proofs.surfaces.Surface.block.Goals as goal

pub loop-row-preserved : goal.loop-row-preserved
loop-row-preserved c = record {
  rows = ap (λ (g : GridView CellView). g.rows) c.in_ok-push_row.ensures.ok ∙ ap (λ n. n + 1) c.loop-row.invariant.rows;
  columns = ap (λ (g : GridView CellView). g.columns) c.in_ok-push_row.ensures.ok ∙ c.loop-row.invariant.columns;
  lines = ap (λ (g : GridView CellView). g.lines) c.in_ok-push_row.ensures.ok
      ∙ read_more c.args.area.columns c.loop-row.row (inside_at c.args.self.now c.args.area) _ _ c.loop-row.invariant.lines c.line.ensures.cells;
}

pub returns : goal.returns
returns c =
    let done : c.loop-row.row ≡ c.args.area.rows = omega arith in
    λ i. record {
      rows = (c.loop-row.invariant.rows ∙ done) i;
      columns = c.loop-row.invariant.columns i;
      lines = (c.loop-row.invariant.lines ∙ ap (λ n. grid_of n c.args.area.columns (inside_at c.args.self.now c.args.area)) done) i;
    }
