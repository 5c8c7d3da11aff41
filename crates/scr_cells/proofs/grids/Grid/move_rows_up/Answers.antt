use Rattle.std.proofs.Common.{◌≡◌, ℕ, ◌+◌, arith, subst}
use Rattle.scr_cells.specs.Grids.{grid_at}
use Rattle.scr_cells.proofs.MoveLaws.{formed, one_row_free_up, one_row_up, rows_partly_up, up_begun}
use Rattle.scr_cells.proofs.grids.Grid.move_rows_up.Goals as goal

pub loop-row-init : goal.loop-row-init
loop-row-init g c = up_begun c.args.element c.args.self.now c.args.first c.args.end c.args.n c.columns-columns.ensures.grid

pub loop-row-preserved : goal.loop-row-preserved
loop-row-preserved g c =
    one_row_up c.args.element c.args.self.now _ _ (grid_at c.args.element c.args.self.now.lines) c.args.first c.loop-row.row c.args.end c.args.n _ c.loop-row.invariant c.columns-columns.ensures.value (omega arith) (omega arith) c.requires.end c.copy.ensures

pub loop-row-2-init : goal.loop-row-2-init
loop-row-2-init g c =
    let done : c.loop-row.row ≡ c.args.first + c.saturating_sub.result = omega arith in
    let P : ℕ → Type 0 = λ row. c.loop-row.self ≡ formed c.args.self.now (rows_partly_up c.args.first row c.args.end c.args.n c.args.element (grid_at c.args.element c.args.self.now.lines)) in
    subst P done c.loop-row.invariant

pub loop-row-2-preserved : goal.loop-row-2-preserved
loop-row-2-preserved g c =
    one_row_free_up c.args.element c.args.self.now _ _ (grid_at c.args.element c.args.self.now.lines) c.args.first c.loop-row-2.row c.args.end c.args.n _ c.loop-row-2.invariant c.columns-columns.ensures.value (omega arith) (omega arith) (omega arith) c.requires.end c.fill.ensures

pub returns : goal.returns
returns g c =
    let done : c.loop-row-2.row ≡ c.args.end = omega arith in
    let P : ℕ → Type 0 = λ row. c.loop-row-2.self ≡ formed c.args.self.now (rows_partly_up c.args.first row c.args.end c.args.n c.args.element (grid_at c.args.element c.args.self.now.lines)) in
    subst P done c.loop-row-2.invariant
