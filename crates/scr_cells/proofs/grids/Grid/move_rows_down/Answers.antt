use Rattle.std.proofs.Common.{◌≡◌, ℕ, ◌-◌, arith, subst}
use Rattle.scr_cells.specs.Grids.{grid_at}
use Rattle.scr_cells.proofs.MoveLaws.{down_begun, formed, one_row_down, one_row_free_down, rows_partly_down}
use Rattle.scr_cells.proofs.grids.Grid.move_rows_down.Goals as goal

pub loop-done-init : goal.loop-done-init
loop-done-init g c = down_begun c.args.element c.args.self.now c.args.first c.args.end c.args.n c.columns-columns.ensures.grid

pub loop-done-preserved : goal.loop-done-preserved
loop-done-preserved g c =
    one_row_down c.args.element c.args.self.now _ _ (grid_at c.args.element c.args.self.now.lines) c.args.first c.args.end c.args.n c.loop-done.done _ c.loop-done.invariant c.columns-columns.ensures.value (omega arith) c.requires.end c.copy.ensures

pub loop-put-init : goal.loop-put-init
loop-put-init g c =
    let done : c.loop-done.done ≡ c.saturating_sub-moved.result = omega arith in
    let P : ℕ → Type 0 = λ n. c.loop-done.self ≡ formed c.args.self.now (rows_partly_down c.args.first (c.args.end - n) c.args.end c.args.n c.args.element (grid_at c.args.element c.args.self.now.lines)) in
    subst P done c.loop-done.invariant

pub loop-put-preserved : goal.loop-put-preserved
loop-put-preserved g c =
    one_row_free_down c.args.element c.args.self.now _ _ (grid_at c.args.element c.args.self.now.lines) c.args.first c.args.end c.args.n c.loop-put.put _ c.loop-put.invariant c.columns-columns.ensures.value (omega arith) (omega arith) c.requires.end c.fill.ensures

pub returns : goal.returns
returns g c =
    let done : c.args.end - c.loop-put.put ≡ c.args.first = omega arith in
    let P : ℕ → Type 0 = λ row. c.loop-put.self ≡ formed c.args.self.now (rows_partly_down c.args.first row c.args.end c.args.n c.args.element (grid_at c.args.element c.args.self.now.lines)) in
    subst P done c.loop-put.invariant
