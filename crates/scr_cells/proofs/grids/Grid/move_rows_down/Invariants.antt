use Rattle.std.proofs.Common.{◌≡◌, ◌-◌}
use Rattle.scr_cells.specs.Grids.{grid_at}
use Rattle.scr_cells.proofs.MoveLaws.{formed, rows_partly_down}
use Rattle.scr_cells.proofs.grids.Grid.move_rows_down.Given as goal

abbrev pub invariant-loop-done : goal.invariant-loop-done
invariant-loop-done g l = l.self ≡ formed l.fn.self (rows_partly_down l.first (l.end - l.done) l.end l.n l.element (grid_at l.element l.fn.self.lines))

abbrev pub invariant-loop-put : goal.invariant-loop-put
invariant-loop-put g l = l.self ≡ formed l.fn.self (rows_partly_down l.first (l.end - l.put) l.end l.n l.element (grid_at l.element l.fn.self.lines))
