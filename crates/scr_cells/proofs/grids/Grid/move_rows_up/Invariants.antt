use Rattle.std.proofs.Common.{◌≡◌}
use Rattle.scr_cells.specs.Grids.{grid_at}
use Rattle.scr_cells.proofs.MoveLaws.{formed, rows_partly_up}
use Rattle.scr_cells.proofs.grids.Grid.move_rows_up.Given as goal

abbrev pub invariant-loop-row : goal.invariant-loop-row
invariant-loop-row g l = l.self ≡ formed l.fn.self (rows_partly_up l.first l.row l.end l.n l.element (grid_at l.element l.fn.self.lines))

abbrev pub invariant-loop-row-2 : goal.invariant-loop-row-2
invariant-loop-row-2 g l = l.self ≡ formed l.fn.self (rows_partly_up l.first l.row l.end l.n l.element (grid_at l.element l.fn.self.lines))
