use Rattle.std.proofs.Common.{◌≡◌}
use Rattle.scr_memory.specs.Code.Remembering.{with_run}
use Rattle.scr_memory.proofs.known_rows.set_run.Given as goal

-- the rows up to one are set
abbrev pub invariant-loop-row : goal.invariant-loop-row
invariant-loop-row l = l.rows ≡ with_run l.known l.first l.row l.fn.rows
