use Rattle.std.proofs.Common.{◌≡◌, ◌++◌, drop, replicate}
use Rattle.scr_memory.proofs.known_rows.set_all.Given as goal

-- the rows up to one are set
abbrev pub invariant-loop-row : goal.invariant-loop-row
invariant-loop-row l = l.rows ≡ replicate l.row l.known ++ drop l.row l.fn.rows
