use Rattle.std.proofs.Common.{length, vec_capacity, vec_len, ◌+◌, ◌-◌, ◌≤◌}
use Rattle.scr_planner.proofs.drafts.Draft.put_each.Given as goal

-- there is room for the characters that are left
abbrev pub invariant-loop-cell : goal.invariant-loop-cell
invariant-loop-cell l = vec_len l.self.ops + (length l.cells - l.cell-index) ≤ vec_capacity l.self.ops
