use Rattle.std.proofs.Common.{◌≡◌, drop, map, take}
use Rattle.huttavel_c.specs.Replies.{given_cell}
use Rattle.huttavel_c.proofs.calls.copying.copy_cells.Given as goal

-- those up to one place are copied
abbrev pub invariant-loop-place : goal.invariant-loop-place
invariant-loop-place l = record {
  done : take l.place l.cells ≡ map given_cell (take l.place l.line);
  left : drop l.place l.cells ≡ drop l.place l.fn.cells;
}
