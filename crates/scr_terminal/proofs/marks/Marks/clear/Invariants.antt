use Rattle.std.proofs.Common.{◌≡◌, ◌<◌, ◌≤◌, ℕ, length, slice_index_or}
use Rattle.scr_terminal.specs.Marks.{no_columns}
use Rattle.scr_terminal.proofs.marks.Marks.clear.Given as goal

-- the rows before one have no marks, nor have those behind the last
abbrev pub invariant-loop-row : goal.invariant-loop-row
invariant-loop-row l = record {
  rows : l.self-inside.rows ≡ l.fn.self.rows;
  columns : l.self-inside.columns ≡ l.fn.self.columns;
  high : length l.self-inside.ranges.items ≡ l.fn.self.rows;
  before : (r : ℕ) → r < l.row → (slice_index_or l.self-inside.ranges.items r no_columns).1 ≡ 0;
  behind : (r : ℕ) → l.row-end ≤ r → (slice_index_or l.self-inside.ranges.items r no_columns).1 ≡ 0;
}
