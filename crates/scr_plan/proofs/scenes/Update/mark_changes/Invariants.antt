use Rattle.std.proofs.Common.{ℕ, ◌<◌, ◌≡◌, false}
use Rattle.scr_terminal.specs.Marks.{is_marked}
use Rattle.scr_virtual.specs.Ranges.{in_range}
use Rattle.scr_plan.specs.Code.Planning.{range_by}
use Rattle.scr_plan.proofs.scenes.Update.mark_changes.Given as goal

-- the columns of the rows before one are marked
abbrev pub invariant-loop-row : goal.invariant-loop-row
invariant-loop-row l = record {
  memory : l.spare.memory ≡ l.fn.spare.memory;
  high : l.spare.marks.rows ≡ l.fn.spare.marks.rows;
  marks : (r c : ℕ) → r < l.row → r < l.fn.spare.marks.rows → is_marked l.spare.marks r c ≡ false → in_range (range_by l.self.by l.self.wanted.now r) c ≡ false;
}
