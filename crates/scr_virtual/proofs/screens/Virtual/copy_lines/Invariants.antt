use Rattle.std.proofs.Common.{◌≡◌}
use Rattle.scr_virtual.specs.Code.Lines.{IsShown, copied_lines, lent_at}
use Rattle.scr_virtual.specs.Taking.{part_copied}
use Rattle.scr_virtual.proofs.CopyLaws.{rows_of_part}
use Rattle.scr_virtual.proofs.screens.Virtual.copy_lines.Given as goal

-- the lines up to one are copied
abbrev pub invariant-loop-row : goal.invariant-loop-row
invariant-loop-row l = record {
  copied : l.self ≡ part_copied (rows_of_part l.part l.row) (copied_lines l.all l.window) (lent_at l.window) l.fn.self;
  inside : IsShown l.self l.window l.part;
}
