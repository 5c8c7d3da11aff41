use Rattle.std.proofs.Common.{◌≡◌, ◌++◌, take}
use Rattle.std.specs.List.{flat_map}
use Rattle.screen_scripts.specs.Printing.{row_lines}
use Rattle.screen_scripts.proofs.printing.print_screen.Given as goal

abbrev pub invariant-loop-row : goal.invariant-loop-row
invariant-loop-row l = l.text.items ≡ l.fn.text.items ++ flat_map row_lines (take l.row l.screen.state.grid)
