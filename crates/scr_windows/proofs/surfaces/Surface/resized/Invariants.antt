use Rattle.std.proofs.Common.{◌≡◌}
use Rattle.scr_windows.proofs.ResizingLaws.{rows_kept}
use Rattle.scr_windows.proofs.surfaces.Surface.resized.Given as goal

-- the rows up to one are kept
abbrev pub invariant-loop-row : goal.invariant-loop-row
invariant-loop-row l = l.grid ≡ rows_kept l.fn.self l.fn.area l.fn.rows l.fn.columns l.row l.fn.cell
