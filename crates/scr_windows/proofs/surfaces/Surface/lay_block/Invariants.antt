use Rattle.scr_windows.specs.Code.Steps.{Changes}
use Rattle.scr_windows.specs.Surfaces.Formulas.{block_at, part_laid, part_of}
use Rattle.scr_windows.proofs.surfaces.Surface.lay_block.Given as goal

-- the block's rows up to one are laid
abbrev pub invariant-loop-row : goal.invariant-loop-row
invariant-loop-row l = Changes l.fn.self l.self l.area (part_laid l.overlay (record (part_of l.top l.fn.left l.block) { rows = l.row }) (block_at l.block))
