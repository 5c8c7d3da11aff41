use Rattle.std.proofs.Common.{◌≡◌, Option, length}
use Rattle.scr_cells.proofs.MadeRunLaws.{Made}
use Rattle.scr_cells.proofs.grids.lay_made.Given as goal

-- something was made of each source before one
abbrev pub invariant-loop-place : goal.invariant-loop-place
invariant-loop-place g l = record {
  len : length l.elements ≡ length l.fn.elements;
  made : (f : _ → Option _) → ((x : _) (y : Option _) → goal.F-post g l.make x y → y ≡ f x) → Made f l.sources l.place l.fn.elements l.elements;
}
