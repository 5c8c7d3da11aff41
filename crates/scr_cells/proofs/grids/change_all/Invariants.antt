use Rattle.std.proofs.Common.{ℕ, ◌≡◌, ◌++◌, drop, length, take}
use Rattle.scr_cells.specs.Grids.{changed_run}
use Rattle.scr_cells.proofs.grids.change_all.Given as goal

abbrev pub invariant-loop-place : goal.invariant-loop-place
invariant-loop-place g l = record {
  len : length l.elements ≡ length l.fn.elements;
  changed : (f : ℕ → _ → _) → ((column : ℕ) (x y : _) → goal.F-post g l.change column x y → y ≡ f column x) → l.elements ≡ changed_run f l.from (take l.place l.fn.elements) ++ drop l.place l.fn.elements;
}
