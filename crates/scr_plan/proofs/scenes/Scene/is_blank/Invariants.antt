use Rattle.std.proofs.Common.{ℕ, ◌≡◌, ◌<◌, ◌≤◌, true}
use Rattle.scr_cells.specs.LookViews.{blank}
use Rattle.scr_plan.specs.Code.Painters.{painter_look}
use Rattle.scr_plan.specs.Repaints.{look_eq}
use Rattle.scr_plan.proofs.scenes.Scene.is_blank.Given as goal

-- all is blank as far as the loop has come
abbrev pub invariant-loop-column : goal.invariant-loop-column
invariant-loop-column l = (c : ℕ) → l.from ≤ c → c < l.column → look_eq (painter_look l.self.painter l.self.picture.now (l.row, c)) blank ≡ true
