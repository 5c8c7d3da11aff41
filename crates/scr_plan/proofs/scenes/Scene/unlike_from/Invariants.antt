use Rattle.std.proofs.Common.{ℕ, ◌≡◌, ◌<◌, ◌≤◌, false, option_map}
use Rattle.scr_plan.specs.Code.Painters.{row_differs}
use Rattle.scr_plan.proofs.scenes.Scene.unlike_from.Given as goal

-- no place differs as far as the loop has come
abbrev pub invariant-loop-column : goal.invariant-loop-column
invariant-loop-column l = (c : ℕ) → l.from ≤ c → c < l.column → row_differs l.self.painter l.self.picture.now (option_map (λ looks. looks.now) l.line.before) (l.line.row, c) ≡ false
