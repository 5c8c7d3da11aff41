use Rattle.std.proofs.Common.{ℕ, ◌≡◌, ◌<◌, ◌≤◌, true, option_map}
use Rattle.scr_plan.specs.Code.Painters.{painter_look, row_differs}
use Rattle.scr_plan.proofs.scenes.Scene.unlike_end.Given as goal

-- as far as the loop has come all places differ, if the first does, and are seen with one pen
abbrev pub invariant-loop-next : goal.invariant-loop-next
invariant-loop-next l = record {
  unlike : row_differs l.fn.self.painter l.self.picture.now (option_map (λ looks. looks.now) l.line.before) (l.line.row, l.column) ≡ true → (c : ℕ) → l.column ≤ c → c < l.next → row_differs l.fn.self.painter l.self.picture.now (option_map (λ looks. looks.now) l.line.before) (l.line.row, c) ≡ true;
  alike : (c : ℕ) → l.column ≤ c → c < l.next → (painter_look l.fn.self.painter l.self.picture.now (l.line.row, c)).pen ≡ (painter_look l.fn.self.painter l.self.picture.now (l.line.row, l.column)).pen;
}
