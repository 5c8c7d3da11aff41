use Rattle.std.proofs.Common.{◌≡◌, ℕ, ◌<◌, ◌≤◌, length, get_or, false}
use Rattle.scr_windows.proofs.windows.mark_lines.Given as goal

abbrev pub invariant-loop-line : goal.invariant-loop-line
invariant-loop-line l = record {
  len : length l.touched ≡ length l.fn.touched;
  put : (k : ℕ) → l.first ≤ k → k < l.line → get_or l.touched k false ≡ l.mark;
  before : (k : ℕ) → k < l.first → get_or l.touched k false ≡ get_or l.fn.touched k false;
  after : (k : ℕ) → l.line ≤ k → get_or l.touched k false ≡ get_or l.fn.touched k false;
}
