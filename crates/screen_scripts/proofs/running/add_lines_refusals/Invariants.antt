use Rattle.std.proofs.Common.{ℕ, length}
use Rattle.screen_scripts.proofs.RunLaws.{RefusedSoFar}
use Rattle.screen_scripts.proofs.running.add_lines_refusals.Given as goal

abbrev pub invariant-loop-rest : goal.invariant-loop-rest
invariant-loop-rest l = (n : ℕ) × RefusedSoFar l.script n l.stage l.rest l.text.items

abbrev pub decreases-loop-rest : goal.decreases-loop-rest
decreases-loop-rest l = length l.rest
