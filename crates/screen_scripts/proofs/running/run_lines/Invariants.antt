use Rattle.std.proofs.Common.{length}
use Rattle.screen_scripts.proofs.RunLaws.{SoFar}
use Rattle.screen_scripts.proofs.running.run_lines.Given as goal

abbrev pub invariant-loop-rest : goal.invariant-loop-rest
invariant-loop-rest g l = SoFar l.output.charset l.output.is_raw l.script (g.W.Write.contents l.fn.out) (g.W.Write.contents l.out) l.number l.stage l.rest

abbrev pub decreases-loop-rest : goal.decreases-loop-rest
decreases-loop-rest g l = length l.rest
