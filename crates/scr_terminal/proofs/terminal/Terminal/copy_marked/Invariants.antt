use Rattle.scr_terminal.proofs.MarkLaws.{AreCopied}
use Rattle.scr_terminal.proofs.terminal.Terminal.copy_marked.Given as goal

abbrev pub invariant-loop-row : goal.invariant-loop-row
invariant-loop-row l = AreCopied l.marks l.fn.self l.other l.self l.row
