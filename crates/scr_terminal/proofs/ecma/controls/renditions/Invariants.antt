use Rattle.std.proofs.Common.{◌≡◌, drop}
use Rattle.scr_term.specs.Ecma.Meanings.{renditions}
use Rattle.scr_terminal.proofs.ecma.controls.renditions.Given as goal

abbrev pub invariant-loop-parameter : goal.invariant-loop-parameter
invariant-loop-parameter l = renditions l.pen (drop l.parameter-index l.parameters) ≡ renditions l.fn.pen l.parameters
