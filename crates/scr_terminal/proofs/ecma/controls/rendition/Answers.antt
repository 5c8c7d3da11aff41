use Rattle.std.proofs.Common.{rules}
use Rattle.scr_terminal.proofs.ecma.controls.rendition.Goals as goal

pub returns-in-39 : goal.returns-in-39
returns-in-39 c = search rules
