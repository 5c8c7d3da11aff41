use Rattle.std.proofs.Common.{rules}
use Rattle.scr_terminal.proofs.terminal.Terminal.cell.Goals as goal

pub returns-clause-value : goal.returns-clause-value
returns-clause-value c = search rules
