use Rattle.std.proofs.Common.{rules}
use Rattle.scr_terminal.proofs.terminal.Terminal.colours.Goals as goal

pub returns-clause-foreground : goal.returns-clause-foreground
returns-clause-foreground c = search rules

pub returns-clause-background : goal.returns-clause-background
returns-clause-background c = search rules
