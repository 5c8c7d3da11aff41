use Rattle.std.proofs.Common.{rules}
use Rattle.curses.proofs.writers.Device.new.Goals as goal

pub returns : goal.returns
returns g c = search rules
