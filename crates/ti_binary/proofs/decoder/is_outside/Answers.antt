use Rattle.std.proofs.Common.{rules}
use Rattle.ti_binary.proofs.decoder.is_outside.Goals as goal

pub returns-then-offset-le-MOST_NUMBER : goal.returns-then-offset-le-MOST_NUMBER
returns-then-offset-le-MOST_NUMBER c = search rules
