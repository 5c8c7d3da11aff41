use Rattle.std.proofs.Common.{rules}
use Rattle.scr_keys.proofs.readers.rooms.Goals as goal

pub returns-clause-empty : goal.returns-clause-empty
returns-clause-empty c = search rules
