use Rattle.std.proofs.Common.{rules}
use Rattle.scr_keys.proofs.typed_readers.TypedReader.cut.Goals as goal

pub returns-clause-items : goal.returns-clause-items
returns-clause-items c = search rules
