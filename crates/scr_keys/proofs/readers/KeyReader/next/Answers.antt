use Rattle.std.proofs.Common.{rules}
use Rattle.scr_keys.proofs.readers.KeyReader.next.Goals as goal

pub returns : goal.returns
returns c = search rules
