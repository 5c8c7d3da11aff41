use Rattle.std.proofs.Common.{rules}
use Rattle.edit_text.proofs.texts.Text.line.Goals as goal

pub returns : goal.returns
returns c = search rules
