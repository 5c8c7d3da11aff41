use Rattle.std.proofs.Common.{rules}
use Rattle.edit_text.proofs.lines.TextLine.cut.Goals as goal

pub returns-clause-rest : goal.returns-clause-rest
returns-clause-rest c = search rules
