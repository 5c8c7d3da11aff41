use Rattle.std.proofs.Common.{rules}
use Rattle.edit_text.proofs.lines.TextLine.append.Goals as goal

pub returns-clause-ok : goal.returns-clause-ok
returns-clause-ok c = search rules
