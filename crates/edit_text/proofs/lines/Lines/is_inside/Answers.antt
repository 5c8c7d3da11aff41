use Rattle.std.proofs.Common.{rules}
use Rattle.edit_text.proofs.lines.Lines.is_inside.Goals as goal

pub returns-then-place-count : goal.returns-then-place-count
returns-then-place-count c = search rules
