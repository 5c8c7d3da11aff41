use Rattle.terminal.proofs.SizeLaws.{size_of_fields}
use Rattle.terminal.proofs.sizes.size_told.Goals as goal

pub returns : goal.returns
returns c = size_of_fields c.args.line.now c.in_ok-rows.rows.now c.in_ok-rows.columns.now c.size_said.result c.in_ok-rows.ensures c.size_said.ensures
