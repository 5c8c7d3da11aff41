use Rattle.ti_param.proofs.CursorLaws.{cursor_written}
use Rattle.ti_param.proofs.laws.cup_writes_row_and_column.Goals as goal

pub returns : goal.returns
returns c = cursor_written
