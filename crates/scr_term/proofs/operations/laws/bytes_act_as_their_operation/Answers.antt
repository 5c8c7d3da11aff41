use Rattle.scr_term.proofs.OperationLaws as laws
use Rattle.scr_term.proofs.operations.laws.bytes_act_as_their_operation.Goals as goal

pub returns : goal.returns
returns c = laws.bytes_act_as_their_operation c.number_writes_decimal.ensures c.increment_adds_one.ensures
