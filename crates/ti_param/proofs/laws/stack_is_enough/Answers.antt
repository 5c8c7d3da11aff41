use Rattle.ti_param.proofs.ValueLaws.{stack_serves}
use Rattle.ti_param.proofs.laws.stack_is_enough.Goals as goal

pub returns : goal.returns
returns c = stack_serves
