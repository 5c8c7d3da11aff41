use Rattle.ti_param.proofs.DecimalLaws.{next_number}
use Rattle.ti_param.proofs.laws.increment_adds_one.Goals as goal

pub returns : goal.returns
returns c = next_number
