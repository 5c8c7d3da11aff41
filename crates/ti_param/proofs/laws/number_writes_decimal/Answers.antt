use Rattle.ti_param.proofs.DecimalLaws.{plain_parameter}
use Rattle.ti_param.proofs.laws.number_writes_decimal.Goals as goal

pub returns : goal.returns
returns c = plain_parameter
