use Rattle.ti_param.proofs.ValueLaws.{text_within}
use Rattle.ti_param.proofs.laws.text_is_bounded.Goals as goal

pub returns : goal.returns
returns c = text_within
