use Rattle.ti_param.proofs.StrippedLaws.{is_stripped, stripped_is}
use Rattle.ti_param.proofs.laws.padding_is_removed.Goals as goal

pub returns : goal.returns
returns c = λ text result. (stripped_is text result, is_stripped text result)
