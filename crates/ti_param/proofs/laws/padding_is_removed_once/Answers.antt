use Rattle.ti_param.proofs.PaddingLaws.{stripped_once}
use Rattle.ti_param.proofs.laws.padding_is_removed_once.Goals as goal

pub returns : goal.returns
returns c = stripped_once
