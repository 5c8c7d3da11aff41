use Rattle.ti_param.proofs.OneFaultLaws.{no_fault}
use Rattle.ti_param.proofs.laws.text_has_not_both.Goals as goal

pub returns : goal.returns
returns c = no_fault
