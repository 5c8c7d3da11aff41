use Rattle.ti_param.proofs.OneFaultLaws.{one_fault}
use Rattle.ti_param.proofs.laws.text_has_one_fault.Goals as goal

pub returns : goal.returns
returns c = one_fault
