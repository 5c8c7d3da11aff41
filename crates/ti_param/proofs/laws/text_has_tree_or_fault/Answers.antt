use Rattle.ti_param.proofs.TotalLaws.{tree_or_fault}
use Rattle.ti_param.proofs.laws.text_has_tree_or_fault.Goals as goal

pub returns : goal.returns
returns c = tree_or_fault
