use Rattle.ti_param.proofs.ScanLaws.{one_tree}
use Rattle.ti_param.proofs.laws.text_has_one_tree.Goals as goal

pub returns : goal.returns
returns c = one_tree
