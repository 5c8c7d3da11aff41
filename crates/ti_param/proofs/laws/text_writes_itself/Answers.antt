use Rattle.ti_param.proofs.FixedLaws.{fixed_text}
use Rattle.ti_param.proofs.laws.text_writes_itself.Goals as goal

pub returns : goal.returns
returns c = fixed_text
