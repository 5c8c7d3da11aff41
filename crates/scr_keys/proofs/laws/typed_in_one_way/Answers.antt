use Rattle.scr_keys.proofs.TypingRuleLaws as laws
use Rattle.scr_keys.proofs.laws.typed_in_one_way.Goals as goal

pub returns : goal.returns
returns c = laws.in_one_way
