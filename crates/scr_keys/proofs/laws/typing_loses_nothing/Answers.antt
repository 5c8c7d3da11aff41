use Rattle.scr_keys.proofs.TypingRuleLaws as laws
use Rattle.scr_keys.proofs.laws.typing_loses_nothing.Goals as goal

pub returns : goal.returns
returns c = laws.loses_nothing
