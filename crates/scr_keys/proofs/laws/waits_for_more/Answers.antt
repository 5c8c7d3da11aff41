use Rattle.scr_keys.proofs.TypingRuleLaws as laws
use Rattle.scr_keys.proofs.laws.waits_for_more.Goals as goal

pub returns : goal.returns
returns c = laws.waits_for_more
