use Rattle.scr_keys.proofs.RuleLaws as laws
use Rattle.scr_keys.proofs.laws.keys_are_read.Goals as goal

pub returns : goal.returns
returns c = laws.read
