use Rattle.scr_keys.proofs.TypingRuleLaws as laws
use Rattle.scr_keys.proofs.laws.typed_in_pieces.Goals as goal

pub returns : goal.returns
returns c = laws.in_pieces
