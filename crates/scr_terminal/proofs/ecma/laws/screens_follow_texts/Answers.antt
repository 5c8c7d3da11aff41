use Rattle.scr_terminal.proofs.EcmaLedLaws.{screens_follow_texts_holds}
use Rattle.scr_terminal.proofs.ecma.laws.screens_follow_texts.Goals as goal

pub returns : goal.returns
returns c = screens_follow_texts_holds
