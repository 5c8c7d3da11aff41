use Rattle.scr_terminal.proofs.EcmaPieceLaws.{pieces_do_not_matter_holds}
use Rattle.scr_terminal.proofs.ecma.laws.pieces_do_not_matter.Goals as goal

pub returns : goal.returns
returns c = pieces_do_not_matter_holds
