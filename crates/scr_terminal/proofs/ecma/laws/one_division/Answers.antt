use Rattle.scr_terminal.proofs.EcmaDivisionLaws.{one_division_holds}
use Rattle.scr_terminal.proofs.ecma.laws.one_division.Goals as goal

pub returns : goal.returns
returns c = one_division_holds
