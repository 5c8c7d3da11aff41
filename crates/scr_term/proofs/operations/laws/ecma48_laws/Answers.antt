use Rattle.scr_term.proofs.Ecma48Laws.{ecma48_laws_hold}
use Rattle.scr_term.proofs.operations.laws.ecma48_laws.Goals as goal

pub returns : goal.returns
returns c = ecma48_laws_hold
