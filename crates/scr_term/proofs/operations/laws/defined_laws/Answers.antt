use Rattle.scr_term.proofs.DefinedLaws.{defined_laws_hold}
use Rattle.scr_term.proofs.operations.laws.defined_laws.Goals as goal

pub returns : goal.returns
returns c = defined_laws_hold
