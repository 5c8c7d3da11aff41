use Rattle.ti_extended.proofs.WholeFileLaws as laws
use Rattle.ti_extended.proofs.laws.plain_forms_are_canonical.Goals as goal

pub returns : goal.returns
returns c = laws.plain_forms_are_canonical
