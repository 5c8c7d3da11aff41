use Rattle.ti_extended.proofs.WholeFileLaws as laws
use Rattle.ti_extended.proofs.laws.entries_are_clamped.Goals as goal

pub returns : goal.returns
returns c = laws.entries_are_clamped
