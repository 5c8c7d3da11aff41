use Rattle.ti_extended.proofs.WholeFileLaws as laws
use Rattle.ti_extended.proofs.laws.files_have_one_whole.Goals as goal

pub returns : goal.returns
returns c = laws.files_have_one_whole c.files_have_one_entry.ensures
