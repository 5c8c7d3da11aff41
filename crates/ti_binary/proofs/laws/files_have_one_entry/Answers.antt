use Rattle.ti_binary.proofs.FileLaws as laws
use Rattle.ti_binary.proofs.laws.files_have_one_entry.Goals as goal

pub returns : goal.returns
returns c = laws.files_have_one_entry
