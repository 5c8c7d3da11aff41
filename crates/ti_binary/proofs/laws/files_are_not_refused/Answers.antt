use Rattle.ti_binary.proofs.FileLaws as laws
use Rattle.ti_binary.proofs.laws.files_are_not_refused.Goals as goal

pub returns : goal.returns
returns c = laws.files_are_not_refused
