use Rattle.ti_binary.proofs.CanonicalFileLaws as laws
use Rattle.ti_binary.proofs.laws.long_names_read_back.Goals as goal

pub returns : goal.returns
returns c = laws.long_names_read_back
