use Rattle.ti_binary.proofs.CanonicalFileLaws as laws
use Rattle.ti_binary.proofs.laws.canonical_reads_back.Goals as goal

pub returns : goal.returns
returns c = laws.canonical_reads_back
