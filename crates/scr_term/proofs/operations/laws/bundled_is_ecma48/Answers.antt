use Rattle.scr_term.proofs.BundledLaws as laws
use Rattle.scr_term.proofs.operations.laws.bundled_is_ecma48.Goals as goal

pub returns : goal.returns
returns c = λ charset entry size profile bundled is. laws.ecma48_is charset entry bundled profile size is
