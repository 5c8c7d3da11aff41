use Rattle.ti_source.proofs.CuttingLaws.{are-cut}
use Rattle.ti_source.proofs.reading.field.fields_are_cut.Goals as goal

pub returns : goal.returns
returns c = are-cut
