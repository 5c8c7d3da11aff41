use Rattle.ti_source.proofs.SpellingLaws.{are-spelled}
use Rattle.ti_source.proofs.reading.escape.texts_are_spelled.Goals as goal

pub returns : goal.returns
returns c = are-spelled
