use Rattle.scr_windows.proofs.LawLaws.{writing}
use Rattle.scr_windows.proofs.laws.writing_stays_inside.Goals as goal

pub returns : goal.returns
returns c = writing c.surface_laws.ensures
