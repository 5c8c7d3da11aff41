use Rattle.std.proofs.Common.{rules}
use Rattle.scr_term.proofs.operations.profiles.Profile.first_piece.Goals as goal

pub returns-in-Move : goal.returns-in-Move
returns-in-Move c = search rules
