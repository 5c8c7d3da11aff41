use Rattle.std.proofs.Common.{rules}
use Rattle.scr_term.proofs.operations.profiles.Profile.moves_in_any_rendition.Goals as goal

pub returns : goal.returns
returns c = search rules
