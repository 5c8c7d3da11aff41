use Rattle.scr_virtual.proofs.TakingLaws.{still_shown}
use Rattle.scr_virtual.proofs.screens.Virtual.show.Goals as goal

pub wish-requires : goal.wish-requires
wish-requires c = still_shown _ _ _ _ _ _ _ c.requires c.copy_lines.ensures
