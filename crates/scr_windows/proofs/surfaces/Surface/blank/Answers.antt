use Rattle.scr_windows.proofs.RunLaws.{blank_is}
use Rattle.scr_windows.proofs.surfaces.Surface.blank.Goals as goal

pub invariant_of-result : goal.invariant_of-result
invariant_of-result c = blank_is c.grid_laws.ensures c.in_ok-new.field-0 c.args.rows c.args.columns c.blank.result c.requires c.in_ok-new.ensures
