use Rattle.std.proofs.Common.{◌≡◌, ◌-◌, length, map}
use Rattle.scr_windows.specs.Code.Families.{descends, link_of}
use Rattle.scr_windows.proofs.calls.moving.descends.Given as goal

abbrev pub invariant-loop-later : goal.invariant-loop-later
invariant-loop-later l = descends (map link_of l.windows) l.ancestor (length l.windows - l.later) l.number ≡ descends (map link_of l.windows) l.ancestor (length l.windows) l.fn.number
