use Rattle.std.proofs.Common.{◌≡◌, ◌≤◌, ◌++◌, drop, length, reverse}
use Rattle.ti_source.specs.Code.EntryWalk.{visits}
use Rattle.ti_source.proofs.resolving.walk.put_visits.Given as goal

-- the visits of the names from `left` on are put
abbrev pub invariant-loop-left : goal.invariant-loop-left
invariant-loop-left l =
    (l.left ≤ length l.uses) × (reverse l.tasks.items ≡ visits l.entries (drop l.left l.uses) ++ reverse l.fn.tasks.items)

abbrev pub decreases-loop-left : goal.decreases-loop-left
decreases-loop-left l = l.left
