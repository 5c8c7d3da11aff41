use Rattle.std.proofs.Common.{◌≡◌, length, reverse}
use Rattle.ti_source.specs.Code.EntryWalk.{leaves, with_fault}
use Rattle.ti_source.proofs.resolving.walk.put_fault.Given as goal

-- the entries that are left give the answer
abbrev pub invariant-loop-task : goal.invariant-loop-task
invariant-loop-task l =
    with_fault l.fault (leaves (reverse l.tasks.items)) l.marks ≡ with_fault l.fault (leaves (reverse l.fn.tasks.items)) l.fn.marks

abbrev pub decreases-loop-task : goal.decreases-loop-task
decreases-loop-task l = length l.tasks.items
