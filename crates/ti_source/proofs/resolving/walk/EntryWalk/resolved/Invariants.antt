use Rattle.std.proofs.Common.{◌+◌, ◌*◌, length, reverse}
use Rattle.ti_source.specs.Code.EntryWalk.{count_new}
use Rattle.ti_source.proofs.WalkLaws.{IsReaching}
use Rattle.ti_source.proofs.resolving.walk.EntryWalk.resolved.Given as goal

abbrev pub invariant-loop-task : goal.invariant-loop-task
invariant-loop-task l =
    IsReaching l.entries l.fn.self.marks.items l.fn.index l.self.marks.items l.self.kept.items (reverse l.self.tasks.items)

abbrev pub decreases-loop-task : goal.decreases-loop-task
decreases-loop-task l = 34 * count_new l.self.marks.items + length l.self.tasks.items
