use Rattle.std.proofs.Common.{◌≡◌, ◌+◌, ◌*◌, ◌++◌, List, Some, map, drop}
use Rattle.ti_source.specs.declared.reading.statement.Statement.{Statement}
use Rattle.ti_source.specs.Resolving.Named.{index_of}
use Rattle.ti_source.specs.Code.EntryWalk.{steps_at, steps_of_all, steps_or_0}
use Rattle.ti_source.proofs.GatherLaws.{IsGathering}
use Rattle.ti_source.proofs.resolving.listing.+listing.Given as goal

abbrev pub decreases-add_fields : goal.decreases-add_fields
decreases-add_fields l = 4 * steps_or_0 (steps_at l.marks.now (Some l.i))

abbrev pub decreases-add_gathered : goal.decreases-add_gathered
decreases-add_gathered l = 4 * steps_of_all l.marks.now (map (index_of l.entries.now) l.entry.now.uses) + 3

abbrev pub decreases-effective_at : goal.decreases-effective_at
decreases-effective_at l = 4 * steps_or_0 (steps_at l.marks.now (Some l.i)) + 1

abbrev pub decreases-add_effective : goal.decreases-add_effective
decreases-add_effective l = 4 * steps_or_0 (steps_at l.marks.now (Some l.i)) + 2

-- the fields that were there before, and those of the uses so far
abbrev pub invariant-add_gathered-loop-other : goal.invariant-add_gathered-loop-other
invariant-add_gathered-loop-other l =
    (got : List Statement) × (l.fields ≡ l.fn.fields ++ got) × IsGathering l.entries l.marks l.entry (drop l.other-index l.entry.uses) got
