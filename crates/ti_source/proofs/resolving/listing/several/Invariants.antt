use Rattle.std.proofs.Common.{map, take}
use Rattle.ti_source.specs.Resolving.Named.{index_of}
use Rattle.ti_source.specs.Code.EntryWalk.{AreBelow}
use Rattle.ti_source.proofs.resolving.listing.several.Given as goal

-- the uses so far take fewer steps
abbrev pub invariant-loop-other : goal.invariant-loop-other
invariant-loop-other l = AreBelow l.marks (map (index_of l.entries) (take l.other-index l.uses)) l.steps
