use Rattle.std.proofs.Common.{◌≡◌, ◌≤◌, [], drop, length}
use Rattle.ti_source.specs.Resolving.Uses.{merged}
use Rattle.ti_source.specs.Code.EntryWalk.{of_fields}
use Rattle.ti_source.proofs.resolving.merge.merge.Given as goal

-- the entry is that of the fields after these
abbrev pub invariant-loop-left : goal.invariant-loop-left
invariant-loop-left l = record {
  inside : l.left ≤ length l.fields;
  further : l.entry ≡ merged (of_fields l.fn.names (drop l.left l.fields)) [];
}

abbrev pub decreases-loop-left : goal.decreases-loop-left
decreases-loop-left l = l.left
