use Rattle.std.proofs.Common.{◌≡◌, ◌≤◌, drop, length}
use Rattle.ti_source.specs.Code.FirstFields.{Indexes}
use Rattle.ti_source.proofs.resolving.first_fields.index_of.Given as goal

-- the index is that of the fields after these
abbrev pub invariant-loop-left : goal.invariant-loop-left
invariant-loop-left l = record {
  inside : l.left ≤ length l.fields;
  long : length l.index.items ≡ 640;
  further : Indexes l.fields (drop l.left l.fields) l.index.items;
}

abbrev pub decreases-loop-left : goal.decreases-loop-left
decreases-loop-left l = l.left
