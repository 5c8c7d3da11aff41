use Rattle.std.proofs.Common.{◌≡◌, drop}
use Rattle.ti_caps.specs.Table.{name_among, runs}
use Rattle.ti_caps.proofs.table.name_of.Given as goal

-- the rest of the table gives the answer
abbrev pub invariant-loop-index : goal.invariant-loop-index
invariant-loop-index l = name_among l.kind l.slot.0 (drop l.index runs) ≡ name_among l.kind l.slot.0 runs
