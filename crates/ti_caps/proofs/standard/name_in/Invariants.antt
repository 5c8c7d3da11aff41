use Rattle.std.proofs.Common.{◌≡◌, map, drop}
use Rattle.ti_caps.specs.NameRuns.{seen}
use Rattle.ti_caps.specs.Table.{name_among}
use Rattle.ti_caps.proofs.standard.name_in.Given as goal

-- the rest of the runs gives the answer
abbrev pub invariant-loop-run : goal.invariant-loop-run
invariant-loop-run l = name_among l.kind l.slot.0 (map seen (drop l.run-index l.runs)) ≡ name_among l.kind l.slot.0 (map seen l.runs)
