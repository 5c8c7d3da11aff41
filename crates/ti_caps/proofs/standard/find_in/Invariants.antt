use Rattle.std.proofs.Common.{◌≡◌, map, drop}
use Rattle.ti_caps.specs.NameRuns.{seen}
use Rattle.ti_caps.specs.Table.{found_among}
use Rattle.ti_caps.proofs.standard.find_in.Given as goal

-- the rest of the runs gives the answer
abbrev pub invariant-loop-run : goal.invariant-loop-run
invariant-loop-run l = found_among l.name (map seen (drop l.run-index l.runs)) ≡ found_among l.name (map seen l.runs)
