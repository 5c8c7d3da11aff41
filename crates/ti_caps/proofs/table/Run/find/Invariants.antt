use Rattle.std.proofs.Common.{◌≡◌, ◌+◌, drop, map}
use Rattle.ti_caps.specs.Table.{position_from}
use Rattle.ti_caps.proofs.table.Run.find.Given as goal

-- the rest of the names gives the answer
abbrev pub invariant-loop-index : goal.invariant-loop-index
invariant-loop-index l =
    position_from (l.self.first + l.index) l.name (map (λ s. s.now) (drop l.index l.self.names.now)) ≡ position_from l.self.first l.name (map (λ s. s.now) l.self.names.now)
