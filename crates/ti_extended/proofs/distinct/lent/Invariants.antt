use Rattle.std.proofs.Common.{◌≡◌, map, take}
use Rattle.ti_extended.proofs.distinct.lent.Given as goal

-- the names so far
abbrev pub invariant-loop-name : goal.invariant-loop-name
invariant-loop-name l = map (λ name. name.now) l.lent.items ≡ take l.name-index l.names
