use Rattle.std.proofs.Common.{◌≡◌, ◌≤◌, ◌+◌, drop, map, is_some}
use Rattle.ti_caps.specs.Description.{unnamed_from}
use Rattle.ti_caps.proofs.entry.unnamed_options.Given as goal

-- the count so far and that of the rest are the whole count
abbrev pub invariant-loop-position : goal.invariant-loop-position
invariant-loop-position g l =
    (l.count ≤ l.position) × (l.count + unnamed_from l.kind l.position (map is_some (drop l.position l.options)) ≡ unnamed_from l.kind 0 (map is_some l.options))
