use Rattle.std.proofs.Common.{◌≡◌, length}
use Rattle.ti_source.specs.Reading.Sources.{is_taken}
use Rattle.ti_source.proofs.reading.entries.Entries.has_any_name.Given as goal

-- the names that are left give the answer
abbrev pub invariant-loop-after : goal.invariant-loop-after
invariant-loop-after l = is_taken l.rest l.fn.self ≡ is_taken l.names l.fn.self

abbrev pub decreases-loop-after : goal.decreases-loop-after
decreases-loop-after l = length l.rest
