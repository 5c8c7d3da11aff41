use Rattle.std.proofs.Common.{◌≡◌, drop}
use Rattle.std.specs.List.{list_any}
use Rattle.ti_source.specs.Reading.Sources.{concerns}
use Rattle.ti_source.proofs.reading.statement.is_stated.Given as goal

abbrev pub invariant-loop-statement : goal.invariant-loop-statement
invariant-loop-statement l =
    list_any (concerns l.kind l.slot.0) (drop l.statement-index l.statements) ≡ list_any (concerns l.kind l.slot.0) l.statements
