use Rattle.edit_text.specs.Code.Searches.{AreNoneBefore}
use Rattle.edit_text.proofs.finding.first_from.Given as goal

abbrev pub invariant-loop-line : goal.invariant-loop-line
invariant-loop-line l = AreNoneBefore l.lines l.from l.bytes l.line
