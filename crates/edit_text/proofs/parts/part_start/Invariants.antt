use Rattle.edit_text.proofs.PartLaws.{AreNoneWithin}
use Rattle.edit_text.proofs.parts.part_start.Given as goal

abbrev pub invariant-loop-start : goal.invariant-loop-start
invariant-loop-start l = AreNoneWithin l.line l.column l.start
