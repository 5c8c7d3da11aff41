use Rattle.std.proofs.Common.{arith}
use Rattle.std.proofs.lemmas.Bool.Decides.{nat_tests}
use Rattle.edit_text.proofs.PartLaws.{low_begins_none}
use Rattle.edit_text.proofs.parts.first_part.Goals as goal

pub returns-then-first-lt128 : goal.returns-then-first-lt128
returns-then-first-lt128 c = ((c.in-Some.field-0-1.now, c.in-Some.ensures.cases.0), low_begins_none c.args.bytes.now c.in-Some.field-0-1.now c.in-Some.field-0-0.now c.in-Some.ensures.cases.0 (grind (arith, nat_tests, c.if-first-lt128.true)))
