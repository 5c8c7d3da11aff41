use Rattle.std.proofs.Common.{arith}
use Rattle.std.proofs.lemmas.Bool.Decides.{nat_tests}
use Rattle.edit_text.proofs.PartLaws.{low_ends_none, neither_ends}
use Rattle.edit_text.proofs.parts.last_part.Goals as goal

pub returns-then-last-lt128 : goal.returns-then-last-lt128
returns-then-last-lt128 c = ((c.in-Some.field-0-1.now, c.in-Some.ensures.cases.0), low_ends_none c.args.bytes.now c.in-Some.field-0-1.now c.in-Some.field-0-0.now c.in-Some.ensures.cases.0 (grind (arith, nat_tests, c.if-last-lt128.true)))

pub returns-in-None : goal.returns-in-None
returns-in-None c = ((c.in-Some.field-0-1.now, c.in-Some.ensures.cases.0), neither_ends c.args.bytes.now c.in_default-last_character.ensures c.in-None.ensures)
