use Rattle.std.proofs.Common.{arith}
use Rattle.std.proofs.lemmas.Bool.Decides.{nat_tests}
use Rattle.edit_text.proofs.PartLaws.{begins_within, none_within, past_none, rest_begins, rest_begins_none}
use Rattle.edit_text.proofs.parts.is_within.Goals as goal

pub returns-then-start-line : goal.returns-then-start-line
returns-then-start-line c = past_none c.args.line.now c.args.start c.args.column (grind (arith, nat_tests, c.if-start-line.true))

pub returns-in-Some : goal.returns-in-Some
returns-in-Some c =
    rw c.len_utf8.ensures.len (begins_within c.args.line.now c.args.start c.args.column c.in-Some.character c.requires (rest_begins c.args.line.now c.args.start c.in-Some.character c.in-Some.ensures))

pub returns-in-None : goal.returns-in-None
returns-in-None c = none_within c.args.line.now c.args.start c.args.column (rest_begins_none c.args.line.now c.args.start c.in-None.ensures)
