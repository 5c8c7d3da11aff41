use Rattle.std.proofs.Common.{arith}
use Rattle.std.proofs.lemmas.Bool.Decides.{nat_tests}
use Rattle.edit_text.proofs.PartLaws.{is_between, none_yet}
use Rattle.edit_text.proofs.parts.part_start.Goals as goal

pub loop-start-init : goal.loop-start-init
loop-start-init c = none_yet c.args.line.now c.args.column c.saturating_sub-start.result (omega (arith, c.saturating_sub-start.ensures))

pub returns : goal.returns
returns c = is_between c.args.line.now c.args.column c.loop-start.start (grind (arith, nat_tests, c.loop-start-test.false)) c.loop-start.invariant
