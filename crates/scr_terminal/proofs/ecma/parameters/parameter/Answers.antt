use Rattle.scr_terminal.proofs.EcmaParameterLaws.{number_more}
use Rattle.scr_terminal.proofs.ecma.parameters.parameter.Goals as goal

pub loop-digit-preserved : goal.loop-digit-preserved
loop-digit-preserved c =
    let more = number_more c.args.digits.now c.loop-digit.digit-index c.loop-digit.number c.requires c.loop-digit-test.true c.loop-digit.invariant in
    let is = c.min-number.ensures in
    let digit = c.from.ensures in
    cc
