use Rattle.std.proofs.Common.{◌^◌, arith}
use Rattle.screen_calls.proofs.NumberLaws.{value_more}
use Rattle.screen_calls.proofs.fields.value_up_to_limit.Goals as goal

pub loop-digit-preserved : goal.loop-digit-preserved
loop-digit-preserved c =
    let more = value_more c.args.digits.now c.loop-digit.digit-index c.loop-digit.value (2 ^ 32) c.requires (omega arith) c.loop-digit.invariant in
    omega (arith, more, c.min-value.ensures, c.from.ensures)
