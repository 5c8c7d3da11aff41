use Rattle.std.proofs.Common.{◌∙◌, ◌<◌, sym, rules, arith, get_or, length, refl}
use Rattle.ti_source.proofs.NumberLaws.{digits_after-next}
use Rattle.ti_source.proofs.reading.number.digits.Goals as goal

pub loop-b-preserved : goal.loop-b-preserved
loop-b-preserved c =
    let bs = c.args.bytes.now in
    let lt : c.loop-b.b-index < length bs = omega arith in (
      omega arith,
      sym (digits_after-next c.args.most c.args.base c.loop-b.value c.digit-next.result c.with_digit-value.result c.loop-b.b-index (get_or bs c.loop-b.b-index 0) bs c.requires.low lt refl c.digit-next.ensures.value (search rules) c.with_digit-value.ensures) ∙ c.loop-b.invariant.1,
    )
