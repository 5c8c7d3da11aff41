use Rattle.std.proofs.Common.{◌≡◌, ◌∙◌, sym, arith, get_or, take, refl, ◌<◌, length, false, not, ◌&&◌, eqb}
use Rattle.std.proofs.lemmas.List.{take_more}
use Rattle.ti_source.specs.Reading.Field.{takes_next}
use Rattle.ti_source.proofs.FieldLaws.{with_front-nil, fields_after-more, inner-goes}
use Rattle.ti_source.proofs.reading.field.split_field.Goals.{then-is_inner, else-is_inner+else-ends_field}
use Rattle.ti_source.proofs.reading.field.split_field.Goals as goal

pub loop-i-init : goal.loop-i-init
loop-i-init c = sym (with_front-nil _ c.args.bytes.now)

pub loop-i-preserved : goal.loop-i-preserved
loop-i-preserved c =
    let bs = c.args.bytes.now in
    let i = c.loop-i.i in
    let b = get_or bs i 0 in
    let lt : i < length bs = omega arith in
    let t = take_more bs i 0 lt in
    let step : ((not c.loop-i.taken && eqb b 44) ≡ false) × (c.if-is_inner.taken ≡ (not c.loop-i.taken && takes_next b)) = elim c.if-is_inner.branch [
      | then-is_inner w ↦ (let both = inner-goes c.loop-i.taken b (sym w.if-is_inner.ensures) in (both.0, w.taken-is ∙ both.1))
      | else-is_inner+else-ends_field w ↦ (sym w.if-ends_field.ensures, w.taken-is ∙ w.takes_after-taken.ensures)
    ] in
    let more = fields_after-more c.loop-i.taken (take i bs) bs i b lt refl step.0 in
    rw (t, step.1, ← more) c.loop-i.invariant
