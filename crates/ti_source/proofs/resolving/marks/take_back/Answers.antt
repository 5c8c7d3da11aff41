use Rattle.std.proofs.Common.{◌<◌, length, arith}
use Rattle.ti_source.proofs.ChainLaws.{back-end, back-init, back-pass, back-read}
use Rattle.ti_source.proofs.resolving.marks.take_back.Goals.{in-Open, in_default}
use Rattle.ti_source.proofs.resolving.marks.take_back.Goals as goal

pub loop-i-init : goal.loop-i-init
loop-i-init c = back-init c.args.marks.now

pub loop-i-preserved : goal.loop-i-preserved
loop-i-preserved c =
    let lt : c.loop-i.i < length c.loop-i.marks = omega (arith, c.loop-i.auto.marks, c.loop-i-test.true) in
    elim c.match-marks-i.branch [
      | in-Open w ↦ back-read c.args.marks.now c.loop-i.marks c.match-marks-i.marks c.loop-i.i c.loop-i.invariant lt w.in-Open.is w.marks-is
      | in_default w ↦ back-pass c.args.marks.now c.loop-i.marks c.match-marks-i.marks c.loop-i.i c.loop-i.invariant lt w.in_default.not-Open w.marks-is
    ]

pub returns : goal.returns
returns c =
    back-end c.args.marks.now c.loop-i.marks c.loop-i.i c.loop-i.invariant (omega (arith, c.loop-i.auto.marks, c.loop-i-test.false))
