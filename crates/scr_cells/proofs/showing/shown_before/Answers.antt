use Rattle.std.proofs.Common.{arith, option_map}
use Rattle.scr_cells.proofs.LaneLaws.{all_zero}
use Rattle.scr_cells.proofs.ShowingLaws.{more_seen}
use Rattle.scr_cells.proofs.showing.shown_before.Goals as goal

pub returns-then-others-ne0-clause-same : goal.returns-then-others-ne0-clause-same
returns-then-others-ne0-clause-same c =
    more_seen c.args.charset c.args.shown.0 c.hidden_bits-hidden.result c.loop-at.at c.zeros_from_left.result (option_map (λ looks. looks.now) c.args.looks) c.args.cells.now c.eight_shown.result c.eight.result c.unless_same-others.result
    c.hidden_bits-hidden.ensures c.eight_shown.ensures c.eight.ensures c.unless_same-others.ensures.zero c.zeros_from_left.ensures.few c.zeros_from_left.ensures.zeros c.loop-at.invariant.same

pub loop-at-preserved : goal.loop-at-preserved
loop-at-preserved c = record {
  inside = omega (arith, c.loop-at-test.true, c.loop-at.invariant.eights, c.loop-at.invariant.inside);
  eights = omega (arith, c.loop-at.invariant.eights);
  same = more_seen c.args.charset c.args.shown.0 c.hidden_bits-hidden.result c.loop-at.at 8 (option_map (λ looks. looks.now) c.args.looks) c.args.cells.now c.eight_shown.result c.eight.result c.unless_same-others.result c.hidden_bits-hidden.ensures
      c.eight_shown.ensures c.eight.ensures c.unless_same-others.ensures.zero (omega arith) (λ k near. all_zero c.unless_same-others.result c.if-others-ne0.false k) c.loop-at.invariant.same;
}
