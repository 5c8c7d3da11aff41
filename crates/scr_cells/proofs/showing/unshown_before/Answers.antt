use Rattle.std.proofs.Common.{arith, option_map}
use Rattle.scr_cells.proofs.LaneLaws.{all_zero}
use Rattle.scr_cells.proofs.ShowingLaws.{more_alike, more_unlike}
use Rattle.scr_cells.proofs.showing.unshown_before.Goals as goal

pub returns-then-others-ne0-clause-unseen : goal.returns-then-others-ne0-clause-unseen
returns-then-others-ne0-clause-unseen c =
    more_unlike c.args.charset c.args.shown.0 c.in-Some.base c.kept_bits-kept.result c.loop-at.at c.zeros_from_left.result (option_map (λ looks. looks.now) c.args.looks) c.args.cells.now c.eight_shown.result c.eight.result c.unless_unlike-others.result c.in-Some.ensures c.kept_bits-kept.ensures c.eight_shown.ensures
    c.eight.ensures c.unless_unlike-others.ensures.zero c.zeros_from_left.ensures.few c.zeros_from_left.ensures.zeros c.loop-at.invariant.unseen

pub returns-then-others-ne0-clause-alike : goal.returns-then-others-ne0-clause-alike
returns-then-others-ne0-clause-alike c =
    more_alike c.args.charset c.args.shown.0 c.in-Some.base c.kept_bits-kept.result c.loop-at.at c.zeros_from_left.result c.args.cells.now c.eight_shown.result c.eight.result c.unless_unlike-others.result c.in-Some.ensures c.kept_bits-kept.ensures c.eight.ensures
    c.unless_unlike-others.ensures.zero c.zeros_from_left.ensures.few c.zeros_from_left.ensures.zeros c.loop-at.invariant.alike

pub loop-at-preserved : goal.loop-at-preserved
loop-at-preserved c =
    let zeros = all_zero c.unless_unlike-others.result c.if-others-ne0.false in
    record {
      inside = omega (arith, c.loop-at-test.true, c.loop-at.invariant.eights, c.loop-at.invariant.inside);
      eights = omega (arith, c.loop-at.invariant.eights);
      unseen = more_unlike c.args.charset c.args.shown.0 c.in-Some.base c.kept_bits-kept.result c.loop-at.at 8 (option_map (λ looks. looks.now) c.args.looks) c.args.cells.now c.eight_shown.result c.eight.result c.unless_unlike-others.result c.in-Some.ensures c.kept_bits-kept.ensures c.eight_shown.ensures
          c.eight.ensures c.unless_unlike-others.ensures.zero (omega arith) (λ k near. zeros k) c.loop-at.invariant.unseen;
      alike = more_alike c.args.charset c.args.shown.0 c.in-Some.base c.kept_bits-kept.result c.loop-at.at 8 c.args.cells.now c.eight_shown.result c.eight.result c.unless_unlike-others.result c.in-Some.ensures c.kept_bits-kept.ensures c.eight.ensures
          c.unless_unlike-others.ensures.zero (omega arith) (λ k near. zeros k) c.loop-at.invariant.alike;
    }
