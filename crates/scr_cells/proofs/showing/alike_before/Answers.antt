use Rattle.std.proofs.Common.{arith, refl}
use Rattle.scr_cells.proofs.LaneLaws.{all_zero}
use Rattle.scr_cells.proofs.ShowingLaws.{more_between}
use Rattle.scr_cells.proofs.showing.alike_before.Goals as goal

pub returns-then-others-ne0-clause-alike : goal.returns-then-others-ne0-clause-alike
returns-then-others-ne0-clause-alike c =
    more_between _ c.in-Some.first c.loop-at.at c.zeros_from_left.result c.args.cells.now c.eight.result c.unless_alike-others.result c.in-Some.ensures refl c.eight.ensures c.unless_alike-others.ensures.zero
    c.zeros_from_left.ensures.few c.zeros_from_left.ensures.zeros c.loop-at.invariant.alike

pub loop-at-preserved : goal.loop-at-preserved
loop-at-preserved c = record {
  inside = omega (arith, c.loop-at-test.true, c.loop-at.invariant.eights, c.loop-at.invariant.inside);
  eights = omega (arith, c.loop-at.invariant.eights);
  alike = more_between _ c.in-Some.first c.loop-at.at 8 c.args.cells.now c.eight.result c.unless_alike-others.result c.in-Some.ensures refl c.eight.ensures c.unless_alike-others.ensures.zero (omega arith)
      (λ k near. all_zero c.unless_alike-others.result c.if-others-ne0.false k) c.loop-at.invariant.alike;
}
