use Rattle.std.proofs.Common.{arith, rules}
use Rattle.scr_cells.proofs.DifferenceLaws.{more_before, only_place, other_numbers, same_numbers}
use Rattle.scr_cells.proofs.differences.first_place.Goals as goal

pub returns-then-packed : goal.returns-then-packed
returns-then-packed g c = record {
  inside = omega arith;
  differs = other_numbers g.T.Packed.code c.args.a.now c.args.b.now c.loop-place.place _ _ _ _ (omega arith) c.requires c.packed.ensures.value c.index-a-place.is c.packed-in-loop-place.ensures.value c.index-b-place.is c.if-packed.true;
  before = c.loop-place.invariant;
}

pub loop-place-preserved : goal.loop-place-preserved
loop-place-preserved g c =
    more_before c.args.a.now c.args.b.now c.loop-place.place 1 c.loop-place.invariant
    (only_place c.args.a.now c.args.b.now c.loop-place.place
    (same_numbers g.T.Packed.coded c.args.a.now c.args.b.now c.loop-place.place _ _ _ _ (omega arith) c.requires c.packed.ensures.back c.index-a-place.is c.packed-in-loop-place.ensures.back c.index-b-place.is c.if-packed.false))

pub returns : goal.returns
returns g c = search rules
