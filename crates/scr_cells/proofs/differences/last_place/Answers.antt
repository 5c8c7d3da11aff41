use Rattle.std.proofs.Common.{◌+◌, ◌-◌, ◌≡◌, arith, rules}
use Rattle.scr_cells.proofs.DifferenceLaws.{more_after, only_place, other_numbers, same_numbers}
use Rattle.scr_cells.proofs.differences.last_place.Goals as goal

pub returns-then-packed : goal.returns-then-packed
returns-then-packed g c = record {
  inside = omega arith;
  differs = other_numbers g.T.Packed.code c.args.a.now c.args.b.now (c.loop-end.end - 1) _ _ _ _ (omega arith) c.requires c.packed.ensures.value c.index-a-end.is c.packed-in-loop-end.ensures.value c.index-b-end.is c.if-packed.true;
  after = λ i from h. c.loop-end.invariant.same i (omega arith) h;
}

pub loop-end-preserved : goal.loop-end-preserved
loop-end-preserved g c =
    let there : c.loop-end.end - 1 + 1 ≡ c.loop-end.end = omega arith in
    record {
      inside = omega arith;
      same = more_after c.args.a.now c.args.b.now (c.loop-end.end - 1) 1 (λ i from h. c.loop-end.invariant.same i (omega (arith, there, from)) h)
          (only_place c.args.a.now c.args.b.now (c.loop-end.end - 1)
          (same_numbers g.T.Packed.coded c.args.a.now c.args.b.now (c.loop-end.end - 1) _ _ _ _ (omega arith) c.requires c.packed.ensures.back c.index-a-end.is c.packed-in-loop-end.ensures.back c.index-b-end.is c.if-packed.false));
    }

pub returns : goal.returns
returns g c = search rules
