use Rattle.std.proofs.Common.{◌+◌, ◌-◌, ◌≡◌, arith}
use Rattle.scr_cells.proofs.DifferenceLaws.{more_after}
use Rattle.scr_cells.proofs.differences.same_after.Goals as goal

pub loop-end-preserved : goal.loop-end-preserved
loop-end-preserved g c =
    let there : c.loop-end.end - 8 + 8 ≡ c.loop-end.end = omega arith in
    record {
      inside = omega arith;
      same = more_after c.args.a.now c.args.b.now (c.loop-end.end - 8) 8 (λ i from h. c.loop-end.invariant.same i (omega (arith, there, from)) h) (c.same_eight.ensures c.if-same_eight.true);
    }
