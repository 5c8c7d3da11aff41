use Rattle.std.proofs.Common.{◌≡◌, ◌+◌, ◌-◌, drop, arith}
use Rattle.ti_source.proofs.IndexLaws.{drop-at}
use Rattle.ti_source.proofs.LaidLaws.{none-laid}
use Rattle.ti_source.proofs.resolving.merge.merge.Goals as goal

pub loop-left-init : goal.loop-left-init
loop-left-init c = record {
  inside = omega arith;
  further = none-laid c.args.names.now c.args.fields.now c.in-Ok.bare c.len-left.result c.in-Ok.ensures.ok c.len-left.ensures;
}

pub loop-left-preserved : goal.loop-left-preserved
loop-left-preserved c =
    let fields = c.args.fields.now in
    let back : c.loop-left.left - 1 + 1 ≡ c.loop-left.left = omega arith in
    record {
      inside = omega arith;
      further = rw (drop-at fields (c.loop-left.left - 1) c.at.result.now c.at.ensures.value, back) (c.in_ok-lay.ensures.ok c.args.names.now (drop c.loop-left.left fields) c.loop-left.invariant.further);
    }
