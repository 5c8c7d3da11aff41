use Rattle.std.proofs.Common.{arith}
use Rattle.ti_source.proofs.FirstFieldLaws.{long-index, nothing-indexed}
use Rattle.ti_source.proofs.resolving.first_fields.index_of.Goals as goal

pub loop-left-init : goal.loop-left-init
loop-left-init c = record {
  inside = omega arith;
  long = long-index c.in_ok-index.index.items c.in_ok-index.ensures;
  further = rw c.len-left.ensures (nothing-indexed c.args.fields.now c.in_ok-index.index.items c.in_ok-index.ensures);
}

pub loop-left-smaller : goal.loop-left-smaller
loop-left-smaller c = omega arith
