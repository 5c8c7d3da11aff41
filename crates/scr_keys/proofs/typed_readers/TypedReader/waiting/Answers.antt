use Rattle.std.proofs.Common.{arith, ap, length}
use Rattle.scr_keys.proofs.SequenceLaws.{begun_short}
use Rattle.scr_keys.proofs.typed_readers.TypedReader.waiting.Goals as goal

pub returns-clause-few : goal.returns-clause-few
returns-clause-few c = omega (arith, ap length c.deref.ensures.0, begun_short c.self.inside.waiting.items c.self.invariant)
