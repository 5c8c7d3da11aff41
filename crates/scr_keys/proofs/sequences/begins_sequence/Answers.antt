use Rattle.std.proofs.Common.{arith, inl, inr}
use Rattle.scr_keys.proofs.WellFormedLaws.{begun_one, broken_first}
use Rattle.scr_keys.proofs.sequences.begins_sequence.Goals as goal

pub returns-in-194-to-244 : goal.returns-in-194-to-244
returns-in-194-to-244 c = begun_one c.args.byte (omega arith) (omega arith)

pub returns-in_default : goal.returns-in_default
returns-in_default c = broken_first c.args.byte (inl (omega arith))

pub returns-in_default-2 : goal.returns-in_default-2
returns-in_default-2 c = broken_first c.args.byte (inr (omega arith))
