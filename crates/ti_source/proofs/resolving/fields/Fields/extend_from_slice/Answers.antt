use Rattle.std.proofs.Common.{arith}
use Rattle.ti_source.proofs.GoodLaws.{good-read}
use Rattle.ti_source.proofs.resolving.fields.Fields.extend_from_slice.Goals as goal

pub push-requires : goal.push-requires
push-requires c = good-read c.args.fields.now c.loop-field.field-index c.field-item.result c.requires (omega arith) c.field-item.is
