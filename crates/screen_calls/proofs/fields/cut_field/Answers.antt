use Rattle.std.specs.Option.{option_copied}
use Rattle.screen_calls.proofs.FieldLaws.{cut_is}
use Rattle.screen_calls.proofs.fields.cut_field.Goals as goal

pub returns : goal.returns
returns c = cut_is c.args.text.now c.cut_at.result.0.now (option_copied c.cut_at.result.1) c.cut_at.ensures.parts
