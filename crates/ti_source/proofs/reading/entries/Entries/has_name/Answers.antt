use Rattle.std.proofs.Common.{◌∙◌, ap, is_some}
use Rattle.ti_source.specs.Code.Kept.{described_of}
use Rattle.ti_source.proofs.NamedLaws.{found-any}
use Rattle.ti_source.proofs.reading.entries.Entries.has_name.Goals as goal

pub returns : goal.returns
returns c =
    rw (← c.self.view_is) (c.contains_key.ensures ∙ ap is_some (c.self.invariant.1 c.args.name.now) ∙ found-any 0 c.args.name.now (described_of c.self.inside.names c.self.inside.statements c.self.inside.uses))
