use Rattle.std.proofs.Common.{◌∙◌, sym}
use Rattle.ti_source.proofs.KeptLaws.{described-length}
use Rattle.ti_source.proofs.reading.entries.Entries.len.Goals as goal

pub returns : goal.returns
returns c =
    let k = c.self.invariant.0 in
    rw (← c.self.view_is) (c.len.ensures ∙ sym (described-length c.self.inside.names c.self.inside.statements c.self.inside.uses k.stated k.used))
