use Rattle.std.proofs.Common.{rules}
use Rattle.ti_source.proofs.NoteLaws.{notes-length}
use Rattle.ti_source.proofs.notes.Notes.is_empty.Goals as goal

pub returns : goal.returns
returns c =
    rw (← c.self.view_is, notes-length 0 c.self.inside.names.items c.self.inside.places.items) (search rules)
