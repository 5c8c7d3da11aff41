use Rattle.std.proofs.Common.{◌≡◌, ◌∙◌, length, sym, rules}
use Rattle.ti_source.proofs.NoteLaws.{notes-length}
use Rattle.ti_source.proofs.notes.Notes.len.Goals as goal

pub returns : goal.returns
returns c =
    let places = c.self.inside.places.items in
    let counted : c.len.result ≡ length places = search rules in
    rw (← c.self.view_is) (counted ∙ sym (notes-length 0 c.self.inside.names.items places))
