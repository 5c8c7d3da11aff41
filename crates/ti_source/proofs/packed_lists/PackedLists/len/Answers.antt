use Rattle.std.proofs.Common.{◌≡◌, ◌∙◌, length, sym, rules}
use Rattle.ti_source.proofs.PartLaws.{parts-length}
use Rattle.ti_source.proofs.packed_lists.PackedLists.len.Goals as goal

pub returns : goal.returns
returns g c =
    let ends = c.self.inside.ends.items in
    let counted : c.len.result ≡ length ends = search rules in
    rw (← c.self.view_is) (counted ∙ sym (parts-length 0 c.self.inside.items.items ends))
