use Rattle.std.proofs.Common.{◌≡◌, ◌∙◌, ap, length, replicate, sym}
use Rattle.std.proofs.lemmas.List.{with_items_is}
use Rattle.scr_cells.proofs.GridLaws.{every_place_is}
use Rattle.scr_cells.proofs.grids.Grid.fill_every.Goals as goal

pub returns : goal.returns
returns g c =
    let kept : length c.fill_all.new.elements ≡ c.self.inside.items.len = c.fill_all.auto.elements ∙ ap length c.deref_mut.ensures.value ∙ sym c.self.inside.items.ok.0 in
    every_place_is _ _ c.self.inside.items.items _ c.args.element _ c.self.view_is c.self.invariant
    (with_items_is c.self.inside.items c.fill_all.new.elements kept ∙ c.fill_all.ensures ∙ ap (λ xs. replicate (length xs) c.args.element) c.deref_mut.ensures.value)
