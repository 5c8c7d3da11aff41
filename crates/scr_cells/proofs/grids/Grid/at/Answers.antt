use Rattle.std.proofs.Common.{◌∙◌}
use Rattle.std.proofs.lemmas.List.{get_or_read}
use Rattle.scr_cells.proofs.GridLaws.{element_is, place_in}
use Rattle.scr_cells.proofs.grids.Grid.at.Goals as goal

pub returns : goal.returns
returns g c = λ other.
    get_or_read c.self.inside.items.items c.place.result c.index.result.now (place_in _ _ _ _ c.args.row c.args.column _ c.self.view_is c.self.invariant c.requires.row c.requires.column c.place.ensures) c.index.ensures other
    ∙ element_is _ _ c.self.inside.items.items _ c.args.row c.args.column c.place.result other c.self.view_is c.requires.row c.requires.column c.place.ensures
