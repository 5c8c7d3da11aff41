-- What a terminal shows when a picture is painted on it. curs_refresh(3X), doupdate().
use Rattle.std.specs.Prelude.{ℕ, ◌≡◌, List, Option, map, IfSome}
use Rattle.scr_cells.specs.CellViews.{CellView}
use Rattle.scr_cells.specs.LookViews.{LookView, seen, negative_grid}
use Rattle.scr_cells.specs.PictureViews.{PictureView}
use Rattle.scr_term.specs.Operations.Abilities.{Abilities}
use Rattle.scr_term.specs.Operations.States.{TerminalState}
use Rattle.scr_term.specs.declared.operations.operation.Spot.TheVariants.{At}

-- What a terminal with these abilities shows of a cell, if the pairs have these colours.
abbrev pub seen_on : Abilities → List (Option ℕ × Option ℕ) → CellView → LookView
seen_on abilities pairs = seen abilities.charset abilities.shown abilities.colours pairs

-- What the terminal shows of the picture's cell, at every place.
abbrev pub painted : Abilities → PictureView → List (List LookView)
painted abilities picture = map (map (seen_on abilities picture.pairs)) picture.lines

-- The terminal shows the picture: each of its cells in its place, and the cursor where the picture asks for it, if
-- it does.
pub record Shows (abilities : Abilities) (state : TerminalState) (picture : PictureView) : Type 0 where
  pub grid : state.grid ≡ painted abilities picture
  pub spot : IfSome picture.wish (λ wish. state.spot ≡ At wish.0 wish.1)

-- The same for a screen that shows the negative.
pub record ShowsNegative (abilities : Abilities) (state : TerminalState) (picture : PictureView) : Type 0 where
  pub grid : state.grid ≡ negative_grid (painted abilities picture)
  pub spot : IfSome picture.wish (λ wish. state.spot ≡ At wish.0 wish.1)
