-- What the fields of an emulated terminal make is one: a new one, one with a character written, and ones with places erased.
use Rattle.std.proofs.Common.{◌≡◌, ℕ, ◌<◌, Bool, sym, subst}
use Rattle.scr_cells.specs.declared.charsets.Charset.TheVariants.{Utf8}
use Rattle.scr_cells.specs.Grids.{GridView, GridLaws, grid_of, grid_with}
use Rattle.scr_cells.specs.LookViews.{LookView, IsLook, blank, blank_grid}
use Rattle.scr_cells.specs.PenViews.{PenView, plain_pen}
use Rattle.scr_cells.specs.PictureViews.{IsSize}
use Rattle.scr_term.specs.Operations.Abilities.{full_abilities}
use Rattle.scr_term.specs.Operations.States.{IsSpot}
use Rattle.scr_term.specs.declared.operations.operation.Spot.{Spot}
use Rattle.scr_term.specs.declared.operations.operation.Spot.TheVariants.{At}
use Rattle.scr_terminal.specs.Terminals.{TerminalView, IsTerminal, blank_terminal}
use Rattle.scr_terminal.proofs.ErasedLaws.{blanked}
use Rattle.scr_term.specs.Operations.Laws.{LookGridLaws, ShownPenLaws}

blank_is_terminal : LookGridLaws → ShownPenLaws → (rows columns : ℕ) → IsSize rows columns → IsTerminal (blank_terminal rows columns)
blank_is_terminal looks pens rows columns size = record {
  size = size;
  state = record {
    whole = looks.blank_size rows columns;
    looks = looks.blank_looks rows columns;
    spot = (size.some_rows, size.some_columns);
    pen = pens.plain (full_abilities Utf8 rows columns);
  };
}

-- a new one
pub new_is_terminal : LookGridLaws → ShownPenLaws → (rows columns : ℕ) (grid : GridView LookView) (look : LookView) (pen : PenView) → IsSize rows columns
    → grid ≡ record { rows = rows; columns = columns; lines = grid_of rows columns (λ _ _. look) } → look ≡ blank → pen ≡ plain_pen
    → IsTerminal (record { rows = grid.rows; columns = grid.columns; state = record { grid = grid.lines; spot = At 0 0; pen = pen } })
new_is_terminal looks pens rows columns grid look pen size made is_blank is_plain =
    let View : GridView LookView → PenView → TerminalView = λ g p. record { rows = g.rows; columns = g.columns; state = record { grid = g.lines; spot = At 0 0; pen = p } } in
    subst (λ (g : GridView LookView). IsTerminal (View g pen)) (sym made)
    (subst (λ (l : LookView). IsTerminal (View (record { rows = rows; columns = columns; lines = grid_of rows columns (λ _ _. l) }) pen)) (sym is_blank)
    (subst (λ (p : PenView). IsTerminal (View (record { rows = rows; columns = columns; lines = grid_of rows columns (λ _ _. blank) }) p)) (sym is_plain) (blank_is_terminal looks pens rows columns size)))

-- one with a character more
pub written_is_terminal : LookGridLaws → (old : TerminalView) (grid : GridView LookView) (r c : ℕ) (look : LookView) (spot : Spot) → IsTerminal old → r < old.rows → IsLook look
    → grid ≡ record { rows = old.rows; columns = old.columns; lines = grid_with old.state.grid r c look } → IsSpot old.rows old.columns spot
    → IsTerminal (record { rows = grid.rows; columns = grid.columns; state = record { grid = grid.lines; spot = spot; pen = old.state.pen } })
written_is_terminal laws old grid r c look spot is row_in one put inside =
    let P : GridView LookView → Type 0 = λ g. IsTerminal (record { rows = g.rows; columns = g.columns; state = record { grid = g.lines; spot = spot; pen = old.state.pen } }) in
    subst P (sym put) (record {
      size = is.size;
      state = record {
        whole = laws.put_size old.rows old.columns old.state.grid r c look is.state.whole;
        looks = laws.put_looks old.rows old.columns old.state.grid r c look is.state.whole row_in one is.state.looks;
        spot = inside;
        pen = is.state.pen;
      };
    })

pub blanked_is_terminal : GridLaws LookView → LookGridLaws → (old : TerminalView) (grid : GridView LookView) (inside : ℕ → ℕ → Bool) → IsTerminal old
    → grid ≡ blanked (record { rows = old.rows; columns = old.columns; lines = old.state.grid }) inside
    → IsTerminal (record { rows = grid.rows; columns = grid.columns; state = record old.state { grid = grid.lines } })
blanked_is_terminal laws looks old grid inside is e =
    let P : GridView LookView → Type 0 = λ g. IsTerminal (record { rows = g.rows; columns = g.columns; state = record old.state { grid = g.lines } }) in
    subst P (sym e) (record {
      size = is.size;
      state = record {
        whole = laws.sized old.rows old.columns _;
        looks = looks.filled_looks old.rows old.columns inside old.state.grid is.state.looks;
        spot = is.state.spot;
        pen = is.state.pen;
      };
    })

-- one whose places are all made blank
pub cleared_is_terminal : LookGridLaws → (old : TerminalView) (grid : GridView LookView) → IsTerminal old → grid ≡ record { rows = old.rows; columns = old.columns; lines = blank_grid old.rows old.columns }
    → IsTerminal (record { rows = grid.rows; columns = grid.columns; state = record old.state { grid = grid.lines } })
cleared_is_terminal laws old grid is e =
    let P : GridView LookView → Type 0 = λ g. IsTerminal (record { rows = g.rows; columns = g.columns; state = record old.state { grid = g.lines } }) in
    subst P (sym e) (record {
      size = is.size;
      state = record { whole = laws.blank_size old.rows old.columns; looks = laws.blank_looks old.rows old.columns; spot = is.state.spot; pen = is.state.pen };
    })

-- one whose places moved
pub formed_is_terminal : GridLaws LookView → LookGridLaws → (old : TerminalView) (grid : GridView LookView) (f : ℕ → ℕ → LookView) → IsTerminal old → ((r c : ℕ) → IsLook (f r c))
    → grid ≡ record { rows = old.rows; columns = old.columns; lines = grid_of old.rows old.columns f }
    → IsTerminal (record { rows = grid.rows; columns = grid.columns; state = record old.state { grid = grid.lines } })
formed_is_terminal laws looks old grid f is each e =
    let P : GridView LookView → Type 0 = λ g. IsTerminal (record { rows = g.rows; columns = g.columns; state = record old.state { grid = g.lines } }) in
    subst P (sym e) (record {
      size = is.size;
      state = record { whole = laws.sized old.rows old.columns f; looks = looks.formed_looks old.rows old.columns f each; spot = is.state.spot; pen = is.state.pen };
    })
