-- Which places a change of an emulated terminal may change.
use Rattle.std.specs.Prelude.{ℕ, ◌≡◌, ◌<◌, ◌&&◌, leb, ltb, if◌then◌else◌, Bool, false}
use Rattle.scr_cells.specs.Grids.{grid_at, is_in_run}
use Rattle.scr_cells.specs.LookViews.{blank}
use Rattle.scr_terminal.specs.Terminals.{TerminalView}
use Rattle.scr_terminal.specs.declared.changes.Change.{Change}
use Rattle.scr_terminal.specs.declared.changes.Change.TheVariants.{Moved, ErasedRun, ErasedFrom, ErasedAll, Cleared, LinesInserted, LinesDeleted, CharactersInserted, CharactersDeleted, Rendered}

-- the rows from one to another, of so many columns
abbrev pub is_in_rows : ℕ → ℕ → ℕ → ℕ → ℕ → Bool
is_in_rows columns first end r c = leb first r && ltb r end && ltb c columns

-- no place
abbrev pub is_nowhere : ℕ → ℕ → Bool
is_nowhere r c = false

-- the places of the screen that a change may change
abbrev pub is_changed_by : ℕ → ℕ → Change → ℕ → ℕ → Bool
is_changed_by rows columns (Moved spot) = is_nowhere
is_changed_by rows columns (ErasedRun row from end) = is_in_run row from end
is_changed_by rows columns (ErasedFrom row column) = is_in_rows columns row rows
is_changed_by rows columns ErasedAll = is_in_rows columns 0 rows
is_changed_by rows columns Cleared = is_in_rows columns 0 rows
is_changed_by rows columns (LinesInserted row n) = is_in_rows columns row rows
is_changed_by rows columns (LinesDeleted row n) = is_in_rows columns row rows
is_changed_by rows columns (CharactersInserted row column n) = is_in_run row column columns
is_changed_by rows columns (CharactersDeleted row column n) = is_in_run row column columns
is_changed_by rows columns (Rendered pen) = is_nowhere

-- columns of a row were copied from another terminal, and nothing else changed
pub record IsCopied (row from end : ℕ) (old other new : TerminalView) : Type 0 where
  pub rows : new.rows ≡ old.rows
  pub columns : new.columns ≡ old.columns
  pub spot : new.state.spot ≡ old.state.spot
  pub pen : new.state.pen ≡ old.state.pen
  pub places : (r c : ℕ) → r < old.rows → c < old.columns → grid_at blank new.state.grid r c ≡ (if is_in_run row from end r c then grid_at blank other.state.grid r c else grid_at blank old.state.grid r c)
