-- The characters of ASCII at the front of a list of operations, as far as the row has room; and characters that are repeated.
-- terminfo(5), 'Basic Capabilities' and 'Miscellaneous'.
use Rattle.std.specs.Prelude.{ℕ, suc, ◌≡◌, ◌+◌, ◌-◌, ◌<◌, ◌≤◌, Bool, false, List, [], ◌∷◌, Some, replicate, take, if◌then◌else◌}
use Rattle.scr_cells.specs.Characters.{is_ascii}
use Rattle.scr_cells.specs.Grids.{grid_at, is_in_run}
use Rattle.scr_cells.specs.LookViews.{LookView, blank}
use Rattle.scr_term.specs.Operations.Profiles.{ProfileView, abilities}
use Rattle.scr_term.specs.Operations.States.{TerminalState, IsState}
use Rattle.scr_term.specs.Operations.Steps.{runs, step}
use Rattle.scr_term.specs.declared.operations.operation.Op.{Op}
use Rattle.scr_term.specs.declared.operations.operation.Op.TheVariants.{Put, Repeat}
use Rattle.scr_term.specs.declared.operations.operation.Spot.{Spot}
use Rattle.scr_term.specs.declared.operations.operation.Spot.TheVariants.{At, Margin}

-- The operation writes a character of ASCII.
abbrev pub is_character_op : Op → Bool
is_character_op (Put byte) = is_ascii byte
is_character_op op = false

-- The number of such characters that operations begin with.
abbrev pub characters_first : List Op → ℕ
characters_first [] = 0
characters_first (op ∷ ops) = if is_character_op op then suc (characters_first ops) else 0

-- The number of places from the cursor to the end of its row; none at the margin.
abbrev pub places_ahead : ℕ → Spot → ℕ
places_ahead columns (At r c) = columns - c
places_ahead columns (Margin r) = 0

-- The number of these characters that fit into the cursor's row.
abbrev pub characters_ahead : ℕ → Spot → List Op → ℕ
characters_ahead columns spot ops = characters_first (take (places_ahead columns spot) ops)

-- So many characters from the cursor on fit into its row, none at the margin; every other place of the screen stays as it was.
abbrev pub LeavesOthers : ℕ → ℕ → Spot → ℕ → List (List LookView) → List (List LookView) → Type 0
LeavesOthers rows columns (At row column) n old new =
    (column + n ≤ columns) × ((r c : ℕ) → r < rows → c < columns → is_in_run row column (column + n) r c ≡ false → grid_at blank new r c ≡ grid_at blank old r c)
LeavesOthers rows columns (Margin row) n old new = n ≡ 0

-- A character that is repeated n times is that character n times, as terminfo(5) has it.
abbrev pub RepeatsAreCharacters : Type 0
RepeatsAreCharacters =
    (profile : ProfileView) (old new : TerminalState) → IsState (abilities profile) old
    → (byte n : ℕ) → step profile old (Repeat byte n) ≡ Some new → runs profile old (replicate n (Put byte)) ≡ Some new
