-- Painting a whole picture from scratch. curs_refresh(3X), doupdate() of a screen of which nothing is known.
use Rattle.std.specs.Prelude.{ℕ, ◌≡◌, ◌≤◌, ◌+◌, ◌*◌, length, List, [], ◌∷◌, ◌++◌, map, Option, Some, None, if◌then◌else◌}
use Rattle.std.specs.List.{flat_map, range_with_len}
use Rattle.scr_cells.specs.Attributes.{attributes_of}
use Rattle.scr_cells.specs.CellViews.{blank_cell}
use Rattle.scr_cells.specs.Grids.{grid_at, grid_with}
use Rattle.scr_cells.specs.LookViews.{LookView}
use Rattle.scr_cells.specs.PenViews.{PenView}
use Rattle.scr_cells.specs.PictureViews.{PictureView, IsPicture, IsPlace}
use Rattle.scr_term.specs.declared.operations.capability.Capability.TheVariants.{Sgr0}
use Rattle.scr_term.specs.Operations.Admission.{IsEcma48}
use Rattle.scr_term.specs.Operations.Profiles.{ProfileView, IsProfile, abilities, is_there}
use Rattle.scr_term.specs.Operations.States.{TerminalState, IsState, negative_state, spot_after}
use Rattle.scr_term.specs.Operations.Steps.{runs}
use Rattle.scr_term.specs.Operations.Texts.{all_bytes, put_of}
use Rattle.scr_term.specs.Operations.Painted.{Shows, ShowsNegative, seen_on}
use Rattle.scr_term.specs.Ecma.Meanings.{Leads}
use Rattle.scr_term.specs.declared.operations.operation.Op.{Op}
use Rattle.scr_term.specs.declared.operations.operation.Op.TheVariants.{Move, Clear, Reset, Enter, Fore, Back}

-- ---- the operations

-- Turns on one attribute.
abbrev pub enter : ℕ → Op
enter attribute = Enter (record { 0 = attribute })

-- Sets a foreground colour, unless it is the default.
abbrev pub sets_foreground : Option ℕ → List Op
sets_foreground None = []
sets_foreground (Some colour) = Fore colour ∷ []

-- Sets a background colour, unless it is the default.
abbrev pub sets_background : Option ℕ → List Op
sets_background None = []
sets_background (Some colour) = Back colour ∷ []

-- What is seen of the picture in a place on this terminal.
abbrev pub look_at : ProfileView → PictureView → ℕ × ℕ → LookView
look_at profile picture place = seen_on (abilities profile) picture.pairs (grid_at blank_cell picture.lines place.0 place.1)

-- Attributes off and default colours. Without `sgr0` the terminal never has others, and nothing is sent.
abbrev pub resets : ProfileView → List Op
resets profile = if is_there profile Sgr0 then Reset ∷ [] else []

-- Turns on each attribute of a pen and sets its colours.
abbrev pub renders : PenView → List Op
renders pen = map enter (attributes_of pen.attrs) ++ sets_foreground pen.foreground ++ sets_background pen.background

-- The cursor to a place, attributes off and default colours; these come first if the terminal cannot move with
-- attributes on.
abbrev pub goes : ProfileView → ℕ × ℕ → List Op
goes profile place = if profile.msgr then Move place.0 place.1 ∷ resets profile else resets profile ++ Move place.0 place.1 ∷ []

-- Paints one place: the cursor there, its attributes and colours, and its character.
abbrev pub paints_place : ProfileView → PictureView → ℕ × ℕ → List Op
paints_place profile picture place =
    goes profile place ++ renders (look_at profile picture place).pen ++ put_of (look_at profile picture place).character ∷ []

-- The places of row r, from the left.
abbrev pub row_places : ℕ → ℕ → List (ℕ × ℕ)
row_places columns r = map (λ c. (r, c)) (range_with_len 0 columns)

-- Every place, row by row from the top.
abbrev pub places : ℕ → ℕ → List (ℕ × ℕ)
places rows columns = flat_map (row_places columns) (range_with_len 0 rows)

-- Paints every place of the picture.
abbrev pub paints_places : ProfileView → PictureView → List Op
paints_places profile picture = flat_map (paints_place profile picture) (places picture.rows picture.columns)

-- The cursor to where it should be, if the picture says so.
abbrev pub places_cursor : Option (ℕ × ℕ) → List Op
places_cursor None = []
places_cursor (Some place) = Move place.0 place.1 ∷ []

-- Scratch: attributes off, clear the screen, paint every place, attributes off, place the cursor.
abbrev pub scratch_of : ProfileView → PictureView → List Op
scratch_of profile picture =
    resets profile ++ Clear ∷ [] ++ paints_places profile picture ++ resets profile ++ places_cursor picture.wish

-- ---- the laws

-- From every state of a profile, painting one place is defined. That place then has its look, no other has changed, the
-- cursor is after it, and the pen is that of the look.
abbrev pub PlaceIsPainted : Type 0
PlaceIsPainted =
    (profile : ProfileView) → IsProfile profile
    → (picture : PictureView) → IsPicture picture
    → (place : ℕ × ℕ) → IsPlace profile.rows profile.columns place
    → (old : TerminalState) → IsState (abilities profile) old
    → runs profile old (paints_place profile picture place) ≡ Some (record {
      grid = grid_with old.grid place.0 place.1 (look_at profile picture place);
      spot = spot_after profile.columns place.0 place.1;
      pen = (look_at profile picture place).pen;
    })

-- The picture has the size of the profile's screen.
pub record Fits (profile : ProfileView) (picture : PictureView) : Type 0 where
  pub rows : picture.rows ≡ profile.rows
  pub columns : picture.columns ≡ profile.columns

-- From this state the operations are all defined, and lead to a state of the profile that shows the picture.
pub record RunsToShow (profile : ProfileView) (old : TerminalState) (ops : List Op) (picture : PictureView) : Type 0 where
  pub new : TerminalState
  pub run : runs profile old ops ≡ Some new
  pub shows : Shows (abilities profile) new picture
  pub state : IsState (abilities profile) new

-- From every state of the profile, scratch shows the picture.
abbrev pub ScratchShows : Type 0
ScratchShows =
    (profile : ProfileView) → IsProfile profile
    → (picture : PictureView) → IsPicture picture → Fits profile picture
    → (old : TerminalState) → IsState (abilities profile) old
    → RunsToShow profile old (scratch_of profile picture) picture

-- Scratch has at most 12 operations for each place, and 4 more.
abbrev pub ScratchIsBounded : Type 0
ScratchIsBounded =
    (profile : ProfileView) (picture : PictureView)
    → length (scratch_of profile picture) ≤ picture.rows * picture.columns * 12 + 4

-- Read as an ECMA-48 text from the negative of this state (reverse in place of standout), the bytes are all defined and
-- lead to the negative of a state of the profile that shows the picture.
pub record LeadsToShow (profile : ProfileView) (old : TerminalState) (text : List ℕ) (picture : PictureView) : Type 0 where
  pub new : TerminalState
  pub leads : Leads profile.charset profile.rows profile.columns (negative_state old) text (negative_state new)
  pub shows : ShowsNegative (abilities profile) (negative_state new) picture
  pub state : IsState (abilities profile) new

-- From the negative of every state of the bundled entry's profile, the bytes of scratch show the negative of the
-- picture.
abbrev pub ScratchBytesShow : Type 0
ScratchBytesShow =
    (profile : ProfileView) → IsEcma48 profile
    → (picture : PictureView) → IsPicture picture → Fits profile picture
    → (old : TerminalState) → IsState (abilities profile) old
    → LeadsToShow profile old (all_bytes profile (scratch_of profile picture)) picture
