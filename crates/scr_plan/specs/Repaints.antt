-- Painting only the places that differ from what is known of the terminal. curs_refresh(3X), doupdate(); X/Open Curses
-- Issue 7, doupdate().
use Rattle.std.specs.Prelude.{ℕ, zero, suc, ◌≡◌, ◌<◌, ◌≤◌, ◌==◌, ◌&&◌, ◌||◌, not, leb, nat_le, Bool, true, false, List, [], ◌∷◌, ◌++◌, length, filter, Option, Some, None, unwrap_or, if◌then◌else◌}
use Rattle.std.specs.List.{flat_map, list_all, range_with_len}
use Rattle.scr_cells.specs.Grids.{IsGrid, grid_at}
use Rattle.scr_cells.specs.LookViews.{LookView, blank}
use Rattle.scr_cells.specs.PenViews.{is_plain_pen, pen_eq}
use Rattle.scr_cells.specs.PictureViews.{PictureView, IsPicture}
use Rattle.scr_virtual.specs.Ranges.{in_range}
use Rattle.scr_virtual.specs.VirtualViews.{VirtualView, altered_at}
use Rattle.scr_term.specs.declared.operations.operation.Op.{Op}
use Rattle.scr_term.specs.declared.operations.operation.Op.TheVariants.{Clear, EraseLine, Move, Reset}
use Rattle.scr_term.specs.Operations.Profiles.{ProfileView, IsProfile, abilities}
use Rattle.scr_term.specs.Operations.States.{TerminalState, IsState, blank_state}
use Rattle.scr_term.specs.Operations.Steps.{step}
use Rattle.scr_term.specs.Operations.Texts.{all_bytes, bytes_of, has, put_of}
use Rattle.scr_memory.specs.Memories.{Agrees, MemoryView, is_in_place, is_known, is_known_row, is_placed, remembered}
use Rattle.scr_plan.specs.Scratch.{Fits, RunsToShow, goes, look_at, paints_place, places, places_cursor, renders, resets, scratch_of}

-- ---- what differs

-- Two looks are the same: character and pen.
abbrev pub look_eq : LookView → LookView → Bool
look_eq a b = a.character == b.character && pen_eq a.pen b.pen

-- The look that the remembered state has in a place.
abbrev pub look_in : MemoryView → ℕ × ℕ → LookView
look_in memory place = grid_at blank memory.state.grid place.0 place.1

-- A place differs unless it is known to show what is seen of the picture there.
abbrev pub differs : ProfileView → PictureView → MemoryView → ℕ × ℕ → Bool
differs profile picture memory place = not (is_known_row memory place.0 && look_eq (look_in memory place) (look_at profile picture place))

-- All places that differ, row by row.
abbrev pub differing : ProfileView → PictureView → MemoryView → List (ℕ × ℕ)
differing profile picture memory = filter (differs profile picture memory) (places picture.rows picture.columns)

-- The memory is of a screen of the picture's size.
pub record IsSizeOf (picture : PictureView) (memory : MemoryView) : Type 0 where
  pub rows : memory.rows ≡ picture.rows
  pub columns : memory.columns ≡ picture.columns
  pub known_rows : length memory.known_rows ≡ picture.rows

-- Every known row shows the picture, except in these columns.
abbrev pub ShowsOutside : (VirtualView → ℕ → Option (ℕ × ℕ)) → ProfileView → MemoryView → VirtualView → Type 0
ShowsOutside ranges profile memory virtual =
    (r c : ℕ) → r < virtual.picture.rows → c < virtual.picture.columns → is_known_row memory r ≡ true → in_range (ranges virtual r) c ≡ false
    → look_in memory (r, c) ≡ look_at profile virtual.picture (r, c)

-- Up to date: every known row shows the picture, except in the columns that may look different.
abbrev pub IsUpToDate : ProfileView → MemoryView → VirtualView → Type 0
IsUpToDate = ShowsOutside altered_at

-- The list is empty.
abbrev pub is_none_left : List (ℕ × ℕ) → Bool
is_none_left [] = true
is_none_left (place ∷ more) = false

-- ---- the plain repaint

-- Attributes off, these places painted one after another, attributes off again, and the cursor placed.
abbrev pub paints : ProfileView → PictureView → List (ℕ × ℕ) → List Op
paints profile picture list =
    resets profile ++ flat_map (paints_place profile picture) list ++ resets profile ++ places_cursor picture.wish

-- The plain repaint: nothing if no place differs and the cursor is where it should be; otherwise the places that differ
-- are painted.
abbrev pub plain_of : ProfileView → MemoryView → PictureView → List Op
plain_of profile memory picture =
    if is_none_left (differing profile picture memory) && is_placed memory picture.wish then [] else paints profile picture (differing profile picture memory)

-- ---- neighbours with one pen

-- The left neighbour of a place differs too, and is seen with the same pen.
abbrev pub joins_left : ProfileView → PictureView → MemoryView → ℕ → ℕ → Bool
joins_left profile picture memory r zero = false
joins_left profile picture memory r (suc c) =
    differs profile picture memory (r, c) && pen_eq (look_at profile picture (r, c)).pen (look_at profile picture (r, suc c)).pen

-- What takes the cursor and the pen to a place; nothing if `joins_left` holds.
abbrev pub begins_place : ProfileView → PictureView → MemoryView → ℕ → ℕ → List Op
begins_place profile picture memory r c =
    if joins_left profile picture memory r c then [] else goes profile (r, c) ++ renders (look_at profile picture (r, c)).pen

-- What paints a place: after such a neighbour its character alone.
abbrev pub brief_place : ProfileView → PictureView → MemoryView → ℕ × ℕ → List Op
brief_place profile picture memory place = begins_place profile picture memory place.0 place.1 ++ put_of (look_at profile picture place).character ∷ []

-- ---- the joined repaint: what an update sends no more than

-- Row r is seen blank from a column to its end.
abbrev pub is_blank_from : ProfileView → PictureView → ℕ → ℕ → Bool
is_blank_from profile picture r from =
    list_all (λ c. not (leb from c) || look_eq (look_at profile picture (r, c)) blank) (range_with_len 0 picture.columns)

-- How many places of row r differ from a column on.
abbrev pub differing_from : ProfileView → PictureView → MemoryView → ℕ → ℕ → ℕ
differing_from profile picture memory r from = length (filter (λ c. leb from c && differs profile picture memory (r, c)) (range_with_len 0 picture.columns))

-- The first of these columns that differs and from which on row r is seen blank.
abbrev pub blank_column : ProfileView → PictureView → MemoryView → ℕ → List ℕ → Option ℕ
blank_column profile picture memory r [] = None
blank_column profile picture memory r (c ∷ more) =
    if differs profile picture memory (r, c) && is_blank_from profile picture r c then Some c else blank_column profile picture memory r more

-- The line's end is erased from there if that costs no more bytes than there are places that differ.
abbrev pub erased_if_worth : ProfileView → PictureView → MemoryView → ℕ → Option ℕ → Option ℕ
erased_if_worth profile picture memory r None = None
erased_if_worth profile picture memory r (Some c) =
    if has profile EraseLine && nat_le (length (bytes_of profile EraseLine)) (differing_from profile picture memory r c) then Some c else None

-- The column of row r from which the joined repaint erases, if any.
abbrev pub erased_column : ProfileView → PictureView → MemoryView → ℕ → Option ℕ
erased_column profile picture memory r = erased_if_worth profile picture memory r (blank_column profile picture memory r (range_with_len 0 picture.columns))

-- What is sent for a place that differs, in a row that is erased from a column on, or nowhere.
abbrev pub joined_place : ProfileView → PictureView → MemoryView → Option ℕ → ℕ → ℕ → List Op
joined_place profile picture memory None r c = brief_place profile picture memory (r, c)
joined_place profile picture memory (Some erased) r c =
    if c == erased then begins_place profile picture memory r c ++ EraseLine ∷ []
    else (if leb erased c then [] else brief_place profile picture memory (r, c))

-- What is sent for all places that differ.
abbrev pub joined_places : ProfileView → PictureView → MemoryView → List Op
joined_places profile picture memory =
    flat_map (λ place. joined_place profile picture memory (erased_column profile picture memory place.0) place.0 place.1) (differing profile picture memory)

-- The operation would change nothing in this state: Reset when attributes and colours are off, or Move to where the
-- cursor is.
abbrev pub is_idle : TerminalState → Op → Bool
is_idle state Reset = is_plain_pen state.pen
is_idle state (Move r c) = is_in_place state.spot (r, c)
is_idle state op = false

-- The state after an operation, and after several; one that is undefined changes nothing.
abbrev pub state_after : ProfileView → TerminalState → Op → TerminalState
state_after profile state op = unwrap_or (step profile state op) state

abbrev pub state_after_all : ProfileView → TerminalState → List Op → TerminalState
state_after_all profile state [] = state
state_after_all profile state (op ∷ ops) = state_after_all profile (state_after profile state op) ops

-- These operations without those that would change nothing, from a given state on.
abbrev pub without_idle : ProfileView → TerminalState → List Op → List Op
without_idle profile state [] = []
without_idle profile state (op ∷ ops) =
    if is_idle state op then without_idle profile state ops else op ∷ without_idle profile (state_after profile state op) ops

-- The joined repaint, for a memory that knows everything: the plain repaint with neighbours joined, ends of lines
-- erased, and operations that would change nothing left out.
abbrev pub joined_of : ProfileView → MemoryView → PictureView → List Op
joined_of profile memory picture =
    if is_none_left (differing profile picture memory) && is_placed memory picture.wish then []
    else without_idle profile memory.state (resets profile ++ joined_places profile picture memory ++ resets profile ++ places_cursor picture.wish)

-- The memory of a screen of the picture's size that was just cleared: blanks everywhere.
abbrev pub cleared : PictureView → MemoryView
cleared picture = remembered picture.rows picture.columns (blank_state picture.rows picture.columns)

-- The whole screen painted anew: it is cleared, then the places that are not blank are painted as in the joined
-- repaint.
abbrev pub anew_of : ProfileView → PictureView → List Op
anew_of profile picture =
    resets profile ++ Clear ∷ [] ++ without_idle profile (blank_state profile.rows profile.columns) (joined_places profile picture (cleared picture) ++ resets profile ++ places_cursor picture.wish)

-- The sure repaint: the joined repaint if all is known and no repaint was requested; otherwise the whole screen painted
-- anew.
abbrev pub sure_of : ProfileView → MemoryView → VirtualView → List Op
sure_of profile memory virtual =
    if is_known memory && not virtual.repaint then joined_of profile memory virtual.picture else anew_of profile virtual.picture

-- ---- the laws

-- From every state that agrees with the memory, the plain repaint is defined and shows the picture.
abbrev pub PlainShows : Type 0
PlainShows =
    (profile : ProfileView) → IsProfile profile
    → (picture : PictureView) → IsPicture picture → Fits profile picture
    → (memory : MemoryView) (old : TerminalState) → Agrees (abilities profile) memory old
    → RunsToShow profile old (plain_of profile memory picture) picture

-- If all is known, the joined repaint is defined from the remembered state and shows the picture. Painting the screen
-- anew does so from every state.
pub record JoinedShows : Type 0 where
  pub joined : (profile : ProfileView) → IsProfile profile → (picture : PictureView) → IsPicture picture → Fits profile picture
      → (memory : MemoryView) → IsGrid profile.rows profile.columns memory.state.grid → (old : TerminalState) → Agrees (abilities profile) memory old → is_known memory ≡ true → RunsToShow profile old (joined_of profile memory picture) picture
  pub anew : (profile : ProfileView) → IsProfile profile → (picture : PictureView) → IsPicture picture → Fits profile picture
      → (old : TerminalState) → IsState (abilities profile) old → RunsToShow profile old (anew_of profile picture) picture

-- The joined repaint has no more bytes than the plain one; the plain one, and painting anew, have no more than scratch.
-- The joined repaint is empty if no place differs and the cursor is where it should be.
pub record JoinedIsCheap : Type 0 where
  pub joined : (profile : ProfileView) (memory : MemoryView) (picture : PictureView) → length (all_bytes profile (joined_of profile memory picture)) ≤ length (all_bytes profile (plain_of profile memory picture))
  pub plain : (profile : ProfileView) (memory : MemoryView) (picture : PictureView) → length (all_bytes profile (plain_of profile memory picture)) ≤ length (all_bytes profile (scratch_of profile picture))
  pub anew : (profile : ProfileView) (picture : PictureView) → length (all_bytes profile (anew_of profile picture)) ≤ length (all_bytes profile (scratch_of profile picture))
  pub none : (profile : ProfileView) (memory : MemoryView) (picture : PictureView) → is_none_left (differing profile picture memory) ≡ true → is_placed memory picture.wish ≡ true → joined_of profile memory picture ≡ []
