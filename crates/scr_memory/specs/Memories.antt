-- What is known of a terminal between updates. curs_refresh(3X), 'physical screen'; X/Open Curses Issue 7, clearok(),
-- redrawwin().
use Rattle.std.specs.Prelude.{ℕ, zero, ◌≡◌, ◌+◌, ◌<◌, ◌==◌, ◌&&◌, ◌||◌, not, leb, ltb, Bool, true, false, List, [], ◌∷◌, length, map, replicate, slice_index_or, slice_set, Option, Some, None, if◌then◌else◌}
use Rattle.std.specs.List.{list_all, range_with_len}
use Rattle.scr_cells.specs.declared.charsets.Charset.TheVariants.{Utf8}
use Rattle.scr_cells.specs.Grids.{grid_row}
use Rattle.scr_cells.specs.LookViews.{LookView}
use Rattle.scr_cells.specs.PenViews.{PenView, plain_pen}
use Rattle.scr_cells.specs.PictureViews.{IsSize}
use Rattle.scr_term.specs.declared.operations.operation.Op.{Op}
use Rattle.scr_term.specs.declared.operations.operation.Op.TheVariants.{Home, Move, Clear, EraseLine, EraseBelow, EraseChars, InsertLines, DeleteLines, InsertChars, DeleteChars, ScrollUp, ScrollDown, Reset, Set, Put, Write, Repeat}
use Rattle.scr_term.specs.declared.operations.operation.Spot.{Spot}
use Rattle.scr_term.specs.declared.operations.operation.Spot.TheVariants.{At, Margin}
use Rattle.scr_term.specs.Operations.Abilities.{Abilities, full_abilities}
use Rattle.scr_term.specs.Operations.Profiles.{ProfileView, IsProfile, abilities}
use Rattle.scr_term.specs.Operations.States.{TerminalState, IsState, blank_state}
use Rattle.scr_term.specs.Operations.Steps.{step}

-- A memory: a state that the terminal may be in, and how much of it is known to be so: which rows, the cursor's
-- position, the pen.
pub record MemoryView : Type 0 where
  pub rows : ℕ
  pub columns : ℕ
  pub state : TerminalState
  pub known_rows : List Bool
  pub known_spot : Bool
  pub known_pen : Bool

-- A memory of a valid size: its state is one of a terminal of that size, and for each row it says whether the row is
-- known.
pub record IsMemory (memory : MemoryView) : Type 0 where
  pub size : IsSize memory.rows memory.columns
  pub state : IsState (full_abilities Utf8 memory.rows memory.columns) memory.state
  pub whole : length memory.known_rows ≡ memory.rows

-- The memory in which nothing is known.
abbrev pub unknown : ℕ → ℕ → MemoryView
unknown rows columns = record {
  rows = rows;
  columns = columns;
  state = blank_state rows columns;
  known_rows = replicate rows false;
  known_spot = false;
  known_pen = false;
}

-- Row r is known.
abbrev pub is_known_row : MemoryView → ℕ → Bool
is_known_row memory r = slice_index_or memory.known_rows r false

-- What row r shows, if it is known.
abbrev pub row_looks : MemoryView → ℕ → Option (List LookView)
row_looks memory r = if is_known_row memory r then Some (grid_row memory.state.grid r) else None

-- The cursor's position, if it is known.
abbrev pub spot_if_known : MemoryView → Option Spot
spot_if_known memory = if memory.known_spot then Some memory.state.spot else None

-- The pen, if it is known.
abbrev pub pen_if_known : MemoryView → Option PenView
pen_if_known memory = if memory.known_pen then Some memory.state.pen else None

-- The cursor is in this place.
abbrev pub is_in_place : Spot → ℕ × ℕ → Bool
is_in_place (At r c) place = r == place.0 && c == place.1
is_in_place (Margin r) place = false

-- The cursor is known to be at the place it should have, or it may be anywhere.
abbrev pub is_placed : MemoryView → Option (ℕ × ℕ) → Bool
is_placed memory None = true
is_placed memory (Some place) = memory.known_spot && is_in_place memory.state.spot place

-- Everything is known: every row, the cursor's position and the pen.
abbrev pub is_known : MemoryView → Bool
is_known memory = list_all (λ known. known) memory.known_rows && memory.known_spot && memory.known_pen

-- Nothing is known: no row, neither the cursor's position nor the pen.
abbrev pub is_nothing_known : MemoryView → Bool
is_nothing_known memory = list_all not memory.known_rows && not memory.known_spot && not memory.known_pen

-- The terminal's state `now` agrees with the memory: it is the same in everything that is known.
pub record Agrees (abilities : Abilities) (memory : MemoryView) (now : TerminalState) : Type 0 where
  pub is_state : IsState abilities now
  pub high : length memory.known_rows ≡ abilities.rows
  pub rows : (r : ℕ) → r < abilities.rows → is_known_row memory r ≡ true → grid_row now.grid r ≡ grid_row memory.state.grid r
  pub spot : memory.known_spot ≡ true → now.spot ≡ memory.state.spot
  pub pen : memory.known_pen ≡ true → now.pen ≡ memory.state.pen

-- The remembered state is possible on a terminal with these abilities.
pub record MayBe (abilities : Abilities) (memory : MemoryView) : Type 0 where
  pub state : IsState abilities memory.state
  pub high : length memory.known_rows ≡ abilities.rows

-- ---- what makes it unknown

-- The state with the plain pen, which every terminal can have.
abbrev pub made_plain : TerminalState → TerminalState
made_plain state = record state { pen = plain_pen }

-- Nothing is known any more.
abbrev pub forgotten : MemoryView → MemoryView
forgotten memory = record memory {
  state = made_plain memory.state;
  known_rows = replicate (length memory.known_rows) false;
  known_spot = false;
  known_pen = false;
}

-- The n rows from `first` on, as far as there are any, are no longer known, nor are the cursor's position and the pen:
-- others wrote there.
abbrev pub disturbed : ℕ → ℕ → MemoryView → MemoryView
disturbed first n memory = record memory {
  state = made_plain memory.state;
  known_rows = map (λ r. if leb first r && ltb r (first + n) then false else is_known_row memory r) (range_with_len 0 (length memory.known_rows));
  known_spot = false;
  known_pen = false;
}

-- Others wrote on the terminal: every row other than these is as before; cursor, pen and these rows may be anything.
pub record IsDisturbance (abilities : Abilities) (rows : ℕ → Bool) (old new : TerminalState) : Type 0 where
  pub state : IsState abilities new
  pub same : (r : ℕ) → rows r ≡ false → grid_row new.grid r ≡ grid_row old.grid r

-- The memory after these rows, the cursor's position and the pen were forgotten, and perhaps further rows.
pub record IsWithout (lost : ℕ → Bool) (memory less : MemoryView) : Type 0 where
  pub grid : less.state.grid ≡ memory.state.grid
  pub high : length less.known_rows ≡ length memory.known_rows
  pub rows : (r : ℕ) → r < length memory.known_rows → is_known_row less r ≡ true → (is_known_row memory r ≡ true) × (lost r ≡ false)
  pub spot : less.known_spot ≡ false
  pub pen : less.known_pen ≡ false

-- ---- following an operation

-- The operation takes the cursor to a place that does not depend on where it was.
abbrev pub places_spot : Op → Bool
places_spot Home = true
places_spot (Move row column) = true
places_spot Clear = true
places_spot op = false

-- The operation makes the pen one that does not depend on what it was.
abbrev pub sets_pen : Op → Bool
sets_pen Reset = true
sets_pen (Set attrs) = true
sets_pen op = false

-- The operation changes cells at the cursor.
abbrev pub changes_cells : Op → Bool
changes_cells EraseLine = true
changes_cells EraseBelow = true
changes_cells (EraseChars n) = true
changes_cells (InsertChars n) = true
changes_cells (DeleteChars n) = true
changes_cells (Put byte) = true
changes_cells (Write code) = true
changes_cells (Repeat byte n) = true
changes_cells op = false

-- The operation moves rows, from the cursor's on or all.
abbrev pub moves_rows : Op → Bool
moves_rows (InsertLines n) = true
moves_rows (DeleteLines n) = true
moves_rows (ScrollUp n) = true
moves_rows (ScrollDown n) = true
moves_rows op = false

-- The operation clears the screen.
abbrev pub clears : Op → Bool
clears Clear = true
clears op = false

-- The terminal shows neither attributes nor colours, so there is only one pen.
abbrev pub has_one_pen : Abilities → Bool
has_one_pen abilities = abilities.shown == 0 && not abilities.colours

-- All rows from `first` on become known.
abbrev pub known_from : ℕ → List Bool → List Bool
known_from first rows = map (λ r. if leb first r then true else slice_index_or rows r false) (range_with_len 0 (length rows))

-- A row that is erased from its first column becomes known, and so do all rows below it that are erased with it.
abbrev pub rows_erased : Op → Spot → List Bool → List Bool
rows_erased EraseLine (At r zero) rows = slice_set rows r true
rows_erased EraseBelow (At r zero) rows = known_from r rows
rows_erased op spot rows = rows

-- After the operation no row is known any more: it changes cells while the cursor's position or the pen is unknown, or
-- it moves rows while not everything is known.
abbrev pub loses_rows : Op → MemoryView → Bool
loses_rows op memory = (changes_cells op && not (memory.known_spot && memory.known_pen)) || (moves_rows op && not (is_known memory))

-- The rows known after an operation that led to the state `next`: all after clearing the screen; none where the
-- operation loses them; otherwise those known before, and those erased whole.
abbrev pub rows_followed : Op → MemoryView → TerminalState → List Bool
rows_followed op memory next =
    if clears op then replicate (length memory.known_rows) true
    else (if loses_rows op memory then replicate (length memory.known_rows) false else rows_erased op next.spot memory.known_rows)

-- The memory after an operation, given the state that it leads to; nothing is known if it is undefined.
abbrev pub stepped : Abilities → Op → MemoryView → Option TerminalState → MemoryView
stepped abilities op memory None = forgotten memory
stepped abilities op memory (Some next) = record memory {
  state = next;
  known_rows = rows_followed op memory next;
  known_spot = memory.known_spot || places_spot op;
  known_pen = memory.known_pen || sets_pen op || has_one_pen abilities;
}

-- The memory after an operation that the terminal carried out.
abbrev pub followed : ProfileView → Op → MemoryView → MemoryView
followed profile op memory = stepped (abilities profile) op memory (step profile memory.state op)

-- The same after several operations.
abbrev pub all_followed : ProfileView → List Op → MemoryView → MemoryView
all_followed profile [] memory = memory
all_followed profile (op ∷ ops) memory = all_followed profile ops (followed profile op memory)

-- The memory in which all of this state is known.
abbrev pub remembered : ℕ → ℕ → TerminalState → MemoryView
remembered rows columns state = record {
  rows = rows;
  columns = columns;
  state = state;
  known_rows = replicate rows true;
  known_spot = true;
  known_pen = true;
}

-- ---- the laws

-- If a state agrees with the memory and an operation is defined there, the state after it agrees with the memory after
-- it; if all was known, all stays known; and a remembered state that is possible stays possible. After forgetting, every
-- state of every terminal of that size agrees, and the remembered one is possible there. After others wrote in some
-- rows, the state agrees with the memory without these rows, cursor and pen. A mark forgets its rows, and several marks
-- forget the rows of each.
pub record MemoryLaws : Type 0 where
  pub follows : (profile : ProfileView) → IsProfile profile → (memory : MemoryView) → MayBe (abilities profile) memory → (old new : TerminalState) (op : Op)
      → Agrees (abilities profile) memory old → step profile old op ≡ Some new → Agrees (abilities profile) (followed profile op memory) new
  pub stays_known : (profile : ProfileView) → IsProfile profile → (memory : MemoryView) → MayBe (abilities profile) memory → (old new : TerminalState) (op : Op)
      → Agrees (abilities profile) memory old → step profile old op ≡ Some new → is_known memory ≡ true → is_known (followed profile op memory) ≡ true
  pub stays_possible : (profile : ProfileView) → IsProfile profile → (memory : MemoryView) (op : Op) → MayBe (abilities profile) memory → MayBe (abilities profile) (followed profile op memory)
  pub itself : (abilities : Abilities) (memory : MemoryView) → MayBe abilities memory → Agrees abilities memory memory.state
  pub forgets : (abilities : Abilities) (memory : MemoryView) (new : TerminalState) → length memory.known_rows ≡ abilities.rows → IsState abilities new → Agrees abilities (forgotten memory) new
  pub forgotten_possible : (abilities : Abilities) (memory : MemoryView) → MayBe abilities memory → MayBe abilities (forgotten memory)
  pub possible_again : (abilities : Abilities) (memory : MemoryView) → IsMemory memory → memory.rows ≡ abilities.rows → memory.columns ≡ abilities.columns → MayBe abilities (forgotten memory)
  pub disturbed_possible : (abilities : Abilities) (memory : MemoryView) (first n : ℕ) → MayBe abilities memory → MayBe abilities (disturbed first n memory)
  pub others : (abilities : Abilities) (rows : ℕ → Bool) (memory less : MemoryView) (old new : TerminalState) → Agrees abilities memory old → IsDisturbance abilities rows old new
      → IsWithout rows memory less → Agrees abilities less new
  pub marks : (memory : MemoryView) (first n : ℕ) → IsWithout (λ r. leb first r && ltb r (first + n)) memory (disturbed first n memory)
  pub marks_join : (one other : ℕ → Bool) (memory between less : MemoryView) → IsWithout one memory between → IsWithout other between less → IsWithout (λ r. one r || other r) memory less
