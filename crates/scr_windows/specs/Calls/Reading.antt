-- What the calls that read answer. X/Open Curses Issue 7, the pages named.
use Rattle.std.specs.Prelude.{ℕ, Bool, false, Option, None, Some, Result, Ok, Err, List, map, length, ◌+◌, leb, ltb, ◌&&◌, slice_index_or, if◌then◌else◌}
use Rattle.std.specs.List.{range_with_len, list_any}
use Rattle.scr_cells.specs.CellViews.{CellView}
use Rattle.scr_windows.specs.declared.faults.WinFault.{WinFault}
use Rattle.scr_windows.specs.declared.faults.WinFault.TheVariants.{OutOfWindow, IsPad}
use Rattle.scr_windows.specs.Surfaces.SurfaceViews.{inside_at}
use Rattle.scr_windows.specs.DeskViews.{DeskView, window_at, surface_at}
use Rattle.scr_windows.specs.Lending.{LentView, lines_in}
use Rattle.scr_windows.specs.Changes.{index_of}
use Rattle.scr_windows.specs.declared.faults.Win.{Win}

-- The cell of a window in row r and column c.
abbrev pub at : DeskView → ℕ → ℕ → ℕ → CellView
at desk i r c = inside_at (surface_at desk (window_at desk i).frame.surface) (window_at desk i).frame.area r c

-- The cells of row r of a window.
abbrev pub row_at : DeskView → ℕ → ℕ → List CellView
row_at desk i r = map (at desk i r) (range_with_len 0 (window_at desk i).frame.area.columns)

-- What is lent of a window: the window and its lines.
abbrev pub contents : DeskView → ℕ → LentView
contents desk i = record { window = window_at desk i; lines = lines_in (surface_at desk (window_at desk i).frame.surface) (window_at desk i).frame.area }

-- The i-th window, if there is one.
unfoldable pub nth_answer : DeskView → ℕ → Option Win
nth_answer desk i = if ltb i (length desk.windows) then Some (record { 0 = (window_at desk i).frame.number }) else None

-- An answer about a window; refused if there is no such window.
abbrev pub about_window : {A : Type 0} → Result ℕ WinFault → (ℕ → Result A WinFault) → Result A WinFault
about_window (Err fault) f = Err fault
about_window (Ok i) f = f i

-- inch() at a place of a window.
unfoldable pub cell_at_answer : DeskView → ℕ → ℕ → ℕ → Result CellView WinFault
cell_at_answer desk win row column = about_window (index_of desk win) (λ i.
    if ltb row (window_at desk i).frame.area.rows && ltb column (window_at desk i).frame.area.columns then Ok (at desk i row column) else Err OutOfWindow)

-- getyx(): the cursor's place in its window.
unfoldable pub cursor_answer : DeskView → ℕ → Result (ℕ × ℕ) WinFault
cursor_answer desk win = about_window (index_of desk win) (λ i. Ok (window_at desk i).state.cursor)

-- getmaxyx(): the window's rows and columns.
unfoldable pub size_answer : DeskView → ℕ → Result (ℕ × ℕ) WinFault
size_answer desk win = about_window (index_of desk win) (λ i. Ok ((window_at desk i).frame.area.rows, (window_at desk i).frame.area.columns))

-- A place on the screen; a pad has none and is refused.
abbrev pub place_on_screen : Option (ℕ × ℕ) → Result (ℕ × ℕ) WinFault
place_on_screen None = Err IsPad
place_on_screen (Some place) = Ok place

-- getbegyx(): the place of the window's first cell on the screen.
unfoldable pub origin_answer : DeskView → ℕ → Result (ℕ × ℕ) WinFault
origin_answer desk win = about_window (index_of desk win) (λ i. place_on_screen (window_at desk i).frame.origin)

-- The rows of the screen that n lines of a window are shown in, from line `first` on: first row and n. A pad is
-- refused.
abbrev pub rows_on_screen : Option (ℕ × ℕ) → ℕ → ℕ → ℕ → Result (ℕ × ℕ) WinFault
rows_on_screen None rows first n = Err IsPad
rows_on_screen (Some place) rows first n = if leb (first + n) rows then Ok (place.0 + first, n) else Err OutOfWindow

-- The rows of the screen that wredrawln() marks.
unfoldable pub screen_rows_answer : DeskView → ℕ → ℕ → ℕ → Result (ℕ × ℕ) WinFault
screen_rows_answer desk win first n = about_window (index_of desk win) (λ i. rows_on_screen (window_at desk i).frame.origin (window_at desk i).frame.area.rows first n)

-- is_linetouched(): the line is touched.
unfoldable pub line_touched_answer : DeskView → ℕ → ℕ → Result Bool WinFault
line_touched_answer desk win row = about_window (index_of desk win) (λ i.
    if ltb row (window_at desk i).frame.area.rows then Ok (slice_index_or (window_at desk i).touched row false) else Err OutOfWindow)

-- is_wintouched(): some line of the window is touched.
unfoldable pub window_touched_answer : DeskView → ℕ → Result Bool WinFault
window_touched_answer desk win = about_window (index_of desk win) (λ i. Ok (list_any (λ mark. mark) (window_at desk i).touched))

-- A window lent for reading.
unfoldable pub window_answer : DeskView → ℕ → Result LentView WinFault
window_answer desk win = about_window (index_of desk win) (λ i. Ok (contents desk i))

-- A row lent for reading.
unfoldable pub row_answer : DeskView → ℕ → ℕ → Result (List CellView) WinFault
row_answer desk win row = about_window (index_of desk win) (λ i. if ltb row (window_at desk i).frame.area.rows then Ok (row_at desk i row) else Err OutOfWindow)
