-- What the calls that write characters do. X/Open Curses Issue 7, addch(), addnstr(), insch(), hline(), vline(), and of
-- its wide names add_wch(), addnwstr(), ins_wch(), hline_set(), vline_set().
use Rattle.std.specs.Prelude.{ℕ, List, [], ◌∷◌, Result, Ok, Err, ◌+◌, ◌-◌, ◌*◌, ◌/◌, ◌==◌, ◌||◌, ltb, leb, min, bit_or, bit_xor, false, replicate, if◌then◌else◌}
use Rattle.std.specs.Char.{is_control}
use Rattle.std.specs.List.{flat_map, list_any}
use Rattle.std.specs.Option.{unwrap_or}
use Rattle.unicode_width.specs.Width.{char_width}
use Rattle.scr_cells.specs.CellViews.{CellView}
use Rattle.scr_cells.specs.Characters.{is_ascii, is_character}
use Rattle.scr_cells.specs.Grids.{rows_up}
use Rattle.scr_cells.specs.declared.attributes.Attrs.{Attrs}
use Rattle.scr_windows.specs.declared.faults.WinFault.{WinFault}
use Rattle.scr_windows.specs.declared.faults.WinFault.TheVariants.{NotAscii, NotOneColumn}
use Rattle.scr_windows.specs.declared.faults.Added.{Added}
use Rattle.scr_windows.specs.declared.faults.Added.TheVariants.{Done, Stayed}
use Rattle.scr_windows.specs.declared.frames.WindowState.{WindowState}
use Rattle.scr_windows.specs.DeskViews.{WindowView, DeskView, window_at, no_attributes}
use Rattle.scr_windows.specs.Surfaces.Formulas.{column_put, run_put, row_opened}
use Rattle.scr_windows.specs.Changes.{index_of, on_window, write}
use Rattle.scr_windows.specs.Calls.Erasing.{erased_up_to}
use Rattle.scr_windows.specs.Calls.Settings.{with_state, cursor_at}

-- The colour pair that characters are written with: the window's or, if that is 0, the background's.
abbrev pub written_pair : WindowState → ℕ
written_pair state = if state.pair == 0 then state.background.pair else state.pair

-- The cell written for a character: a blank becomes the background's character; the attributes are its own, the
-- window's and the background's together; the pair is `written_pair`.
abbrev pub written_form : ℕ → Attrs → WindowState → CellView
written_form code attrs state =
    record {
      character = if code == 32 then state.background.character else code;
      attrs = bit_or (bit_or attrs.0 state.attrs.0) state.background.attrs;
      pair = written_pair state;
    }

-- The cursor goes to this place.
abbrev pub gone_to : DeskView → ℕ → ℕ × ℕ → DeskView × Added
gone_to desk i cursor = (with_state desk i (cursor_at cursor (window_at desk i).state), Done)

-- The cursor goes to the start of the next line. From the region's last row, the region scrolls up by one and the
-- cursor goes to the start of the same row, if the window may scroll; otherwise, and from the window's last row, it
-- stays (`Stayed`).
unfoldable pub line_begun : DeskView → ℕ → DeskView × Added
line_begun desk i =
    let w : WindowView = window_at desk i in
    let y : ℕ = w.state.cursor.0 in
    if y == w.state.region.1 then
    (if w.state.scroll_ok then gone_to (write desk i w.state.region.0 (w.state.region.1 + 1) (rows_up w.state.region.0 (w.state.region.1 + 1) 1 w.state.background)) i (y, 0)
    else (desk, Stayed))
    else if y + 1 == w.frame.area.rows then (desk, Stayed)
    else gone_to desk i (y + 1, 0)

-- A cell is written at the cursor, which moves right; after the last column the next line is begun.
unfoldable pub cell_added : DeskView → ℕ → CellView → DeskView × Added
cell_added desk i cell =
    let w : WindowView = window_at desk i in
    let y : ℕ = w.state.cursor.0 in
    let x : ℕ = w.state.cursor.1 in
    let put : DeskView = write desk i y (y + 1) (run_put y x (x + 1) cell) in
    if ltb (x + 1) w.frame.area.columns then gone_to put i (y, x + 1) else line_begun put i

-- A character is added in its written form.
unfoldable pub character_added : DeskView → ℕ → ℕ → Attrs → DeskView × Added
character_added desk i code attrs = cell_added desk i (written_form code attrs (window_at desk i).state)

-- Newline: the rest of the line becomes background, and the next line is begun.
unfoldable pub newline_added : DeskView → ℕ → DeskView × Added
newline_added desk i =
    line_begun (erased_up_to desk i (window_at desk i).frame.area.columns) i

-- Tab: the places up to the next multiple of 8 become background, and the cursor goes there; if the line ends before
-- it, this is a newline.
unfoldable pub tab_added : DeskView → ℕ → DeskView × Added
tab_added desk i =
    let w : WindowView = window_at desk i in
    let stop : ℕ = (w.state.cursor.1 / 8 + 1) * 8 in
    if ltb stop w.frame.area.columns then gone_to (erased_up_to desk i stop) i (w.state.cursor.0, stop) else newline_added desk i

-- `Stayed` if either answer is.
abbrev pub either_stayed : Added → Added → Added
either_stayed Done b = b
either_stayed Stayed b = Stayed

-- The two characters that a control character is shown as: `^` and the one whose code differs in bit 6; for those from
-- 128 on, `~` and the one whose code is less by 64, so that 128 is `~@`.
abbrev pub shown_as : ℕ → ℕ × ℕ
shown_as code = if ltb code 128 then (94, bit_xor code 64) else (126, code - 64)

-- A control character is shown as two characters.
abbrev pub shown_added : DeskView → ℕ → ℕ → Attrs → DeskView × Added
shown_added desk i code attrs =
    let first : DeskView × Added = character_added desk i (shown_as code).0 attrs in
    let second : DeskView × Added = character_added first.0 i (shown_as code).1 attrs in
    (second.0, either_stayed first.1 second.1)

-- What each code does: newline, tab, backspace, carriage return, another control character, or a character.
unfoldable pub code_added : DeskView → ℕ → ℕ → Attrs → DeskView × Added
code_added desk i code attrs =
    let s : WindowState = (window_at desk i).state in
    if code == 10 then newline_added desk i
    else if code == 9 then tab_added desk i
    else if code == 8 then gone_to desk i (s.cursor.0, s.cursor.1 - 1)
    else if code == 13 then gone_to desk i (s.cursor.0, 0)
    else if is_control code then shown_added desk i code attrs
    else character_added desk i code attrs

-- addch(); a byte above 127 is refused.
unfoldable pub add_byte_call : DeskView → ℕ → ℕ → Attrs → DeskView × Result Added WinFault
add_byte_call desk win byte attrs = on_window desk (index_of desk win) (λ i.
    if leb 128 byte then (desk, Err NotAscii) else ((code_added desk i byte attrs).0, Ok (code_added desk i byte attrs).1))

-- add_wch(); only a character is added.
unfoldable pub add_character_call : DeskView → ℕ → ℕ → Attrs → DeskView × Result Added WinFault
add_character_call desk win code attrs = on_window desk (index_of desk win) (λ i.
    if is_character code then ((character_added desk i code attrs).0, Ok (character_added desk i code attrs).1) else (desk, Err NotOneColumn))

-- A text is added code by code; the answer is `Stayed` if any code's is.
abbrev pub text_added : DeskView → ℕ → List ℕ → DeskView × Added
text_added desk i [] = (desk, Done)
text_added desk i (code ∷ codes) =
    let first : DeskView × Added = code_added desk i code no_attributes in
    let rest : DeskView × Added = text_added first.0 i codes in
    (rest.0, either_stayed first.1 rest.1)

-- addnstr(); a text with a byte above 127 is refused.
unfoldable pub add_text_call : DeskView → ℕ → List ℕ → DeskView × Result Added WinFault
add_text_call desk win bytes = on_window desk (index_of desk win) (λ i.
    if list_any (λ byte. leb 128 byte) bytes then (desk, Err NotAscii) else ((text_added desk i bytes).0, Ok (text_added desk i bytes).1))

-- The codes that are added for a scalar value of Unicode, so that what comes after it is in its column: a control
-- character and a character are themselves; one that takes no column is left out, as an accent that is drawn over the
-- letter before it; each other one is U+FFFD, as often as it takes columns. Only control characters have no width.
unfoldable pub fitted : ℕ → List ℕ
fitted code =
    if is_control code || is_character code then code ∷ []
    else replicate (unwrap_or (char_width false code) 0) 0xFFFD

-- addnwstr(); no text is refused.
unfoldable pub add_str_call : DeskView → ℕ → List ℕ → DeskView × Result Added WinFault
add_str_call desk win text = on_window desk (index_of desk win) (λ i.
    ((text_added desk i (flat_map fitted text)).0, Ok (text_added desk i (flat_map fitted text)).1))

-- insch(): the character is put at the cursor; the rest of the line moves right by one, and its last cell is lost.
unfoldable pub character_inserted : DeskView → ℕ → ℕ → Attrs → DeskView
character_inserted desk i code attrs =
    let s : WindowState = (window_at desk i).state in
    write desk i s.cursor.0 (s.cursor.0 + 1) (row_opened s.cursor.0 s.cursor.1 (written_form code attrs s))

-- insch(); only a character 32 to 126 is inserted.
unfoldable pub insert_byte_call : DeskView → ℕ → ℕ → Attrs → DeskView × Result (Unit {0}) WinFault
insert_byte_call desk win byte attrs = on_window desk (index_of desk win) (λ i.
    if is_ascii byte then (character_inserted desk i byte attrs, Ok tt) else (desk, Err NotAscii))

-- ins_wch(); only a character is inserted.
unfoldable pub insert_character_call : DeskView → ℕ → ℕ → Attrs → DeskView × Result (Unit {0}) WinFault
insert_character_call desk win code attrs = on_window desk (index_of desk win) (λ i.
    if is_character code then (character_inserted desk i code attrs, Ok tt) else (desk, Err NotOneColumn))

-- hline(): n places from the cursor to the right, at most to the edge.
unfoldable pub lined_across : DeskView → ℕ → ℕ → ℕ → DeskView
lined_across desk i code n =
    let w : WindowView = window_at desk i in
    let y : ℕ = w.state.cursor.0 in
    let x : ℕ = w.state.cursor.1 in
    if n == 0 then desk else write desk i y (y + 1) (run_put y x (min (x + n) w.frame.area.columns) (written_form code no_attributes w.state))

-- hline() with a character 32 to 126.
unfoldable pub line_across_call : DeskView → ℕ → ℕ → ℕ → DeskView × Result (Unit {0}) WinFault
line_across_call desk win byte n = on_window desk (index_of desk win) (λ i.
    if is_ascii byte then (lined_across desk i byte n, Ok tt) else (desk, Err NotAscii))

-- hline_set(), with any character.
unfoldable pub line_across_of_call : DeskView → ℕ → ℕ → ℕ → DeskView × Result (Unit {0}) WinFault
line_across_of_call desk win code n = on_window desk (index_of desk win) (λ i.
    if is_character code then (lined_across desk i code n, Ok tt) else (desk, Err NotOneColumn))

-- vline(): n places from the cursor down, at most to the edge.
unfoldable pub lined_down : DeskView → ℕ → ℕ → ℕ → DeskView
lined_down desk i code n =
    let w : WindowView = window_at desk i in
    let y : ℕ = w.state.cursor.0 in
    let x : ℕ = w.state.cursor.1 in
    let end : ℕ = min (y + n) w.frame.area.rows in
    if n == 0 then desk else write desk i y end (column_put x y end (written_form code no_attributes w.state))

-- vline() with a character 32 to 126.
unfoldable pub line_down_call : DeskView → ℕ → ℕ → ℕ → DeskView × Result (Unit {0}) WinFault
line_down_call desk win byte n = on_window desk (index_of desk win) (λ i.
    if is_ascii byte then (lined_down desk i byte n, Ok tt) else (desk, Err NotAscii))

-- vline_set(), with any character.
unfoldable pub line_down_of_call : DeskView → ℕ → ℕ → ℕ → DeskView × Result (Unit {0}) WinFault
line_down_of_call desk win code n = on_window desk (index_of desk win) (λ i.
    if is_character code then (lined_down desk i code n, Ok tt) else (desk, Err NotOneColumn))
