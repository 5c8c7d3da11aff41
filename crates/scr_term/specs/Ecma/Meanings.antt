-- What each unit of an ECMA-48 text does to a screen. ECMA-48, 8.3: CUU, CUD, CUF, CUB, CHA, VPA, CUP, ED, EL, ECH,
-- SGR, BS, CR. Every other unit is undefined.
use Rattle.std.specs.Prelude.{ℕ, ◌≡◌, ◌-◌, ◌==◌, ◌&&◌, nat_le, List, [], ◌∷◌, Option, Some, None, option_and_then, option_map, unwrap_or, if◌then◌else◌}
use Rattle.std.specs.List.{slice_split}
use Rattle.std.specs.Str.Parse.{digits_value}
use Rattle.scr_cells.specs.declared.charsets.Charset.{Charset}
use Rattle.scr_cells.specs.Characters.{is_beyond_ascii}
use Rattle.scr_cells.specs.Attributes.{underline, reverse, blink, dim, bold, invis}
use Rattle.scr_cells.specs.LookViews.{blank_grid}
use Rattle.scr_cells.specs.PenViews.{PenView, plain_pen, with_attribute}
use Rattle.scr_term.specs.Operations.States.{TerminalState, character_written, characters_erased, erased, from_place, is_from_place, moved_down, moved_left, moved_right, moved_to, moved_to_column, moved_to_row, moved_up, rest_of_line_erased}
use Rattle.scr_term.specs.Ecma.Units.{EcmaUnit, Graphic, Spelled, Control, Sequence, IsDivision}

-- A parameter: absent, or a number up to 9,999; greater ones are undefined.
abbrev pub parameter : List ℕ → Option (Option ℕ)
parameter [] = Some None
parameter (digit ∷ digits) = let n = digits_value 10 (digit ∷ digits) in if nat_le n 9999 then Some (Some n) else None

-- All parameters; undefined if one of them is.
abbrev pub each_parameter : List (List ℕ) → Option (List (Option ℕ))
each_parameter [] = Some []
each_parameter (part ∷ parts) = option_and_then (λ n. option_map (λ ns. n ∷ ns) (each_parameter parts)) (parameter part)

-- The parameters of a control sequence, separated by semicolons.
abbrev pub parameters_of : List ℕ → Option (List (Option ℕ))
parameters_of bytes = each_parameter (slice_split (λ byte. byte == 59) bytes)

-- The single parameter of a motion or of ECH: 1 if absent; 0 is undefined.
abbrev pub count_of : List (Option ℕ) → Option ℕ
count_of (n ∷ []) = if nat_le 1 (unwrap_or n 1) then Some (unwrap_or n 1) else None
count_of _ = None

-- The single parameter of ED or EL: 0 if absent.
abbrev pub choice_of : List (Option ℕ) → Option ℕ
choice_of (n ∷ []) = Some (unwrap_or n 0)
choice_of _ = None

-- CHA: the cursor to column n of its line, counted from 1.
abbrev pub cursor_character_absolute : ℕ → ℕ → TerminalState → ℕ → Option TerminalState
cursor_character_absolute rows columns state n = moved_to_column rows columns state (n - 1)

-- VPA: the cursor to line n, counted from 1, in its column.
abbrev pub line_position_absolute : ℕ → ℕ → TerminalState → ℕ → Option TerminalState
line_position_absolute rows columns state n = moved_to_row rows columns state (n - 1)

-- CUP with both parameters: row and column, counted from 1; undefined off the screen.
abbrev pub cursor_at : ℕ → ℕ → TerminalState → ℕ → ℕ → Option TerminalState
cursor_at rows columns state row column =
    if nat_le 1 row && nat_le 1 column then moved_to rows columns state (row - 1) (column - 1) else None

-- CUP: an absent parameter is 1; more than two are undefined.
abbrev pub cursor_position : ℕ → ℕ → TerminalState → List (Option ℕ) → Option TerminalState
cursor_position rows columns state (row ∷ []) = cursor_at rows columns state (unwrap_or row 1) 1
cursor_position rows columns state (row ∷ column ∷ []) = cursor_at rows columns state (unwrap_or row 1) (unwrap_or column 1)
cursor_position rows columns state _ = None

-- ED: 0 erases from the cursor to the end of the screen, 2 erases all of it; other values are undefined. The cursor
-- stays.
abbrev pub erase_in_page : ℕ → ℕ → TerminalState → ℕ → Option TerminalState
erase_in_page rows columns state choice =
    if choice == 0 then from_place state.spot (λ r c. Some (erased rows columns (is_from_place r c) state)) else
    (if choice == 2 then Some (record state { grid = blank_grid rows columns }) else None)

-- EL: 0 erases from the cursor to the end of the line; other values are undefined. The cursor stays.
abbrev pub erase_in_line : ℕ → ℕ → TerminalState → ℕ → Option TerminalState
erase_in_line rows columns state choice = if choice == 0 then rest_of_line_erased rows columns state else None

-- The attribute that a parameter of SGR turns on.
abbrev pub rendition_attribute : ℕ → Option ℕ
rendition_attribute n =
    if n == 1 then Some bold else
    (if n == 2 then Some dim else
    (if n == 4 then Some underline else
    (if n == 5 then Some blink else
    (if n == 7 then Some reverse else
    (if n == 8 then Some invis else None)))))

-- One parameter of SGR: 0 resets the pen; 30 to 37 and 40 to 47 set colours, 39 and 49 the default ones; others turn on
-- an attribute.
abbrev pub rendition : PenView → ℕ → Option PenView
rendition pen n =
    if n == 0 then Some plain_pen else
    (if nat_le 30 n && nat_le n 37 then Some (record pen { foreground = Some (n - 30) }) else
    (if n == 39 then Some (record pen { foreground = None }) else
    (if nat_le 40 n && nat_le n 47 then Some (record pen { background = Some (n - 40) }) else
    (if n == 49 then Some (record pen { background = None }) else
    option_map (with_attribute pen) (rendition_attribute n)))))

-- The parameters of SGR, one after another; an absent one is 0.
abbrev pub renditions : PenView → List (Option ℕ) → Option PenView
renditions pen [] = Some pen
renditions pen (n ∷ ns) = option_and_then (λ next. renditions next ns) (rendition pen (unwrap_or n 0))

-- SGR: it changes the pen alone.
abbrev pub select_graphic_rendition : TerminalState → List (Option ℕ) → Option TerminalState
select_graphic_rendition state ns =
    option_map (λ pen. record state { pen = pen }) (renditions state.pen ns)

-- A control sequence, by its final byte: CUU, CUD, CUF, CUB, CHA, CUP, ED, EL, ECH, VPA, SGR. Any other is undefined.
unfoldable pub control_function : ℕ → ℕ → TerminalState → List (Option ℕ) → ℕ → Option TerminalState
control_function rows columns state ns final =
    if final == 65 then option_and_then (moved_up rows columns state) (count_of ns) else
    (if final == 66 then option_and_then (moved_down rows columns state) (count_of ns) else
    (if final == 67 then option_and_then (moved_right rows columns state) (count_of ns) else
    (if final == 68 then option_and_then (moved_left rows columns state) (count_of ns) else
    (if final == 71 then option_and_then (cursor_character_absolute rows columns state) (count_of ns) else
    (if final == 72 then cursor_position rows columns state ns else
    (if final == 74 then option_and_then (erase_in_page rows columns state) (choice_of ns) else
    (if final == 75 then option_and_then (erase_in_line rows columns state) (choice_of ns) else
    (if final == 88 then option_and_then (characters_erased rows columns state) (count_of ns) else
    (if final == 100 then option_and_then (line_position_absolute rows columns state) (count_of ns) else
    (if final == 109 then select_graphic_rendition state ns else None))))))))))

-- BS moves one column left, CR to the first column of the line; both are undefined at the margin.
abbrev pub control_character : ℕ → ℕ → TerminalState → ℕ → Option TerminalState
control_character rows columns state byte =
    if byte == 8 then moved_left rows columns state 1 else
    (if byte == 13 then moved_to_column rows columns state 0 else None)

-- The state after a unit; none if the unit is undefined there, as what is no character of one column is.
abbrev pub meaning : ℕ → ℕ → TerminalState → EcmaUnit → Option TerminalState
meaning rows columns state (Graphic byte) = character_written columns state byte
meaning rows columns state (Spelled code) = if is_beyond_ascii code then character_written columns state code else None
meaning rows columns state (Control byte) = control_character rows columns state byte
meaning rows columns state (Sequence bytes final) =
    option_and_then (λ ns. control_function rows columns state ns final) (parameters_of bytes)

-- The state after several units; none if one of them is undefined.
abbrev pub meanings : ℕ → ℕ → TerminalState → List EcmaUnit → Option TerminalState
meanings rows columns state [] = Some state
meanings rows columns state (unit ∷ units) = option_and_then (λ next. meanings rows columns next units) (meaning rows columns state unit)

-- The text consists of whole units that are all defined, and they lead from the state `old` to `new`.
pub record Leads (charset : Charset) (rows columns : ℕ) (old : TerminalState) (text : List ℕ) (new : TerminalState) : Type 0 where
  pub units : List EcmaUnit
  pub division : IsDivision charset text units []
  pub meaning : meanings rows columns old units ≡ Some new
