-- What init_pair() does to the virtual screen. X/Open Curses Issue 7, 'Color'.
use Rattle.std.specs.Prelude.{ℕ, ◌-◌, ◌==◌, ◌||◌, ltb, if◌then◌else◌, Bool, false, Option, Some, None, Result, Ok, Err, slice_set}
use Rattle.scr_windows.specs.declared.faults.WinFault.{WinFault}
use Rattle.scr_windows.specs.declared.faults.WinFault.TheVariants.{BadColour, BadPair}
use Rattle.scr_virtual.specs.VirtualViews.{VirtualView, marked_rows}

-- The picture with new colours for a pair; every place may look different.
abbrev pub with_pair : VirtualView → ℕ → Option ℕ → Option ℕ → VirtualView
with_pair virtual pair foreground background =
    marked_rows 0 virtual.picture.rows (record virtual { picture = record virtual.picture { pairs = slice_set virtual.picture.pairs (pair - 1) (foreground, background) } })

-- It is neither a colour nor the terminal's default.
abbrev pub is_no_colour : Option ℕ → Bool
is_no_colour None = false
is_no_colour (Some colour) = ltb 7 colour

-- init_pair(), where a colour may be the terminal's default: a pair is 1 to 63, a colour 0 to 7.
unfoldable pub set_pair_of_call : VirtualView → ℕ → Option ℕ → Option ℕ → VirtualView × Result (Unit {0}) WinFault
set_pair_of_call virtual pair foreground background =
    if pair == 0 || ltb 63 pair then (virtual, Err BadPair)
    else if is_no_colour foreground || is_no_colour background then (virtual, Err BadColour)
    else (with_pair virtual pair foreground background, Ok tt)

-- init_pair() with two colours.
abbrev pub set_pair_call : VirtualView → ℕ → ℕ → ℕ → VirtualView × Result (Unit {0}) WinFault
set_pair_call virtual pair foreground background = set_pair_of_call virtual pair (Some foreground) (Some background)
