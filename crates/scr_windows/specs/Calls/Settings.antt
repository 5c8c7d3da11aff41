-- What the calls that set something do. X/Open Curses Issue 7, the pages named.
use Rattle.std.specs.Prelude.{ℕ, Bool, Result, Ok, Err, ◌-◌, ltb, leb, ◌&&◌, bit_and, bit_or, if◌then◌else◌}
use Rattle.scr_cells.specs.CellViews.{CellView}
use Rattle.scr_cells.specs.declared.attributes.Attrs.{Attrs}
use Rattle.scr_windows.specs.declared.faults.WinFault.{WinFault}
use Rattle.scr_windows.specs.declared.faults.WinFault.TheVariants.{OutOfWindow, BadRegion, BadPair}
use Rattle.scr_windows.specs.declared.frames.WindowState.{WindowState}
use Rattle.scr_windows.specs.DeskViews.{WindowView, DeskView, window_at}
use Rattle.scr_windows.specs.Changes.{index_of, on_window, with_window, write}
use Rattle.scr_windows.specs.Surfaces.Formulas.{all_exchanged}

-- The desk with a new state in one window.
abbrev pub with_state : DeskView → ℕ → WindowState → DeskView
with_state desk i state = with_window desk i (record (window_at desk i) { state = state })

-- A call that sets something in a window; it is refused only if there is no such window.
abbrev pub setting : DeskView → ℕ → (WindowState → WindowState) → DeskView × Result (Unit {0}) WinFault
setting desk win f = on_window desk (index_of desk win) (λ i. (with_state desk i (f (window_at desk i).state), Ok tt))

-- The window's state with the cursor elsewhere.
abbrev pub cursor_at : ℕ × ℕ → WindowState → WindowState
cursor_at cursor state = record state { cursor = cursor }

-- move()
unfoldable pub move_cursor_call : DeskView → ℕ → ℕ → ℕ → DeskView × Result (Unit {0}) WinFault
move_cursor_call desk win row column = on_window desk (index_of desk win) (λ i.
    let w : WindowView = window_at desk i in
    if ltb row w.frame.area.rows && ltb column w.frame.area.columns then (with_state desk i (cursor_at (row, column) w.state), Ok tt)
    else (desk, Err OutOfWindow))

-- setscrreg()
unfoldable pub set_region_call : DeskView → ℕ → ℕ → ℕ → DeskView × Result (Unit {0}) WinFault
set_region_call desk win top bottom = on_window desk (index_of desk win) (λ i.
    let w : WindowView = window_at desk i in
    if leb top bottom && ltb bottom w.frame.area.rows then (with_state desk i (record w.state { region = (top, bottom) }), Ok tt)
    else (desk, Err BadRegion))

-- scrollok()
unfoldable pub scroll_ok_call : DeskView → ℕ → Bool → DeskView × Result (Unit {0}) WinFault
scroll_ok_call desk win on = setting desk win (λ s. record s { scroll_ok = on })

-- clearok()
unfoldable pub clear_ok_call : DeskView → ℕ → Bool → DeskView × Result (Unit {0}) WinFault
clear_ok_call desk win on = setting desk win (λ s. record s { clear_ok = on })

-- leaveok()
unfoldable pub leave_ok_call : DeskView → ℕ → Bool → DeskView × Result (Unit {0}) WinFault
leave_ok_call desk win on = setting desk win (λ s. record s { leave_ok = on })

-- attron(): these attributes are added.
unfoldable pub attr_on_call : DeskView → ℕ → Attrs → DeskView × Result (Unit {0}) WinFault
attr_on_call desk win attrs = setting desk win (λ s. record s { attrs = record { 0 = bit_or s.attrs.0 attrs.0 } })

-- attroff(): these attributes are removed.
unfoldable pub attr_off_call : DeskView → ℕ → Attrs → DeskView × Result (Unit {0}) WinFault
attr_off_call desk win attrs = setting desk win (λ s. record s { attrs = record { 0 = bit_and s.attrs.0 (255 - attrs.0) } })

-- attrset(): these attributes and no others.
unfoldable pub attr_set_call : DeskView → ℕ → Attrs → DeskView × Result (Unit {0}) WinFault
attr_set_call desk win attrs = setting desk win (λ s. record s { attrs = attrs })

-- color_set(): the number of a colour pair, 0 to 63.
unfoldable pub color_set_call : DeskView → ℕ → ℕ → DeskView × Result (Unit {0}) WinFault
color_set_call desk win pair = on_window desk (index_of desk win) (λ i.
    if ltb pair 64 then (with_state desk i (record (window_at desk i).state { pair = pair }), Ok tt) else (desk, Err BadPair))

-- bkgdset()
unfoldable pub set_background_call : DeskView → ℕ → CellView → DeskView × Result (Unit {0}) WinFault
set_background_call desk win cell = setting desk win (λ s. record s { background = cell })

-- bkgd(): the background is set, and exchanged in every place of the window.
unfoldable pub change_background_call : DeskView → ℕ → CellView → DeskView × Result (Unit {0}) WinFault
change_background_call desk win cell = on_window desk (index_of desk win) (λ i.
    let w : WindowView = window_at desk i in
    (with_state (write desk i 0 w.frame.area.rows (all_exchanged w.state.background cell)) i (record w.state { background = cell }), Ok tt))
