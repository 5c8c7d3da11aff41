-- What the calls that touch lines do. X/Open Curses Issue 7, the pages named.
use Rattle.std.specs.Prelude.{ℕ, Bool, false, Result, Ok, Err, ◌+◌, leb, if◌then◌else◌}
use Rattle.scr_windows.specs.declared.faults.WinFault.{WinFault}
use Rattle.scr_windows.specs.declared.faults.WinFault.TheVariants.{OutOfWindow}
use Rattle.scr_windows.specs.DeskViews.{WindowView, DeskView, window_at}
use Rattle.scr_windows.specs.Changes.{index_of, on_window, with_window, marked}
use Rattle.scr_windows.specs.Calls.Settings.{with_state}

-- touchwin(), untouchwin(): all lines.
unfoldable pub touch_all_call : DeskView → ℕ → Bool → DeskView × Result (Unit {0}) WinFault
touch_all_call desk win changed = on_window desk (index_of desk win) (λ i. (with_window desk i (marked 0 (window_at desk i).frame.area.rows changed (window_at desk i)), Ok tt))

-- wtouchln(): n lines from `first` on are touched, or untouched.
unfoldable pub touch_lines_call : DeskView → ℕ → ℕ → ℕ → Bool → DeskView × Result (Unit {0}) WinFault
touch_lines_call desk win first n changed = on_window desk (index_of desk win) (λ i.
    if leb (first + n) (window_at desk i).frame.area.rows then (with_window desk i (marked first (first + n) changed (window_at desk i)), Ok tt) else (desk, Err OutOfWindow))

-- What an update does with a window: n lines from `first` on are untouched; it answers whether a repaint was requested,
-- and ends that request.
unfoldable pub take_lines_call : DeskView → ℕ → ℕ → ℕ → DeskView × Result Bool WinFault
take_lines_call desk win first n = on_window desk (index_of desk win) (λ i.
    let w : WindowView = window_at desk i in
    if leb (first + n) w.frame.area.rows then
    (with_state (with_window desk i (marked first (first + n) false w)) i (record w.state { clear_ok = false }), Ok w.state.clear_ok)
    else (desk, Err OutOfWindow))
