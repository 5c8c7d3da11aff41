-- Calls that change the virtual screen: windows and pads are copied onto it, colour pairs are set, and rows that others
-- wrote on are marked. curs_refresh(3X), wnoutrefresh(), wredrawln(); curs_pad(3X), pnoutrefresh(); X/Open Curses Issue
-- 7, init_pair().
use Rattle.std.specs.Prelude.{ℕ, ◌≡◌, Result, Ok, Err}
use Rattle.scr_windows.specs.declared.faults.WinFault.{WinFault}
use Rattle.scr_windows.specs.DeskViews.{DeskView}
use Rattle.scr_memory.specs.Memories.{MemoryView, disturbed}
use Rattle.scr_windows.specs.Calls.Reading.{screen_rows_answer, size_answer}
use Rattle.scr_virtual.specs.VirtualViews.{VirtualView, marked_rows}
use Rattle.curses.specs.ScreenStates.{ScreenState}

-- The call does to windows and virtual screen what its definition says, and changes nothing else of the screen.
abbrev pub OnBoth : ScreenState → ScreenState → Result (Unit {0}) WinFault → (VirtualView × DeskView) × Result (Unit {0}) WinFault → Type 0
OnBoth old new answer call = (new ≡ record old { virtual = call.0.0; desk = call.0.1 }) × (answer ≡ call.1)

-- The call does to the virtual screen what its definition says, and changes nothing else of the screen.
abbrev pub OnVirtual : ScreenState → ScreenState → Result (Unit {0}) WinFault → VirtualView × Result (Unit {0}) WinFault → Type 0
OnVirtual old new answer call = (new ≡ record old { virtual = call.0 }) × (answer ≡ call.1)

-- These rows of the screen may look different in their whole width; or the call is refused.
abbrev pub rows_redrawn : VirtualView → Result (ℕ × ℕ) WinFault → VirtualView × Result (Unit {0}) WinFault
rows_redrawn virtual (Err fault) = (virtual, Err fault)
rows_redrawn virtual (Ok rows) = (marked_rows rows.0 rows.1 virtual, Ok tt)

-- wredrawln(): marks the rows of the screen where n lines of a window are, beginning at line `first`.
abbrev pub redraw_lines_call : VirtualView → DeskView → ℕ → ℕ → ℕ → VirtualView × Result (Unit {0}) WinFault
redraw_lines_call virtual desk win first n = rows_redrawn virtual (screen_rows_answer desk win first n)

-- The same for all lines of a window, given its size.
abbrev pub all_redrawn : VirtualView → DeskView → ℕ → Result (ℕ × ℕ) WinFault → VirtualView × Result (Unit {0}) WinFault
all_redrawn virtual desk win (Err fault) = (virtual, Err fault)
all_redrawn virtual desk win (Ok size) = redraw_lines_call virtual desk win 0 size.0

-- redrawwin(): marks the rows of the screen where the window's lines are.
abbrev pub redraw_window_call : VirtualView → DeskView → ℕ → VirtualView × Result (Unit {0}) WinFault
redraw_window_call virtual desk win = all_redrawn virtual desk win (size_answer desk win)

-- After a redraw call these rows of the terminal, its cursor's position and its pen are no longer known.
abbrev pub rows_disturbed : MemoryView → Result (ℕ × ℕ) WinFault → MemoryView
rows_disturbed memory (Err fault) = memory
rows_disturbed memory (Ok rows) = disturbed rows.0 rows.1 memory

-- What is known of the terminal after wredrawln().
abbrev pub lines_disturbed : MemoryView → DeskView → ℕ → ℕ → ℕ → MemoryView
lines_disturbed memory desk win first n = rows_disturbed memory (screen_rows_answer desk win first n)

-- What is known after all lines of a window are marked, given its size.
abbrev pub all_disturbed : MemoryView → DeskView → ℕ → Result (ℕ × ℕ) WinFault → MemoryView
all_disturbed memory desk win (Err fault) = memory
all_disturbed memory desk win (Ok size) = lines_disturbed memory desk win 0 size.0

-- What is known of the terminal after redrawwin().
abbrev pub window_disturbed : MemoryView → DeskView → ℕ → MemoryView
window_disturbed memory desk win = all_disturbed memory desk win (size_answer desk win)

-- Virtual screen, answer and what is known of the terminal are as given here; everything else of the screen stays.
abbrev pub OnTerminal : ScreenState → ScreenState → Result (Unit {0}) WinFault → VirtualView × Result (Unit {0}) WinFault → MemoryView → Type 0
OnTerminal old new answer call memory = (new ≡ record old { virtual = call.0; memory = memory }) × (answer ≡ call.1)
