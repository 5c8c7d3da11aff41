-- Words of private functions: what they know of the window that a call is about, and the lines that a drawing writes.
use Rattle.std.specs.Prelude.{ℕ, ◌≡◌, ◌+◌, ◌<◌, length, Ok}
use Rattle.scr_windows.specs.declared.frames.Canvas.{Canvas}
use Rattle.scr_windows.specs.declared.surfaces.drawings.Drawing.{Drawing}
use Rattle.scr_windows.specs.declared.surfaces.drawings.Drawing.TheVariants.{Run, Rows, Below, Column, Opened, Closed, Up, Down, Exchanged, Edges}
use Rattle.scr_windows.specs.DeskViews.{HasSameSize, DeskView, window_at, IsThere}
use Rattle.scr_windows.specs.Changes.{index_of}

-- the canvas of the window at an index
pub record IsCanvasAt (desk : DeskView) (canvas : Canvas) : Type 0 where
  pub area_is : canvas.area ≡ (window_at desk canvas.index).frame.area
  pub state_is : canvas.state ≡ (window_at desk canvas.index).state
  pub placed : IsThere desk canvas.index

-- the canvas of a window that is there
pub record IsCanvas (desk : DeskView) (number : ℕ) (canvas : Canvas) : Type 0 where
  pub index_is : index_of desk number ≡ Ok canvas.index
  pub area_is : canvas.area ≡ (window_at desk canvas.index).frame.area
  pub state_is : canvas.state ≡ (window_at desk canvas.index).state
  pub placed : IsThere desk canvas.index

-- a window that is still there, in its frame and with what was set in it, on a screen of the same size
pub record IsKept (old new : DeskView) (i : ℕ) : Type 0 where
  pub here : i < length new.windows
  pub frame : (window_at new i).frame ≡ (window_at old i).frame
  pub state : (window_at new i).state ≡ (window_at old i).state
  pub size : HasSameSize old new

-- the first line that a drawing writes in a window of so many rows, and the line after the last
abbrev pub lines_drawn : Drawing → ℕ → ℕ × ℕ
lines_drawn (Run row from end cell) rows = (row, row + 1)
lines_drawn (Rows first end cell) rows = (first, end)
lines_drawn (Below row column cell) rows = (row, rows)
lines_drawn (Column column first end cell) rows = (first, end)
lines_drawn (Opened row column cell) rows = (row, row + 1)
lines_drawn (Closed row column cell) rows = (row, row + 1)
lines_drawn (Up first end count cell) rows = (first, end)
lines_drawn (Down first end count cell) rows = (first, end)
lines_drawn (Exchanged old new) rows = (0, rows)
lines_drawn (Edges border) rows = (0, rows)
