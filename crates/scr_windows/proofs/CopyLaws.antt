-- Blocks of cells that are copied from one window to another.
use Rattle.std.proofs.Common.{◌≡◌, ℕ, ◌+◌, ◌-◌, ◌<◌, ◌≤◌, add_assoc, ◌∙◌, ap, refl, arith, Bool, true, false, cond}
use Rattle.std.specs.Prelude.{slice_set}
use Rattle.scr_cells.specs.CellViews.{CellView, blank_cell}
use Rattle.scr_cells.specs.Grids.{GridLaws, GridView, grid_of}
use Rattle.scr_windows.specs.declared.surfaces.areas.Area.{Area}
use Rattle.scr_windows.specs.Surfaces.SurfaceLaws.{SurfaceLaws}
use Rattle.scr_windows.specs.Surfaces.SurfaceViews.{SurfaceView, IsPart, cell_of, inside_at, is_inside, filled}
use Rattle.scr_windows.specs.Surfaces.Formulas.{block_at, laid, part_laid, part_of}
use Rattle.scr_windows.specs.DeskViews.{DeskView, surface_at, window_at}
use Rattle.scr_windows.specs.Changes.{marked, write}
use Rattle.scr_windows.specs.Calls.Reading.{at}
use Rattle.scr_windows.specs.Calls.Copying.{copied}
use Rattle.scr_windows.specs.declared.frames.Frame.{Frame}
use Rattle.scr_windows.specs.DeskViews.{WindowView}
use Rattle.scr_windows.proofs.DeskLaws.{Draws, Reads, frame_path, surface_path}
use Rattle.scr_windows.proofs.GridLaws.{is_inside_tells}

cond_same : {X : Type 0} (b : Bool) (x y z : X) → (b ≡ true → x ≡ y) → cond b x z ≡ cond b y z
cond_same true x y z h = h refl
cond_same false x y z h = refl

-- the part of a surface from a row and a column of an area on
abbrev pub further : Area → ℕ → ℕ → Area → Area
further area row column part = record { top = area.top + row; left = area.left + column; rows = part.rows; columns = part.columns }

-- the cells that a block is read from
abbrev pub block_of : DeskView → ℕ → ℕ → ℕ → Area → GridView CellView
block_of d i row column part =
    record { rows = part.rows; columns = part.columns; lines = grid_of part.rows part.columns (inside_at (surface_at d (window_at d i).frame.surface) (further (window_at d i).frame.area row column part)) }

-- a block that was read from one window and is laid over a part of another is a copy
pub block_copied : SurfaceLaws → GridLaws CellView → (d : DeskView) (source target row column : ℕ) (part : Area) (overlay : Bool) (block : GridView CellView) → block ≡ block_of d source row column part
    → write d target part.top (part.top + block.rows) (λ before. part_laid overlay (part_of part.top part.left block) (block_at block) before) ≡ copied d source target row column part overlay
unfolding write
block_copied laws grids d source target row column part overlay block is =
    let area : Area = (window_at d target).frame.area in
    let s : SurfaceView = surface_at d (window_at d target).frame.surface in
    let before : ℕ → ℕ → CellView = inside_at s area in
    let g : ℕ → ℕ → CellView = inside_at (surface_at d (window_at d source).frame.surface) (further (window_at d source).frame.area row column part) in
    let cells : (r c : ℕ) → r < part.rows → c < part.columns → block_at (block_of d source row column part) r c ≡ at d source (row + r) (column + c)
    = (λ r c h k. grids.formula blank_cell part.rows part.columns g r c h k ∙ (λ j. cell_of (surface_at d (window_at d source).frame.surface) (add_assoc (window_at d source).frame.area.top row r j) (add_assoc (window_at d source).frame.area.left column c j))) in
    let same : filled s area (part_laid overlay part (block_at (block_of d source row column part)) before) ≡ filled s area (part_laid overlay part (λ r c. at d source (row + r) (column + c)) before)
    = laws.filled_same s area (part_laid overlay part (block_at (block_of d source row column part)) before) (part_laid overlay part (λ r c. at d source (row + r) (column + c)) before) (λ r c b k.
    cond_same (is_inside part r c) (laid overlay (block_at (block_of d source row column part) (r - part.top) (c - part.left)) (before r c)) (laid overlay (at d source (row + (r - part.top)) (column + (c - part.left))) (before r c)) (before r c) (λ t.
    let i = is_inside_tells part r c t in ap (λ cell. laid overlay cell (before r c)) (cells (r - part.top) (c - part.left) (omega (arith, i.0, i.1)) (omega (arith, i.2, i.3))))) in
    ap (λ (b : GridView CellView). write d target part.top (part.top + b.rows) (λ x. part_laid overlay (part_of part.top part.left b) (block_at b) x)) is
    ∙ (λ j. record d { surfaces = slice_set d.surfaces (window_at d target).frame.surface (same j); windows = slice_set d.windows target (marked part.top (part.top + part.rows) true (window_at d target)) })

-- a part of an area is one of the surface
pub part_within : (s : SurfaceView) (area : Area) (row column rows columns : ℕ) → IsPart s area → 1 ≤ rows → 1 ≤ columns → row + rows ≤ area.rows → column + columns ≤ area.columns
    → IsPart s (record { top = area.top + row; left = area.left + column; rows = rows; columns = columns })
part_within s area row column rows columns p h k below right = record { some_rows = h; some_columns = k; below = omega (arith, p.below); right = omega (arith, p.right) }

-- what was read is the block of the definition
pub block_read : (d old : DeskView) (i : ℕ) (w : WindowView) (frame : Frame) (s : SurfaceView) (row column : ℕ) (part : Area) (block : GridView CellView) → Draws d old i w frame → Reads d.surfaces frame.surface s
    → block ≡ record { rows = part.rows; columns = part.columns; lines = grid_of part.rows part.columns (inside_at s (further frame.area row column part)) } → block ≡ block_of old i row column part
block_read d old i w frame s row column part block h r is =
    let frames : frame ≡ (window_at d i).frame = frame_path d old i w frame h in
    let surfaces : s ≡ surface_at d (window_at d i).frame.surface = surface_path d old i w frame s h r in
    let here : record { rows = part.rows; columns = part.columns; lines = grid_of part.rows part.columns (inside_at s (further frame.area row column part)) } ≡ block_of d i row column part
    = (λ j. record { rows = part.rows; columns = part.columns; lines = grid_of part.rows part.columns (inside_at (surfaces j) (further (frames j).area row column part)) }) in
    is ∙ here ∙ ap (λ v. block_of v i row column part) h.is
