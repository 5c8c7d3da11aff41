-- Changes that keep a desk one.
use Rattle.std.proofs.Common.{◌≡◌, ℕ, ◌<◌, sym, subst, ◌∙◌, ap, refl, arith, List, [], ◌∷◌, zero, suc, length, map, get_or, Bool, true}
use Rattle.std.specs.Prelude.{slice_set}
use Rattle.std.specs.List.{range_with_len}
use Rattle.std.proofs.Math.Seq.{map-set_same}
use Rattle.std.proofs.lemmas.List.Elements.{All-set}
use Rattle.std.proofs.lemmas.List.{get_or-map, get_or-set_same, length-set}
use Rattle.std.proofs.lemmas.List.FromFn.{length-map-range_with_len}
use Rattle.scr_cells.specs.CellViews.{CellView}
use Rattle.scr_windows.specs.declared.surfaces.areas.Area.{Area}
use Rattle.scr_windows.specs.declared.frames.Frame.{Frame}
use Rattle.scr_windows.specs.declared.frames.WindowState.{WindowState}
use Rattle.scr_windows.specs.Surfaces.SurfaceViews.{SurfaceView, IsSurface, IsPart, filled, inside_at}
use Rattle.scr_windows.specs.DeskViews.{WindowView, DeskView, IsState, IsWindow, IsPlaced, AreFrames, IsDesk, window_at, AreAscending, surface_at, size_on, no_window, no_frame, no_surface, IsThere}
use Rattle.scr_windows.proofs.SizeLaws.{is_surface_there, size_set}
use Rattle.scr_windows.specs.declared.surfaces.drawings.Drawing.{Drawing}
use Rattle.scr_windows.specs.Surfaces.Drawings.{drawn}
use Rattle.scr_windows.specs.Surfaces.SurfaceLaws.{SurfaceLaws}
use Rattle.scr_windows.specs.Code.Canvases.{IsKept, lines_drawn}
use Rattle.scr_windows.specs.Changes.{fill, with_window, marked, marked_lines, write}
use Rattle.scr_windows.specs.Calls.Reading.{row_at, contents}
use Rattle.scr_windows.specs.Lending.{lines_in}

pub length_map : {X Y : Type 0} (f : X → Y) (xs : List X) → length (map f xs) ≡ length xs
length_map f [] = refl
length_map f (x ∷ xs) = ap suc (length_map f xs)

abbrev pub frame_of : WindowView → Frame
frame_of w = w.frame

abbrev pub frame_number : Frame → ℕ
frame_number frame = frame.number

abbrev pub number_of : WindowView → ℕ
number_of w = w.frame.number

pub placed : (d : DeskView) (i : ℕ) → IsDesk d → i < length d.windows → IsThere d i
placed d i h l =
    let frame : Frame = (window_at d i).frame in
    let frames : length (map frame_of d.windows) ≡ length d.windows = length_map frame_of d.windows in
    let is : get_or (map frame_of d.windows) i no_frame ≡ frame = get_or-map frame_of d.windows i no_window no_frame l in
    let P : Frame → Type 0 = λ f. IsPlaced d.rows d.columns (size_on d.surfaces) f in
    let p : IsPlaced d.rows d.columns (size_on d.surfaces) frame = subst P is (h.frames.placed i no_frame (omega arith)) in
    let on : frame.surface < length d.surfaces = is_surface_there d.surfaces frame.surface (omega (arith, p.some_rows, p.below)) in
    record {
      here = l;
      window = h.windows i no_window l;
      surface = on;
      whole = h.surfaces frame.surface no_surface on;
      screen = h.size;
      origin = p.origin;
      part = record { some_rows = p.some_rows; some_columns = p.some_columns; below = p.below; right = p.right };
    }

-- a window gets another state, in the same frame
pub with_window_is_desk : (d : DeskView) (i : ℕ) (w : WindowView) → IsDesk d → i < length d.windows → w.frame ≡ (window_at d i).frame → IsWindow w → IsDesk (with_window d i w)
with_window_is_desk d i w h l same is = record {
  size = h.size;
  made = h.made;
  surfaces = h.surfaces;
  windows = All-set IsWindow d.windows i w is h.windows;
  frames = (let P : List Frame → Type 0 = λ frames. AreFrames d.rows d.columns (size_on d.surfaces) d.made frames in subst P (sym (map-set_same frame_of d.windows i w no_window same)) h.frames);
}

-- the surface of a window is filled
pub fill_is_desk : SurfaceLaws → (d : DeskView) (i : ℕ) (f : (ℕ → ℕ → CellView) → ℕ → ℕ → CellView) → IsDesk d → i < length d.windows → IsDesk (fill d i f)
fill_is_desk laws d i f h l =
    let p = placed d i h l in
    let k : ℕ = (window_at d i).frame.surface in
    let s : SurfaceView = surface_at d k in
    let a : Area = (window_at d i).frame.area in
    let new : SurfaceView = filled s a (f (inside_at s a)) in
    let sizes : (n : ℕ) → size_on (slice_set d.surfaces k new) n ≡ size_on d.surfaces n = size_set d.surfaces k new p.surface (λ j. (laws.filled_rows s a (f (inside_at s a)) j, laws.filled_columns s a (f (inside_at s a)) j)) in
    let P : (ℕ → ℕ × ℕ) → Type 0 = λ zs. AreFrames d.rows d.columns zs d.made (map frame_of d.windows) in
    let same : size_on (slice_set d.surfaces k new) ≡ size_on d.surfaces = (λ j n. sizes n j) in
    record {
      size = h.size;
      made = h.made;
      surfaces = All-set IsSurface d.surfaces k new (laws.filled_surface s a (f (inside_at s a)) p.whole) h.surfaces;
      windows = h.windows;
      frames = subst P (sym same) h.frames;
    }

pub length-marked_lines : (first end : ℕ) (mark : Bool) (marks : List Bool) → length (marked_lines first end mark marks) ≡ length marks
unfolding marked_lines
length-marked_lines first end mark marks = length-map-range_with_len _ 0 (length marks)

pub marked_is_window : (first end : ℕ) (mark : Bool) (w : WindowView) → IsWindow w → IsWindow (marked first end mark w)
marked_is_window first end mark w h = record { state = h.state; touched = length-marked_lines first end mark w.touched ∙ h.touched }

pub get_or_any : {X : Type 0} (xs : List X) (i : ℕ) (d e : X) → i < length xs → get_or xs i d ≡ get_or xs i e
get_or_any [] i d e h = absurd (omega (arith, h))
get_or_any (x ∷ xs) zero d e h = refl
get_or_any (x ∷ xs) (suc i) d e h = get_or_any xs i d e (omega (arith, h))

-- what code knows of a window that it reads: it is the one at its index
abbrev pub Reads : {X : Type 0} → List X → ℕ → X → Type 0
Reads xs i x = x ≡ get_or xs i x

pub reads_window : (d : DeskView) (i : ℕ) (w : WindowView) → Reads d.windows i w → i < length d.windows → w ≡ window_at d i
reads_window d i w e h = e ∙ get_or_any d.windows i w no_window h

-- what code knows of a window that it was lent
pub reads_of : (d old : DeskView) (i : ℕ) (w : WindowView) → d ≡ old → i < length old.windows → w ≡ window_at old i → Reads d.windows i w
reads_of d old i w is l e = e ∙ ap (λ v. window_at v i) (sym is) ∙ get_or_any d.windows i no_window w (omega (arith, l, ap (λ (v : DeskView). length v.windows) is))

pub here_too : (d old : DeskView) (i : ℕ) → d ≡ old → i < length old.windows → i < length d.windows
here_too d old i is h = omega (arith, h, ap (λ (v : DeskView). length v.windows) is)

pub state_set : (d old : DeskView) (is : d ≡ old) (i : ℕ) (w new : WindowView) (state : WindowState) → IsDesk d → i < length old.windows → Reads d.windows i w → IsState (window_at old i).frame state
    → new ≡ record w { state = state } → IsDesk (with_window d i new)
state_set d old is i w new state h l e fits n =
    let here : i < length d.windows = here_too d old i is l in
    let at : w ≡ window_at d i = reads_window d i w e here in
    let P : DeskView → Type 0 = λ v. IsState (window_at v i).frame state in
    let same : new.frame ≡ (window_at d i).frame = ap frame_of n ∙ ap frame_of at in
    let Q : WindowView → Type 0 = λ v. IsWindow v in
    let changed : IsWindow (record (window_at d i) { state = state }) = record { state = subst P (sym is) fits; touched = (placed d i h here).window.touched } in
    with_window_is_desk d i new h here same (subst Q (sym (n ∙ (λ j. record (at j) { state = state }))) changed)

pub cursor_set : (d old : DeskView) (is : d ≡ old) (i : ℕ) (w new : WindowView) (row column : ℕ) → IsDesk d → i < length old.windows → Reads d.windows i w → row < (window_at old i).frame.area.rows → column < (window_at old i).frame.area.columns
    → new ≡ record w { state = record w.state { cursor = (row, column) } } → IsDesk (with_window d i new)
cursor_set d old is i w new row column h l e below right n =
    let here : i < length d.windows = here_too d old i is l in
    let at : w ≡ window_at d i = reads_window d i w e here in
    let P : WindowView → Type 0 = λ v. IsState (window_at d i).frame v.state in
    let Q : DeskView → Type 0 = λ v. IsState (window_at v i).frame w.state in
    let was : IsState (window_at old i).frame w.state = subst Q is (subst P (sym at) (placed d i h here).window.state) in
    state_set d old is i w new (record w.state { cursor = (row, column) }) h l e (record { cursor_row = below; cursor_column = right; region_order = was.region_order; region_end = was.region_end; pair = was.pair }) n

pub lines_marked : (d old : DeskView) (is : d ≡ old) (i : ℕ) (w new : WindowView) (first end : ℕ) (mark : Bool) → IsDesk d → i < length old.windows → Reads d.windows i w
    → new ≡ marked first end mark w → IsDesk (with_window d i new)
lines_marked d old is i w new first end mark h l e n =
    let here : i < length d.windows = here_too d old i is l in
    let at : w ≡ window_at d i = reads_window d i w e here in
    let same : new.frame ≡ (window_at d i).frame = ap frame_of n ∙ ap frame_of at in
    let Q : WindowView → Type 0 = λ v. IsWindow v in
    with_window_is_desk d i new h here same (subst Q (sym (n ∙ ap (marked first end mark) at)) (marked_is_window first end mark _ (placed d i h here).window))

-- what a drawing knows: the window and its frame
pub record Draws (d old : DeskView) (i : ℕ) (w : WindowView) (frame : Frame) : Type 0 where
  pub is : d ≡ old
  pub desk : IsDesk d
  pub here : i < length old.windows
  pub window : Reads d.windows i w
  pub frame_is : frame ≡ w.frame

pub frame_path : (d old : DeskView) (i : ℕ) (w : WindowView) (frame : Frame) → Draws d old i w frame → frame ≡ (window_at d i).frame
frame_path d old i w frame h = h.frame_is ∙ ap frame_of (reads_window d i w h.window (here_too d old i h.is h.here))

pub frame_read : (d old : DeskView) (i : ℕ) (w : WindowView) (frame : Frame) → Draws d old i w frame → frame ≡ (window_at old i).frame
frame_read d old i w frame h = frame_path d old i w frame h ∙ ap (λ v. (window_at v i).frame) h.is

-- the surface of the window is there
pub draws_on : (d old : DeskView) (i : ℕ) (w : WindowView) (frame : Frame) → Draws d old i w frame → frame.surface < length d.surfaces
draws_on d old i w frame h =
    let P : Frame → Type 0 = λ f. f.surface < length d.surfaces in
    subst P (sym (frame_path d old i w frame h)) (placed d i h.desk (here_too d old i h.is h.here)).surface

-- the surface that is read at the index that the frame holds
pub surface_path : (d old : DeskView) (i : ℕ) (w : WindowView) (frame : Frame) (s : SurfaceView) → Draws d old i w frame → Reads d.surfaces frame.surface s → s ≡ surface_at d (window_at d i).frame.surface
surface_path d old i w frame s h r =
    r ∙ get_or_any d.surfaces frame.surface s no_surface (draws_on d old i w frame h) ∙ ap (λ (g : Frame). surface_at d g.surface) (frame_path d old i w frame h)

pub draws_part : (d old : DeskView) (i : ℕ) (w : WindowView) (frame : Frame) (s : SurfaceView) → Draws d old i w frame → Reads d.surfaces frame.surface s → IsPart s frame.area
draws_part d old i w frame s h r =
    let P : SurfaceView → Type 0 = λ v. IsPart v frame.area in
    let Q : Frame → Type 0 = λ g. IsPart (surface_at d (window_at d i).frame.surface) g.area in
    subst P (sym (surface_path d old i w frame s h r)) (subst Q (sym (frame_path d old i w frame h)) (placed d i h.desk (here_too d old i h.is h.here)).part)

-- the desk after lines were marked and the surface was filled
pub written_path : (d old : DeskView) (i : ℕ) (w m : WindowView) (frame : Frame) (s t : SurfaceView) (first end : ℕ) (f : (ℕ → ℕ → CellView) → ℕ → ℕ → CellView)
    → Draws d old i w frame → Reads d.surfaces frame.surface s → m ≡ marked first end true w → t ≡ filled s frame.area (f (inside_at s frame.area))
    → record d { surfaces = slice_set d.surfaces frame.surface t; windows = slice_set d.windows i m } ≡ write d i first end f
unfolding write
written_path d old i w m frame s t first end f h r marks cells =
    let at : w ≡ window_at d i = reads_window d i w h.window (here_too d old i h.is h.here) in
    let frames : frame ≡ (window_at d i).frame = frame_path d old i w frame h in
    let surfaces : s ≡ surface_at d (window_at d i).frame.surface = surface_path d old i w frame s h r in
    let windows_is : m ≡ marked first end true (window_at d i) = marks ∙ ap (marked first end true) at in
    let cells_is : t ≡ filled (surface_at d (window_at d i).frame.surface) (window_at d i).frame.area (f (inside_at (surface_at d (window_at d i).frame.surface) (window_at d i).frame.area))
    = cells ∙ (λ j. filled (surfaces j) (frames j).area (f (inside_at (surfaces j) (frames j).area))) in
    (λ j. record d { surfaces = slice_set d.surfaces (frames j).surface (cells_is j); windows = slice_set d.windows i (windows_is j) })

pub drawn_is_desk : SurfaceLaws → (d old : DeskView) (i : ℕ) (w m : WindowView) (frame : Frame) (s t : SurfaceView) (first end : ℕ) (f : (ℕ → ℕ → CellView) → ℕ → ℕ → CellView)
    → Draws d old i w frame → Reads d.surfaces frame.surface s → m ≡ marked first end true w → t ≡ filled s frame.area (f (inside_at s frame.area))
    → IsDesk (record d { surfaces = slice_set d.surfaces frame.surface t; windows = slice_set d.windows i m })
unfolding write
drawn_is_desk laws d old i w m frame s t first end f h r marks cells =
    let here : i < length d.windows = here_too d old i h.is h.here in
    let P : DeskView → Type 0 = λ v. IsDesk v in
    subst P (sym (written_path d old i w m frame s t first end f h r marks cells))
    (with_window_is_desk (fill d i f) i (marked first end true (window_at d i)) (fill_is_desk laws d i f h.desk here) here refl (marked_is_window first end true _ (placed d i h.desk here).window))

-- what is written stays where it was
pub write_keeps : (d : DeskView) (i first end : ℕ) (f : (ℕ → ℕ → CellView) → ℕ → ℕ → CellView) → i < length d.windows → IsKept d (write d i first end f) i
unfolding write
write_keeps d i first end f l =
    let at : get_or (slice_set d.windows i (marked first end true (window_at d i))) i no_window ≡ marked first end true (window_at d i) = get_or-set_same d.windows i (marked first end true (window_at d i)) no_window l in
    record { here = omega (arith, l, length-set d.windows i (marked first end true (window_at d i))); frame = ap frame_of at; state = ap (λ (w : WindowView). w.state) at; size = record { rows = refl; columns = refl } }

-- a drawing is the definition
pub drawing_path : (d old : DeskView) (i : ℕ) (w m : WindowView) (frame : Frame) (s t : SurfaceView) (lines : ℕ × ℕ) (drawing : Drawing) → Draws d old i w frame → Reads d.surfaces frame.surface s → lines ≡ lines_drawn drawing frame.area.rows
    → m ≡ marked lines.0 lines.1 true w → t ≡ filled s frame.area (drawn drawing frame.area.rows frame.area.columns (inside_at s frame.area))
    → record d { surfaces = slice_set d.surfaces frame.surface t; windows = slice_set d.windows i m }
    ≡ write old i (lines_drawn drawing (window_at old i).frame.area.rows).0 (lines_drawn drawing (window_at old i).frame.area.rows).1 (drawn drawing (window_at old i).frame.area.rows (window_at old i).frame.area.columns)
drawing_path d old i w m frame s t lines drawing h r lines_is marks cells =
    let frames : frame ≡ (window_at d i).frame = frame_path d old i w frame h in
    let all : lines ≡ lines_drawn drawing (window_at d i).frame.area.rows = lines_is ∙ ap (λ (f : Frame). lines_drawn drawing f.area.rows) frames in
    let here : write d i lines.0 lines.1 (drawn drawing frame.area.rows frame.area.columns)
    ≡ write d i (lines_drawn drawing (window_at d i).frame.area.rows).0 (lines_drawn drawing (window_at d i).frame.area.rows).1 (drawn drawing (window_at d i).frame.area.rows (window_at d i).frame.area.columns)
    = (λ j. write d i (all j).0 (all j).1 (drawn drawing (frames j).area.rows (frames j).area.columns)) in
    written_path d old i w m frame s t lines.0 lines.1 (drawn drawing frame.area.rows frame.area.columns) h r marks cells
    ∙ here
    ∙ ap (λ v. write v i (lines_drawn drawing (window_at v i).frame.area.rows).0 (lines_drawn drawing (window_at v i).frame.area.rows).1 (drawn drawing (window_at v i).frame.area.rows (window_at v i).frame.area.columns)) h.is

pub draws_row : (d old : DeskView) (i : ℕ) (w : WindowView) (frame : Frame) (s : SurfaceView) → Draws d old i w frame → Reads d.surfaces frame.surface s → (row : ℕ)
    → map (inside_at s frame.area row) (range_with_len 0 frame.area.columns) ≡ row_at old i row
draws_row d old i w frame s h r row =
    let frames : frame ≡ (window_at d i).frame = frame_path d old i w frame h in
    let surfaces : s ≡ surface_at d (window_at d i).frame.surface = surface_path d old i w frame s h r in
    let here : map (inside_at s frame.area row) (range_with_len 0 frame.area.columns) ≡ row_at d i row = (λ j. map (inside_at (surfaces j) (frames j).area row) (range_with_len 0 (frames j).area.columns)) in
    here ∙ ap (λ v. row_at v i row) h.is

pub draws_contents : (d old : DeskView) (i : ℕ) (w : WindowView) (frame : Frame) (s : SurfaceView) → Draws d old i w frame → Reads d.surfaces frame.surface s
    → record { window = w; lines = lines_in s w.frame.area } ≡ contents old i
draws_contents d old i w frame s h r =
    let at : w ≡ window_at d i = reads_window d i w h.window (here_too d old i h.is h.here) in
    let surfaces : s ≡ surface_at d (window_at d i).frame.surface = surface_path d old i w frame s h r in
    let here : record { window = w; lines = lines_in s w.frame.area } ≡ contents d i = (λ j. record { window = at j; lines = lines_in (surfaces j) (at j).frame.area }) in
    here ∙ ap (λ v. contents v i) h.is

pub placed_by : (d old : DeskView) (i : ℕ) → d ≡ old → IsDesk d → i < length old.windows → IsThere old i
placed_by d old i is h l =
    let P : DeskView → Type 0 = λ v. IsThere v i in
    subst P is (placed d i h (here_too d old i is l))

-- the windows of a desk stand by ascending numbers
pub desk_ascends : (d : DeskView) → IsDesk d → AreAscending d.windows
desk_ascends d h i j e less l =
    let many : length (map frame_of d.windows) ≡ length d.windows = length_map frame_of d.windows in
    let up = h.frames.ascending i j less (omega (arith, many)) in
    let x : get_or (map frame_of d.windows) i no_frame ≡ (get_or d.windows i e).frame = get_or-map frame_of d.windows i e no_frame (omega arith) in
    let y : get_or (map frame_of d.windows) j no_frame ≡ (get_or d.windows j e).frame = get_or-map frame_of d.windows j e no_frame l in
    omega (arith, up, ap frame_number x, ap frame_number y)
