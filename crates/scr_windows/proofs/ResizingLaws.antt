-- A surface of another size.
use Rattle.std.proofs.Common.{◌≡◌, ◌≢◌, inl, inr, ℕ, ◌+◌, ◌-◌, ◌<◌, ◌≤◌, sym, subst, ◌∙◌, ap, refl, arith, List, length, map, get_or, Option, None, Some, true, false, cond, leb, ltb, ◌==◌, ◌&&◌}
use Rattle.std.specs.Prelude.{All, MatchOption, slice_set}
use Rattle.std.specs.List.{range_with_len}
use Rattle.std.proofs.lemmas.List.{map-set}
use Rattle.std.proofs.lemmas.Bool.Decides.{nat_tests}
use Rattle.std.proofs.lemmas.List.{get_or-map, get_or-set_other, get_or-set_same, length-replicate, length-set}
use Rattle.std.proofs.lemmas.List.Elements.{All-set}
use Rattle.std.proofs.lemmas.List.FromFn.{get_or-map-range_with_len, length-map-range_with_len}
use Rattle.scr_cells.specs.CellViews.{CellView, blank_cell}
use Rattle.scr_cells.specs.Grids.{GridLaws, GridView, grid_of, grid_with_run}
use Rattle.scr_windows.specs.declared.surfaces.areas.Area.{Area}
use Rattle.scr_windows.specs.declared.frames.Frame.{Frame}
use Rattle.scr_windows.specs.Surfaces.SurfaceLaws.{SurfaceLaws}
use Rattle.scr_windows.specs.Surfaces.SurfaceViews.{SurfaceView, IsSurface, IsSurfaceSize, inside_at, resized_surface}
use Rattle.scr_windows.specs.DeskViews.{WindowView, DeskView, IsWindow, IsPlaced, IsChild, IsInsideOnScreen, AreFrames, IsDesk, no_frame, no_surface, no_window, size_on, surface_at, window_at}
use Rattle.scr_windows.specs.Changes.{with_window}
use Rattle.scr_windows.specs.Code.NewFrames.{IsRootPlace}
use Rattle.scr_windows.specs.Calls.Making.{part_of}
use Rattle.scr_windows.specs.Calls.Removing.{has_children, is_number}
use Rattle.scr_windows.specs.Calls.Resizing.{ends_inside, nearest, resized, whole_area, with_root_size}
use Rattle.scr_windows.proofs.DeskLaws.{Draws, Reads, frame_number, frame_path, here_too, reads_window, surface_path, frame_of, get_or_any, length_map, placed}
use Rattle.scr_windows.proofs.ChildLaws.{part_tells}
use Rattle.scr_windows.proofs.FilledLaws.{grid_same}
use Rattle.scr_windows.proofs.FrameLaws.{own_kept}
use Rattle.scr_windows.proofs.LawLaws.{child_of}
use Rattle.scr_windows.proofs.NumberLaws.{differs, equal, is_or_not}
use Rattle.scr_windows.proofs.RemovingLaws.{HasParent, alone_desk, childless}
use Rattle.scr_windows.proofs.RunLaws.{surface_of, whole_of}

-- the cells that are kept, of the rows up to one
abbrev pub kept_at : SurfaceView → Area → ℕ → CellView → ℕ → ℕ → CellView
kept_at surface area row cell r c = cond (ltb r row && ltb c area.columns) (inside_at surface area r c) cell

abbrev pub rows_kept : SurfaceView → Area → ℕ → ℕ → ℕ → CellView → GridView CellView
rows_kept surface area rows columns row cell = record { rows = rows; columns = columns; lines = grid_of rows columns (kept_at surface area row cell) }

-- one row more is kept
pub kept_more : GridLaws CellView → (surface : SurfaceView) (area : Area) (rows columns kept row : ℕ) (cell : CellView) (line : List CellView) (grid new : GridView CellView)
    → row < rows → kept ≤ columns → kept ≤ area.columns → ((c : ℕ) → c < columns → c < area.columns → c < kept)
    → line ≡ map (inside_at surface area row) (range_with_len 0 kept) → grid ≡ rows_kept surface area rows columns row cell → new ≡ record grid { lines = grid_with_run grid.lines row 0 line }
    → new ≡ rows_kept surface area rows columns (row + 1) cell
kept_more laws surface area rows columns kept row cell line grid new row_in in_columns in_area most line_is is new_is =
    let f : ℕ → ℕ → CellView = kept_at surface area row cell in
    let len : length line ≡ kept = ap length line_is ∙ length-map-range_with_len (inside_at surface area row) 0 kept in
    let ran = laws.run blank_cell rows columns (grid_of rows columns f) row 0 line (laws.sized rows columns f) row_in (omega (arith, len)) in
    let lines = ran ∙ grid_same rows columns _ (kept_at surface area (row + 1) cell) (λ r c h k.
    one (inside_at surface area r c) cell r row c kept (length line) area.columns _ _ len in_area (most c k) (λ e b. line_at c b ∙ ap (λ n. inside_at surface area n c) (sym e)) (laws.formula blank_cell rows columns f r c h k)) in
    new_is ∙ (λ j. record (is j) { lines = grid_with_run (is j).lines row 0 line }) ∙ (λ j. record { rows = rows; columns = columns; lines = lines j })
  where
    line_at : (c : ℕ) → c < kept → get_or line (c - 0) blank_cell ≡ inside_at surface area row c
    line_at c b = ap (λ l. get_or l (c - 0) blank_cell) line_is ∙ get_or-map-range_with_len (inside_at surface area row) 0 kept (c - 0) c blank_cell (omega arith) (omega arith)

    one : (here cell : CellView) (r row c kept len across : ℕ) (value was : CellView) → len ≡ kept → kept ≤ across → (c < across → c < kept) → (r ≡ row → c < kept → value ≡ here) → was ≡ cond (ltb r row && ltb c across) here cell
        → cond (r == row && leb 0 c && ltb c (0 + len)) value was ≡ cond (ltb r (row + 1) && ltb c across) here cell
    one here cell r row c kept len across value was e h m v w = grind (arith, nat_tests)

-- all rows are kept that fit
pub all_kept : (surface : SurfaceView) (area : Area) (rows columns kept : ℕ) (cell : CellView) (grid : GridView CellView) → kept ≤ area.rows → ((r : ℕ) → r < rows → r < area.rows → r < kept)
    → grid ≡ rows_kept surface area rows columns kept cell → surface_of grid ≡ resized_surface surface area rows columns cell
unfolding resized_surface
all_kept surface area rows columns kept cell grid h most is =
    let lines = grid_same rows columns (kept_at surface area kept cell) (kept_at surface area area.rows cell) (λ r c b k. one r c kept area.rows area.columns (inside_at surface area r c) cell h (most r b)) in
    ap surface_of is ∙ (λ j. record { rows = rows; columns = columns; lines = lines j })
  where
    one : (r c kept down across : ℕ) (x y : CellView) → kept ≤ down → (r < down → r < kept) → cond (ltb r kept && ltb c across) x y ≡ cond (ltb r down && ltb c across) x y
    one r c kept down across x y h m = grind (arith, nat_tests)

-- it is a surface
pub kept_is_surface : GridLaws CellView → (surface : SurfaceView) (area : Area) (rows columns row : ℕ) (cell : CellView) (grid : GridView CellView) → IsSurfaceSize rows columns → grid ≡ rows_kept surface area rows columns row cell → IsSurface (surface_of grid)
kept_is_surface laws surface area rows columns row cell grid size is =
    let P : GridView CellView → Type 0 = λ g. IsSurface (surface_of g) in
    subst P (sym is) (record { size = size; whole = whole_of laws rows columns _ (kept_at surface area row cell) refl })

-- the place among so many that is nearest is one of them
nearest_inside : (count place : ℕ) → 1 ≤ count → nearest count place < count
nearest_inside count place h = one count place h
  where
    one : (n p : ℕ) → 1 ≤ n → cond (ltb p n) p (n - 1) < n
    one n p h = grind (arith, nat_tests)

resized_is_window : (area : Area) (w : WindowView) → IsWindow w → 1 ≤ area.rows → 1 ≤ area.columns → IsWindow (resized area w)
resized_is_window area w h r c = record {
  state = record { cursor_row = nearest_inside area.rows w.state.cursor.0 r; cursor_column = nearest_inside area.columns w.state.cursor.1 c; region_order = omega arith; region_end = omega arith; pair = h.state.pair };
  touched = length-replicate area.rows true;
}

-- a parent of another number than that of the frame that changes is still there
parent_still : (frames : List Frame) (i : ℕ) (f g : Frame) → f.number ≡ (get_or frames i no_frame).number → HasParent frames g → ((n : ℕ) → g.parent ≡ Some n → n ≢ f.number) → HasParent (slice_set frames i f) g
parent_still frames i f g same has apart = by g.parent has apart
  where
    by : (o : Option ℕ) → MatchOption o (Unit {0}) (λ number. (k : ℕ) × (k < length frames) × ((get_or frames k no_frame).number ≡ number) × IsChild g (get_or frames k no_frame)) → ((n : ℕ) → o ≡ Some n → n ≢ f.number)
        → MatchOption o (Unit {0}) (λ number. (k : ℕ) × (k < length (slice_set frames i f)) × ((get_or (slice_set frames i f) k no_frame).number ≡ number) × IsChild g (get_or (slice_set frames i f) k no_frame))
    by None has apart = tt
    by (Some n) has apart =
        let m : ℕ = has.0 in
        let other : m ≢ i = λ e. apart n refl (sym has.2 ∙ ap (λ k. (get_or frames k no_frame).number) e ∙ sym same) in
        let kept : get_or (slice_set frames i f) m no_frame ≡ get_or frames m no_frame = get_or-set_other frames i m f no_frame other in
        let P : Frame → Type 0 = λ x. IsChild g x in
        (m, omega (arith, length-set frames i f, has.1), ap frame_number kept ∙ has.2, subst P (sym kept) has.3)

-- a frame that changes, of a window without subwindows
frame_changed : (rows columns : ℕ) (sizes new_sizes : ℕ → ℕ × ℕ) (made : ℕ) (frames : List Frame) (i : ℕ) (f : Frame) → AreFrames rows columns sizes made frames → i < length frames
    → f.number ≡ (get_or frames i no_frame).number → f.parent ≡ (get_or frames i no_frame).parent → f.surface ≡ (get_or frames i no_frame).surface → IsPlaced rows columns new_sizes f → ((k : ℕ) → k < length frames → k ≢ i → IsPlaced rows columns new_sizes (get_or frames k no_frame))
    → HasParent frames f → All (λ (g : Frame). is_number f.number g.parent ≡ false) frames → AreFrames rows columns new_sizes made (slice_set frames i f)
frame_changed rows columns sizes new_sizes made frames i f h l same same_parent same_surface on others parent alone = record {
  few = omega (arith, length-set frames i f, h.few);
  placed = λ k d b. subst (IsPlaced rows columns new_sizes) (sym (get_or_any (slice_set frames i f) k d no_frame b)) (place_of k (omega (arith, length-set frames i f, b)));
  numbers = All-set (λ (g : Frame). g.number ≤ made) frames i f (omega (arith, same, h.numbers i no_frame l)) h.numbers;
  ascending = λ a b less m. omega (arith, number_of_frame a, number_of_frame b, h.ascending a b less (omega (arith, length-set frames i f, m)));
  own = own_kept frames (slice_set frames i f) (length-set frames i f) (λ k b. kept (Option ℕ) (λ (x : Frame). x.parent) same_parent k) (λ j k a b e. sym (kept ℕ (λ (x : Frame). x.surface) same_surface j) ∙ e ∙ kept ℕ (λ (x : Frame). x.surface) same_surface k) h.own;
  parents = λ k d b. subst (HasParent (slice_set frames i f)) (sym (get_or_any (slice_set frames i f) k d no_frame b)) (parent_of k (omega (arith, length-set frames i f, b)));
}
  where
    there : get_or (slice_set frames i f) i no_frame ≡ f
    there = get_or-set_same frames i f no_frame l

    elsewhere : (k : ℕ) → k ≢ i → get_or (slice_set frames i f) k no_frame ≡ get_or frames k no_frame
    elsewhere k other = get_or-set_other frames i k f no_frame other

    place_of : (k : ℕ) → k < length frames → IsPlaced rows columns new_sizes (get_or (slice_set frames i f) k no_frame)
    place_of k b = elim (is_or_not k i) [
      | inl t ↦ (let P : ℕ → Type 0 = λ n. IsPlaced rows columns new_sizes (get_or (slice_set frames i f) n no_frame) in subst P (sym (equal k i t)) (subst (IsPlaced rows columns new_sizes) (sym there) on))
      | inr t ↦ subst (IsPlaced rows columns new_sizes) (sym (elsewhere k (differs k i t))) (others k b (differs k i t))
    ]

    -- what is the same of the frame that changes is the same of all
    kept : (X : Type 0) (g : Frame → X) → g f ≡ g (get_or frames i no_frame) → (k : ℕ) → g (get_or (slice_set frames i f) k no_frame) ≡ g (get_or frames k no_frame)
    kept X g e k = elim (is_or_not k i) [
      | inl t ↦ (let P : ℕ → Type 0 = λ n. g (get_or (slice_set frames i f) n no_frame) ≡ g (get_or frames n no_frame) in subst P (sym (equal k i t)) (ap g there ∙ e))
      | inr t ↦ ap g (elsewhere k (differs k i t))
    ]

    number_of_frame : (k : ℕ) → (get_or (slice_set frames i f) k no_frame).number ≡ (get_or frames k no_frame).number
    number_of_frame k = kept ℕ frame_number same k

    -- the frame's own parent has a lower number
    own_parent : (o : Option ℕ) → MatchOption o (Unit {0}) (λ number. (k : ℕ) × (k < length frames) × ((get_or frames k no_frame).number ≡ number) × IsChild f (get_or frames k no_frame)) → (n : ℕ) → o ≡ Some n → n ≢ f.number
    own_parent None has n e = λ _. absurd (let z : ⊥ = (cc) in z)
    own_parent (Some m) has n e = λ twice. (let mn : m ≡ n = (cc) in let z : ⊥ = omega (arith, has.2, has.3.later, mn, twice) in z)

    -- no other frame has it as its parent
    others_parent : (o : Option ℕ) → is_number f.number o ≡ false → (n : ℕ) → o ≡ Some n → n ≢ f.number
    others_parent None other n e = λ _. absurd (let z : ⊥ = (cc) in z)
    others_parent (Some m) other n e = λ twice. (let mn : m ≡ n = (cc) in differs m f.number other (mn ∙ twice))

    parent_of : (k : ℕ) → k < length frames → HasParent (slice_set frames i f) (get_or (slice_set frames i f) k no_frame)
    parent_of k b = elim (is_or_not k i) [
      | inl t ↦ (let P : ℕ → Type 0 = λ n. HasParent (slice_set frames i f) (get_or (slice_set frames i f) n no_frame) in
          subst P (sym (equal k i t)) (subst (HasParent (slice_set frames i f)) (sym there) (parent_still frames i f f same parent (own_parent f.parent parent))))
      | inr t ↦ subst (HasParent (slice_set frames i f)) (sym (elsewhere k (differs k i t)))
          (parent_still frames i f (get_or frames k no_frame) same (h.parents k no_frame b) (others_parent (get_or frames k no_frame).parent (alone k no_frame b)))
    ]

-- a surface of another size has that size
resized_rows : (surface : SurfaceView) (area : Area) (rows columns : ℕ) (cell : CellView) → (resized_surface surface area rows columns cell).rows ≡ rows
unfolding resized_surface
resized_rows surface area rows columns cell = refl

resized_columns : (surface : SurfaceView) (area : Area) (rows columns : ℕ) (cell : CellView) → (resized_surface surface area rows columns cell).columns ≡ columns
unfolding resized_surface
resized_columns surface area rows columns cell = refl

-- the frames of a desk with one window at another size
window_changed : (d : DeskView) (surfaces : List SurfaceView) (i : ℕ) (w : WindowView) → IsDesk d → i < length d.windows → has_children (window_at d i).frame.number d.windows ≡ false → w.frame.number ≡ (window_at d i).frame.number → w.frame.parent ≡ (window_at d i).frame.parent → w.frame.surface ≡ (window_at d i).frame.surface
    → IsPlaced d.rows d.columns (size_on surfaces) w.frame → ((k : ℕ) → k < length d.windows → k ≢ i → size_on surfaces (window_at d k).frame.surface ≡ size_on d.surfaces (window_at d k).frame.surface) → HasParent (map frame_of d.windows) w.frame
    → AreFrames d.rows d.columns (size_on surfaces) d.made (map frame_of (slice_set d.windows i w))
window_changed d surfaces i w h l alone same same_parent same_surface on sizes parent =
    let frames : List Frame = map frame_of d.windows in
    let many : length frames ≡ length d.windows = length_map frame_of d.windows in
    let at : get_or frames i no_frame ≡ (window_at d i).frame = get_or-map frame_of d.windows i no_window no_frame l in
    let P : List Frame → Type 0 = λ fs. AreFrames d.rows d.columns (size_on surfaces) d.made fs in
    let Q : ℕ → Type 0 = λ n. All (λ (g : Frame). is_number n g.parent ≡ false) frames in
    subst P (sym (map-set frame_of d.windows i w))
    (frame_changed d.rows d.columns (size_on d.surfaces) (size_on surfaces) d.made frames i w.frame h.frames (omega (arith, many)) (same ∙ sym (ap frame_number at)) (same_parent ∙ sym (ap (λ (f : Frame). f.parent) at)) (same_surface ∙ sym (ap (λ (f : Frame). f.surface) at)) on
    (λ k b other. still (window_at d k).frame (get_or frames k no_frame) (get_or-map frame_of d.windows k no_window no_frame (omega (arith, many))) (sizes k (omega (arith, many)) other) (h.frames.placed k no_frame b)) parent
    (subst Q (sym same) (childless d (window_at d i).frame.number alone)))
  where
    still : (g f : Frame) → f ≡ g → size_on surfaces g.surface ≡ size_on d.surfaces g.surface → IsPlaced d.rows d.columns (size_on d.surfaces) f → IsPlaced d.rows d.columns (size_on surfaces) f
    still g f e size p =
        let here : size_on surfaces f.surface ≡ size_on d.surfaces f.surface = ap (λ (x : Frame). size_on surfaces x.surface) e ∙ size ∙ ap (λ (x : Frame). size_on d.surfaces x.surface) (sym e) in
        record { some_rows = p.some_rows; some_columns = p.some_columns; below = omega (arith, p.below, ap (λ (s : ℕ × ℕ). s.0) here); right = omega (arith, p.right, ap (λ (s : ℕ × ℕ). s.1) here); origin = p.origin }

-- a window with cells of its own at another size
root_is_desk : SurfaceLaws → (d : DeskView) (i rows columns : ℕ) → IsDesk d → i < length d.windows → (window_at d i).frame.parent ≡ None → has_children (window_at d i).frame.number d.windows ≡ false
    → IsRootPlace d rows columns (window_at d i).frame.origin → IsDesk (with_root_size d i rows columns)
root_is_desk laws d i rows columns h l root alone on =
    let w : WindowView = window_at d i in
    let p = placed d i h l in
    let s : SurfaceView = surface_at d w.frame.surface in
    let new : SurfaceView = resized_surface s w.frame.area rows columns w.state.background in
    let frames : List Frame = map frame_of d.windows in
    let many : length frames ≡ length d.windows = length_map frame_of d.windows in
    let at : get_or frames i no_frame ≡ w.frame = get_or-map frame_of d.windows i no_window no_frame l in
    let surfaces : List SurfaceView = slice_set d.surfaces w.frame.surface new in
    let there : get_or surfaces w.frame.surface no_surface ≡ new = get_or-set_same d.surfaces w.frame.surface new no_surface p.surface in
    let tall : (size_on surfaces w.frame.surface).0 ≡ rows = ap (λ (v : SurfaceView). v.rows) there ∙ resized_rows s w.frame.area rows columns w.state.background in
    let wide : (size_on surfaces w.frame.surface).1 ≡ columns = ap (λ (v : SurfaceView). v.columns) there ∙ resized_columns s w.frame.area rows columns w.state.background in
    let N : Option ℕ → Type 0 = λ o. MatchOption o (Unit {0}) (λ number. (k : ℕ) × (k < length frames) × ((get_or frames k no_frame).number ≡ number) × IsChild (record w.frame { area = whole_area rows columns }) (get_or frames k no_frame)) in
    record {
      size = h.size;
      made = h.made;
      surfaces = All-set IsSurface d.surfaces w.frame.surface new (laws.resized s w.frame.area rows columns w.state.background on.size) h.surfaces;
      windows = All-set IsWindow d.windows i _ (resized_is_window (whole_area rows columns) w p.window on.size.some_rows on.size.some_columns) h.windows;
      frames = window_changed d surfaces i (resized (whole_area rows columns) w) h l alone refl refl refl
          (record { some_rows = on.size.some_rows; some_columns = on.size.some_columns; below = omega (arith, tall); right = omega (arith, wide); origin = on.on_screen })
          (λ k b other. ap (λ (v : SurfaceView). (v.rows, v.columns)) (get_or-set_other d.surfaces w.frame.surface (window_at d k).frame.surface new no_surface (alone_desk d i h l root alone k b other)))
          (subst N (sym root) tt);
    }

-- the desk after a window with cells of its own got another size
pub root_path : (d old : DeskView) (i : ℕ) (w m : WindowView) (frame : Frame) (s t : SurfaceView) (rows columns : ℕ)
    → Draws d old i w frame → Reads d.surfaces frame.surface s → m ≡ resized (whole_area rows columns) w → t ≡ resized_surface s frame.area rows columns w.state.background
    → record d { surfaces = slice_set d.surfaces frame.surface t; windows = slice_set d.windows i m } ≡ with_root_size d i rows columns
root_path d old i w m frame s t rows columns h r m_is t_is =
    let at : w ≡ window_at d i = reads_window d i w h.window (here_too d old i h.is h.here) in
    let frames : frame ≡ (window_at d i).frame = frame_path d old i w frame h in
    let surface : s ≡ surface_at d (window_at d i).frame.surface = surface_path d old i w frame s h r in
    let cells : t ≡ resized_surface (surface_at d (window_at d i).frame.surface) (window_at d i).frame.area rows columns (window_at d i).state.background
    = t_is ∙ (λ j. resized_surface (surface j) (frames j).area rows columns (at j).state.background) in
    let windows = m_is ∙ ap (resized (whole_area rows columns)) at in
    (λ j. record d { surfaces = slice_set d.surfaces (frames j).surface (cells j); windows = slice_set d.windows i (windows j) })

-- what the code knows of the window that gets another size
pub root_set : SurfaceLaws → (d old : DeskView) (i : ℕ) (w m : WindowView) (frame : Frame) (s t : SurfaceView) (rows columns : ℕ)
    → Draws d old i w frame → Reads d.surfaces frame.surface s → m ≡ resized (whole_area rows columns) w → t ≡ resized_surface s frame.area rows columns w.state.background
    → (window_at old i).frame.parent ≡ None → has_children (window_at old i).frame.number old.windows ≡ false → IsRootPlace old rows columns (window_at old i).frame.origin
    → IsDesk (record d { surfaces = slice_set d.surfaces frame.surface t; windows = slice_set d.windows i m })
root_set laws d old i w m frame s t rows columns h r m_is t_is root alone on =
    let P : DeskView → Type 0 = λ v. IsDesk v in
    let Q : DeskView → Type 0 = λ v. ((window_at v i).frame.parent ≡ None) × (has_children (window_at v i).frame.number v.windows ≡ false) × IsRootPlace v rows columns (window_at v i).frame.origin in
    let known = subst Q (sym h.is) (root, alone, on) in
    subst P (sym (root_path d old i w m frame s t rows columns h r m_is t_is)) (root_is_desk laws d i rows columns h.desk (here_too d old i h.is h.here) known.0 known.1 known.2)

-- what ends inside its parent's place on the screen
ending : (rows columns : ℕ) (o a : Option (ℕ × ℕ)) (old area within : Area) → IsInsideOnScreen o old a within → ends_inside o area a within ≡ true
    → MatchOption a (Unit {0}) (λ place. (place.0 + within.rows ≤ rows) × (place.1 + within.columns ≤ columns))
    → MatchOption o (Unit {0}) (λ place. (place.0 + area.rows ≤ rows) × (place.1 + area.columns ≤ columns)) × IsInsideOnScreen o area a within
ending rows columns None None old area within i e on = (tt, tt)
ending rows columns None (Some above) old area within i e on = absurd i
ending rows columns (Some place) None old area within i e on = absurd i
ending rows columns (Some place) (Some above) old area within i e on =
    let b = both_tell (place.0 + area.rows) (above.0 + within.rows) (place.1 + area.columns) (above.1 + within.columns) e in
    ((omega (arith, b.0, on.0), omega (arith, b.1, on.1)), (i.0, b.0, i.2, b.1))
  where
    both_tell : (a b c d : ℕ) → (leb a b && leb c d) ≡ true → (a ≤ b) × (c ≤ d)
    both_tell a b c d e = (grind (arith, nat_tests), grind (arith, nat_tests))

-- an area of a subwindow that keeps its first place, inside its parent's
record IsPlaceInParent (desk : DeskView) (i k : ℕ) (area : Area) : Type 0 where
  pub some_rows : 1 ≤ area.rows
  pub some_columns : 1 ≤ area.columns
  pub top : area.top ≡ (window_at desk i).frame.area.top
  pub left : area.left ≡ (window_at desk i).frame.area.left
  pub below : area.top + area.rows ≤ (window_at desk k).frame.area.top + (window_at desk k).frame.area.rows
  pub right : area.left + area.columns ≤ (window_at desk k).frame.area.left + (window_at desk k).frame.area.columns
  pub on_screen : ends_inside (window_at desk i).frame.origin area (window_at desk k).frame.origin (window_at desk k).frame.area ≡ true

-- a subwindow at another size
sub_is_desk : (d : DeskView) (i k : ℕ) (area : Area) → IsDesk d → i < length d.windows → k < length d.windows → (window_at d i).frame.parent ≡ Some (window_at d k).frame.number → has_children (window_at d i).frame.number d.windows ≡ false
    → IsPlaceInParent d i k area → IsDesk (with_window d i (resized area (window_at d i)))
sub_is_desk d i k area h l m parent alone on =
    let w : WindowView = window_at d i in
    let p = placed d i h l in
    let q = placed d k h m in
    let frames : List Frame = map frame_of d.windows in
    let many : length frames ≡ length d.windows = length_map frame_of d.windows in
    let at : get_or frames i no_frame ≡ w.frame = get_or-map frame_of d.windows i no_window no_frame l in
    let above : get_or frames k no_frame ≡ (window_at d k).frame = get_or-map frame_of d.windows k no_window no_frame m in
    let child : IsChild w.frame (window_at d k).frame = child_of d (window_at d k).frame.number i k h l m parent refl in
    let ends = ending d.rows d.columns w.frame.origin (window_at d k).frame.origin w.frame.area area (window_at d k).frame.area child.on_screen on.on_screen q.origin in
    let frame : Frame = record w.frame { area = area } in
    let sizes : size_on d.surfaces w.frame.surface ≡ size_on d.surfaces (window_at d k).frame.surface = ap (size_on d.surfaces) child.surface in
    let mine : IsChild frame (window_at d k).frame = record { later = child.later; surface = child.surface; above = omega (arith, child.above, on.top); below = on.below; left = omega (arith, child.left, on.left); right = on.right; on_screen = ends.1 } in
    let C : Frame → Type 0 = λ f. IsChild frame f in
    let N : Option ℕ → Type 0 = λ o. MatchOption o (Unit {0}) (λ number. (n : ℕ) × (n < length frames) × ((get_or frames n no_frame).number ≡ number) × IsChild frame (get_or frames n no_frame)) in
    record {
      size = h.size;
      made = h.made;
      surfaces = h.surfaces;
      windows = All-set IsWindow d.windows i _ (resized_is_window area w p.window on.some_rows on.some_columns) h.windows;
      frames = window_changed d d.surfaces i (resized area w) h l alone refl refl refl
          (record { some_rows = on.some_rows; some_columns = on.some_columns; below = omega (arith, on.below, q.part.below, ap (λ (s : ℕ × ℕ). s.0) sizes); right = omega (arith, on.right, q.part.right, ap (λ (s : ℕ × ℕ). s.1) sizes); origin = ends.0 })
          (λ n b other. refl)
          (subst N (sym parent) (k, omega (arith, many), ap frame_number above, subst C (sym above) mine));
    }

-- an area that was found in the parent's
area_found : (d : DeskView) (i k : ℕ) (frame parent : Frame) (area : Area) (rows columns : ℕ) → IsDesk d → i < length d.windows → k < length d.windows → (window_at d i).frame.parent ≡ Some (window_at d k).frame.number
    → frame ≡ (window_at d i).frame → parent ≡ (window_at d k).frame → part_of parent.area rows columns (frame.area.top - parent.area.top) (frame.area.left - parent.area.left) ≡ Some area
    → ends_inside frame.origin area parent.origin parent.area ≡ true → IsPlaceInParent d i k area
area_found d i k frame parent area rows columns h l m above frame_is parent_is found ends =
    let child : IsChild (window_at d i).frame (window_at d k).frame = child_of d (window_at d k).frame.number i k h l m above refl in
    let P : Frame → Frame → Type 0 = λ f g. (part_of g.area rows columns (f.area.top - g.area.top) (f.area.left - g.area.left) ≡ Some area) × (ends_inside f.origin area g.origin g.area ≡ true) in
    let known = subst (λ f. P f (window_at d k).frame) frame_is (subst (P frame) parent_is (found, ends)) in
    let a = part_tells (window_at d k).frame.area area rows columns _ _ known.0 in
    record {
      some_rows = a.2;
      some_columns = a.3;
      top = omega (arith, a.0, child.above);
      left = omega (arith, a.1, child.left);
      below = omega (arith, a.0, a.4);
      right = omega (arith, a.1, a.5);
      on_screen = known.1;
    }

-- what the code knows of the subwindow that gets another size
pub area_set : (d old : DeskView) → d ≡ old → (i k : ℕ) (w m : WindowView) (frame parent : Frame) (area : Area) (rows columns row column : ℕ) → IsDesk d → i < length old.windows → k < length old.windows → Reads d.windows i w → m ≡ resized area w
    → (window_at old i).frame.parent ≡ Some (window_at old k).frame.number → has_children (window_at old i).frame.number old.windows ≡ false → frame ≡ (window_at old i).frame → parent ≡ (window_at old k).frame
    → row ≡ frame.area.top - parent.area.top → column ≡ frame.area.left - parent.area.left → part_of parent.area rows columns row column ≡ Some area → ends_inside frame.origin area parent.origin parent.area ≡ true → IsDesk (with_window d i m)
area_set d old is i k w m frame parent area rows columns row column h l there reads m_is above alone frame_is parent_is row_is column_is found ends =
    let here : i < length d.windows = here_too d old i is l in
    let P : DeskView → Type 0 = λ v. ((window_at v i).frame.parent ≡ Some (window_at v k).frame.number) × (has_children (window_at v i).frame.number v.windows ≡ false) × (frame ≡ (window_at v i).frame) × (parent ≡ (window_at v k).frame) in
    let known = subst P (sym is) (above, alone, frame_is, parent_is) in
    let on = area_found d i k frame parent area rows columns h here (here_too d old k is there) known.0 known.2 known.3 ((λ j. part_of parent.area rows columns (sym row_is j) (sym column_is j)) ∙ found) ends in
    let Q : WindowView → Type 0 = λ x. IsDesk (with_window d i x) in
    subst Q (sym (m_is ∙ ap (resized area) (reads_window d i w reads here))) (sub_is_desk d i k area h here (here_too d old k is there) known.0 known.1 on)

-- the area has a place
pub has_place : (area part : Area) (rows columns row column : ℕ) → part_of area rows columns row column ≡ Some part → (1 ≤ part.rows) × (1 ≤ part.columns)
has_place area part rows columns row column e = let a = part_tells area part rows columns row column e in (a.2, a.3)
