-- A subwindow more keeps a desk one.
use Rattle.std.proofs.Common.{◌≡◌, ◌⊎◌, inl, inr, ℕ, ◌+◌, ◌-◌, ◌<◌, ◌≤◌, sym, subst, ◌∙◌, ap, refl, arith, List, [], ◌∷◌, ◌++◌, length, map, get_or, Option, None, Some, Bool, true, false, cond, leb, ◌==◌, ◌&&◌}
use Rattle.scr_cells.specs.CellViews.{blank_cell}
use Rattle.scr_cells.specs.PictureViews.{IsSize}
use Rattle.std.specs.Prelude.{All, MatchOption}
use Rattle.std.specs.Option.{is_some}
use Rattle.std.proofs.lemmas.List.Elements.{All-push}
use Rattle.std.proofs.lemmas.List.{get_or-map, map-append, length-append}
use Rattle.std.proofs.Math.ListN.{get_or-append}
use Rattle.std.proofs.Math.Seq.{get_or-append_seam}
use Rattle.std.proofs.lemmas.Bool.Decides.{nat_tests}
use Rattle.scr_windows.specs.declared.surfaces.areas.Area.{Area}
use Rattle.scr_windows.specs.declared.frames.Frame.{Frame}
use Rattle.scr_windows.specs.declared.frames.WindowState.{WindowState}
use Rattle.scr_windows.specs.Surfaces.SurfaceViews.{SurfaceView, IsSurface, blank_surface}
use Rattle.scr_windows.specs.DeskViews.{no_attributes, WindowView, DeskView, HaveOwn, IsWindow, IsPlaced, IsChild, IsInsideOnScreen, AreFrames, IsDesk, IsThere, window_at, no_window, no_frame, fresh_window, size_on}
use Rattle.std.proofs.lemmas.List.Quantifiers.{all_pairs_push}
use Rattle.scr_windows.proofs.SizeLaws.{is_surface_there, size_last, size_more}
use Rattle.scr_windows.specs.Code.NewFrames.{IsRootPlace, IsChildPlace}
use Rattle.scr_windows.specs.Calls.Making.{with_root, root_frame, screen_area, part_of}
use Rattle.scr_windows.specs.Calls.Subwindows.{child_frame, with_child}
use Rattle.scr_windows.proofs.DeskLaws.{Reads, reads_window, here_too, placed, length_map, frame_of}
use Rattle.scr_windows.proofs.MakingLaws.{fresh_is_window, screen_is_size}
use Rattle.scr_windows.specs.Surfaces.SurfaceLaws.{SurfaceLaws}

less_or_last : (k n : ℕ) → k < n + 1 → (k < n) ⊎ (k ≡ n)
less_or_last k n h = grind arith

-- the parent of a frame is among these
abbrev HasParent : List Frame → Frame → Type 0
HasParent frames frame = MatchOption frame.parent (Unit {0}) (λ number. (k : ℕ) × (k < length frames) × ((get_or frames k no_frame).number ≡ number) × IsChild frame (get_or frames k no_frame))

more_parents : (frames : List Frame) (last frame : Frame) → HasParent frames frame → HasParent (frames ++ last ∷ []) frame
more_parents frames last frame h = carried frame.parent h
  where
    carried : (o : Option ℕ) → MatchOption o (Unit {0}) (λ number. (k : ℕ) × (k < length frames) × ((get_or frames k no_frame).number ≡ number) × IsChild frame (get_or frames k no_frame))
        → MatchOption o (Unit {0}) (λ number. (k : ℕ) × (k < length (frames ++ last ∷ [])) × ((get_or (frames ++ last ∷ []) k no_frame).number ≡ number) × IsChild frame (get_or (frames ++ last ∷ []) k no_frame))
    carried None h = tt
    carried (Some number) h =
        let k : ℕ = h.0 in
        let same : get_or (frames ++ last ∷ []) k no_frame ≡ get_or frames k no_frame = get_or-append frames (last ∷ []) no_frame k h.1 in
        let q : (get_or (frames ++ last ∷ []) k no_frame).number ≡ number = ap (λ (f : Frame). f.number) same ∙ h.2 in
        let Q : Frame → Type 0 = λ f. IsChild frame f in
        (k, omega (arith, length-append frames (last ∷ []), h.1), q, subst Q (sym same) h.3)

last_ascends : (frames : List Frame) (last : Frame) → ((i j : ℕ) → i < j → j < length frames → (get_or frames i no_frame).number < (get_or frames j no_frame).number)
    → ((k : ℕ) → k < length frames → (get_or frames k no_frame).number < last.number)
    → (i j : ℕ) → i < j → j < length (frames ++ last ∷ []) → (get_or (frames ++ last ∷ []) i no_frame).number < (get_or (frames ++ last ∷ []) j no_frame).number
last_ascends frames last h l i j less in_all =
    let few : j < length frames + 1 = omega (arith, length-append frames (last ∷ [])) in
    elim (less_or_last j (length frames) few) [
      | inl b ↦ (let e : get_or (frames ++ last ∷ []) i no_frame ≡ get_or frames i no_frame = get_or-append frames (last ∷ []) no_frame i (omega arith) in
          let f : get_or (frames ++ last ∷ []) j no_frame ≡ get_or frames j no_frame = get_or-append frames (last ∷ []) no_frame j b in
          omega (arith, h i j less b, ap (λ (f : Frame). f.number) e, ap (λ (f : Frame). f.number) f))
      | inr b ↦ (let e : get_or (frames ++ last ∷ []) i no_frame ≡ get_or frames i no_frame = get_or-append frames (last ∷ []) no_frame i (omega arith) in
          let f : get_or (frames ++ last ∷ []) j no_frame ≡ last = ap (λ k. get_or (frames ++ last ∷ []) k no_frame) b ∙ get_or-append_seam frames last [] no_frame in
          omega (arith, l i (omega arith), ap (λ (f : Frame). f.number) e, ap (λ (f : Frame). f.number) f))
    ]

frames_more : (rows columns : ℕ) (sizes : ℕ → ℕ × ℕ) (made : ℕ) (frames : List Frame) (last : Frame) → AreFrames rows columns sizes made frames → length frames < 1000
    → IsPlaced rows columns sizes last → All (λ (f : Frame). HaveOwn f last) frames → last.number ≡ made + 1 → HasParent frames last → AreFrames rows columns sizes (made + 1) (frames ++ last ∷ [])
frames_more rows columns sizes made frames last h few p own number parent = record {
  few = omega (arith, length-append frames (last ∷ []));
  placed = All-push (IsPlaced rows columns sizes) frames last h.placed p;
  numbers = All-push (λ (frame : Frame). frame.number ≤ made + 1) frames last (λ k d l. omega (arith, h.numbers k d l)) (omega (arith, number));
  ascending = last_ascends frames last h.ascending (λ k l. omega (arith, h.numbers k no_frame l, number));
  own = all_pairs_push HaveOwn frames last h.own own;
  parents = All-push (HasParent (frames ++ last ∷ [])) frames last (λ k d l. more_parents frames last (get_or frames k d) (h.parents k d l)) (more_parents frames last last parent);
}

pub child_is_desk : (d : DeskView) (i : ℕ) (area : Area) (origin : Option (ℕ × ℕ)) → IsDesk d → i < length d.windows → length d.windows < 1000 → d.made < 4294967295
    → IsChildPlace d i area origin → IsDesk (with_child d i area origin)
child_is_desk d i area origin h l few made inside =
    let p = placed d i h l in
    let parent : Frame = (window_at d i).frame in
    let frame : Frame = child_frame d i area origin in
    let frames : List Frame = map frame_of d.windows in
    let many : length frames ≡ length d.windows = length_map frame_of d.windows in
    let at : get_or frames i no_frame ≡ parent = get_or-map frame_of d.windows i no_window no_frame l in
    let older : parent.number ≤ d.made = (let P : Frame → Type 0 = λ f. f.number ≤ d.made in subst P at (h.frames.numbers i no_frame (omega (arith, many)))) in
    let on : IsPlaced d.rows d.columns (size_on d.surfaces) parent = (let P : Frame → Type 0 = λ f. IsPlaced d.rows d.columns (size_on d.surfaces) f in subst P at (h.frames.placed i no_frame (omega (arith, many)))) in
    let child : IsChild frame parent = record { later = omega arith; surface = refl; above = inside.above; below = inside.below; left = inside.left; right = inside.right; on_screen = inside.in_parent } in
    let C : Frame → Type 0 = λ f. IsChild frame f in
    record {
      size = h.size;
      made = omega arith;
      surfaces = h.surfaces;
      windows = All-push IsWindow d.windows _ h.windows (fresh_is_window frame (window_at d i).state.attrs (window_at d i).state.pair (window_at d i).state.background (h.windows i no_window l).state.pair inside.some_rows inside.some_columns);
      frames = (let P : List Frame → Type 0 = λ fs. AreFrames d.rows d.columns (size_on d.surfaces) (d.made + 1) fs in
          subst P (sym (map-append frame_of d.windows _)) (frames_more d.rows d.columns (size_on d.surfaces) d.made frames frame h.frames (omega (arith, many))
          (record { some_rows = inside.some_rows; some_columns = inside.some_columns; below = omega (arith, on.below, inside.below); right = omega (arith, on.right, inside.right); origin = inside.on_screen })
          (λ k d l none_f none. absurd (let z : ⊥ = (cc) in z)) refl
          (i, omega (arith, many), ap (λ (f : Frame). f.number) at, subst C (sym at) child)));
    }

-- what the code knows when the subwindow is there
pub child_added : (d old : DeskView) → d ≡ old → (i : ℕ) (w new : WindowView) (above : Frame) (state : WindowState) (ws : List WindowView) (area : Area) (origin : Option (ℕ × ℕ)) → IsDesk d → i < length old.windows
    → IsChildPlace old i area origin → Reads d.windows i w → above ≡ w.frame → state ≡ w.state
    → new ≡ fresh_window (record { number = d.made + 1; surface = above.surface; area = area; parent = Some above.number; origin = origin }) state.attrs state.pair state.background
    → ws ≡ d.windows ++ new ∷ [] → length d.windows < 1000 → d.made < 4294967295 → IsDesk (record d { windows = ws; made = d.made + 1 })
child_added d old is i w new above state ws area origin h l inside reads frame_is state_is new_is ws_is few made =
    let here : i < length d.windows = here_too d old i is l in
    let at : w ≡ window_at d i = reads_window d i w reads here in
    let frames : above ≡ (window_at d i).frame = frame_is ∙ ap frame_of at in
    let states : state ≡ (window_at d i).state = state_is ∙ ap (λ (v : WindowView). v.state) at in
    let I : DeskView → Type 0 = λ v. IsChildPlace v i area origin in
    let there : IsChildPlace d i area origin = subst I (sym is) inside in
    let fresh : new ≡ fresh_window (child_frame d i area origin) (window_at d i).state.attrs (window_at d i).state.pair (window_at d i).state.background
    = new_is ∙ (λ j. fresh_window (record { number = d.made + 1; surface = (frames j).surface; area = area; parent = Some (frames j).number; origin = origin }) (states j).attrs (states j).pair (states j).background) in
    let whole : record d { windows = ws; made = d.made + 1 } ≡ with_child d i area origin = (λ j. record d { windows = (ws_is ∙ ap (λ v. d.windows ++ v ∷ []) fresh) j; made = d.made + 1 }) in
    let P : DeskView → Type 0 = λ v. IsDesk v in
    subst P (sym whole) (child_is_desk d i area origin h here few made there)

test_tells : (t : Bool) (v b : Area) → cond t (Some v) None ≡ Some b → (t ≡ true) × (v ≡ b)
test_tells true v b e = (refl, (cc))
test_tells false v b e = absurd (let z : ⊥ = (cc) in z)

bounds_tell : (r c row column rows columns : ℕ) → (leb 1 r && leb 1 c && leb (row + r) rows && leb (column + c) columns) ≡ true → (1 ≤ r) × (1 ≤ c) × (row + r ≤ rows) × (column + c ≤ columns)
bounds_tell r c row column rows columns t = (grind (arith, nat_tests), grind (arith, nat_tests), grind (arith, nat_tests), grind (arith, nat_tests))

-- a part of an area begins at the place, has a place and lies inside
pub part_tells : (area part : Area) (rows columns row column : ℕ) → part_of area rows columns row column ≡ Some part
    → (part.top ≡ area.top + row) × (part.left ≡ area.left + column) × (1 ≤ part.rows) × (1 ≤ part.columns) × (row + part.rows ≤ area.rows) × (column + part.columns ≤ area.columns)
unfolding part_of
part_tells area part rows columns row column e =
    let r : ℕ = cond (rows == 0) (area.rows - row) rows in
    let c : ℕ = cond (columns == 0) (area.columns - column) columns in
    let v : Area = record { top = area.top + row; left = area.left + column; rows = r; columns = c } in
    let w = test_tells (leb 1 r && leb 1 c && leb (row + r) area.rows && leb (column + c) area.columns) v part e in
    let b = bounds_tell r c row column area.rows area.columns w.0 in
    let rows_is : r ≡ part.rows = ap (λ (a : Area). a.rows) w.1 in
    let columns_is : c ≡ part.columns = ap (λ (a : Area). a.columns) w.1 in
    (sym (ap (λ (a : Area). a.top) w.1), sym (ap (λ (a : Area). a.left) w.1), omega (arith, b.0), omega (arith, b.1), omega (arith, b.2), omega (arith, b.3))

pub derived_place : (d : DeskView) (i : ℕ) (frame : Frame) (origin : ℕ × ℕ) (part : Area) (rows columns row column : ℕ) → IsThere d i → frame ≡ (window_at d i).frame → frame.origin ≡ Some origin
    → part_of frame.area rows columns row column ≡ Some part → IsChildPlace d i part (Some (origin.0 + row, origin.1 + column))
derived_place d i frame origin part rows columns row column p frame_is origin_is part_is =
    let a = part_tells frame.area part rows columns row column part_is in
    let tops : frame.area.top ≡ (window_at d i).frame.area.top = ap (λ (f : Frame). f.area.top) frame_is in
    let lefts : frame.area.left ≡ (window_at d i).frame.area.left = ap (λ (f : Frame). f.area.left) frame_is in
    let heights : frame.area.rows ≡ (window_at d i).frame.area.rows = ap (λ (f : Frame). f.area.rows) frame_is in
    let widths : frame.area.columns ≡ (window_at d i).frame.area.columns = ap (λ (f : Frame). f.area.columns) frame_is in
    let P : Option (ℕ × ℕ) → Type 0 = λ o. MatchOption o (Unit {0}) (λ place. (place.0 + (window_at d i).frame.area.rows ≤ d.rows) × (place.1 + (window_at d i).frame.area.columns ≤ d.columns)) in
    let on : (origin.0 + (window_at d i).frame.area.rows ≤ d.rows) × (origin.1 + (window_at d i).frame.area.columns ≤ d.columns) = subst P (sym (ap (λ (f : Frame). f.origin) frame_is) ∙ origin_is) p.origin in
    record {
      some_rows = a.2;
      some_columns = a.3;
      above = omega (arith, a.0);
      below = omega (arith, a.0, a.4);
      left = omega (arith, a.1);
      right = omega (arith, a.1, a.5);
      on_screen = (omega (arith, on.0, a.4), omega (arith, on.1, a.5));
      in_parent = (let Q : Option (ℕ × ℕ) → Type 0 = λ o. IsInsideOnScreen (Some (origin.0 + row, origin.1 + column)) part o (window_at d i).frame.area in
          subst Q (sym (sym (ap (λ (f : Frame). f.origin) frame_is) ∙ origin_is)) (omega arith, omega (arith, a.4, heights), omega arith, omega (arith, a.5, widths)));
    }

-- a window that has no place on the screen
pub no_origin : (o : Option (ℕ × ℕ)) → is_some o ≡ false → o ≡ None
no_origin None e = refl
no_origin (Some p) e = absurd (let z : ⊥ = (cc) in z)

-- the same of a pad
pub divided_place : (d : DeskView) (i : ℕ) (frame : Frame) (part : Area) (rows columns row column : ℕ) → frame ≡ (window_at d i).frame → frame.origin ≡ None
    → part_of frame.area rows columns row column ≡ Some part → IsChildPlace d i part None
divided_place d i frame part rows columns row column frame_is pad part_is =
    let a = part_tells frame.area part rows columns row column part_is in
    let tops : frame.area.top ≡ (window_at d i).frame.area.top = ap (λ (f : Frame). f.area.top) frame_is in
    let lefts : frame.area.left ≡ (window_at d i).frame.area.left = ap (λ (f : Frame). f.area.left) frame_is in
    let heights : frame.area.rows ≡ (window_at d i).frame.area.rows = ap (λ (f : Frame). f.area.rows) frame_is in
    let widths : frame.area.columns ≡ (window_at d i).frame.area.columns = ap (λ (f : Frame). f.area.columns) frame_is in
    record {
      some_rows = a.2;
      some_columns = a.3;
      above = omega (arith, a.0);
      below = omega (arith, a.0, a.4);
      left = omega (arith, a.1);
      right = omega (arith, a.1, a.5);
      on_screen = tt;
      in_parent = (let Q : Option (ℕ × ℕ) → Type 0 = λ o. IsInsideOnScreen None part o (window_at d i).frame.area in subst Q (sym (sym (ap (λ (f : Frame). f.origin) frame_is) ∙ pad)) tt);
    }

-- a window that is placed is on a surface that is there
before_last : (rows columns : ℕ) (surfaces : List SurfaceView) (frame : Frame) → IsPlaced rows columns (size_on surfaces) frame → frame.surface < length surfaces
before_last rows columns surfaces frame p = is_surface_there surfaces frame.surface (omega (arith, p.some_rows, p.below))

-- a surface more: each window stays on its own
placed_still : (rows columns : ℕ) (surfaces : List SurfaceView) (last : SurfaceView) (frame : Frame) → IsPlaced rows columns (size_on surfaces) frame → IsPlaced rows columns (size_on (surfaces ++ last ∷ [])) frame
placed_still rows columns surfaces last frame p =
    let same : size_on (surfaces ++ last ∷ []) frame.surface ≡ size_on surfaces frame.surface = size_more surfaces last frame.surface (before_last rows columns surfaces frame p) in
    record {
      some_rows = p.some_rows;
      some_columns = p.some_columns;
      below = omega (arith, p.below, ap (λ (s : ℕ × ℕ). s.0) same);
      right = omega (arith, p.right, ap (λ (s : ℕ × ℕ). s.1) same);
      origin = p.origin;
    }

pub root_is_desk : SurfaceLaws → (d : DeskView) (rows columns : ℕ) (origin : Option (ℕ × ℕ)) → IsDesk d → length d.windows < 1000 → d.made < 4294967295 → IsRootPlace d rows columns origin → IsDesk (with_root d rows columns origin)
root_is_desk laws d rows columns origin h few made on =
    let frame : Frame = root_frame d rows columns origin in
    let frames : List Frame = map frame_of d.windows in
    let many : length frames ≡ length d.windows = length_map frame_of d.windows in
    let next : SurfaceView = blank_surface rows columns in
    let surfaces : List SurfaceView = d.surfaces ++ next ∷ [] in
    let last : size_on surfaces (length d.surfaces) ≡ (rows, columns) = size_last d.surfaces next in
    let still : AreFrames d.rows d.columns (size_on surfaces) d.made frames = record {
      few = h.frames.few;
      placed = λ k e l. placed_still d.rows d.columns d.surfaces next (get_or frames k e) (h.frames.placed k e l);
      numbers = h.frames.numbers;
      ascending = h.frames.ascending;
      own = h.frames.own;
      parents = h.frames.parents;
    } in
    record {
      size = h.size;
      made = omega arith;
      surfaces = All-push IsSurface d.surfaces next h.surfaces (laws.blank rows columns on.size);
      windows = All-push IsWindow d.windows _ h.windows (fresh_is_window frame no_attributes 0 blank_cell (omega arith) on.size.some_rows on.size.some_columns);
      frames = (let P : List Frame → Type 0 = λ fs. AreFrames d.rows d.columns (size_on surfaces) (d.made + 1) fs in
          subst P (sym (map-append frame_of d.windows _)) (frames_more d.rows d.columns (size_on surfaces) d.made frames frame still (omega (arith, many))
          (record {
            some_rows = on.size.some_rows;
            some_columns = on.size.some_columns;
            below = omega (arith, ap (λ (s : ℕ × ℕ). s.0) last);
            right = omega (arith, ap (λ (s : ℕ × ℕ). s.1) last);
            origin = on.on_screen;
          })
          (λ k e b none none_last same. (let there = before_last d.rows d.columns d.surfaces (get_or frames k e) (h.frames.placed k e b) in omega (arith, there, same))) refl tt));
    }

pub root_added : SurfaceLaws → (d old : DeskView) → d ≡ old → (rows columns : ℕ) (origin : Option (ℕ × ℕ)) (surface : SurfaceView) (new : WindowView) (ss : List SurfaceView) (ws : List WindowView) → IsDesk d → IsRootPlace old rows columns origin
    → surface ≡ blank_surface rows columns → new ≡ fresh_window (root_frame d rows columns origin) no_attributes 0 blank_cell
    → ss ≡ d.surfaces ++ surface ∷ [] → ws ≡ d.windows ++ new ∷ [] → length d.windows < 1000 → d.made < 4294967295 → IsDesk (record d { surfaces = ss; windows = ws; made = d.made + 1 })
root_added laws d old is rows columns origin surface new ss ws h on surface_is new_is ss_is ws_is few made =
    let I : DeskView → Type 0 = λ v. IsRootPlace v rows columns origin in
    let whole : record d { surfaces = ss; windows = ws; made = d.made + 1 } ≡ with_root d rows columns origin
    = (λ j. record d { surfaces = (ss_is ∙ ap (λ v. d.surfaces ++ v ∷ []) surface_is) j; windows = (ws_is ∙ ap (λ v. d.windows ++ v ∷ []) new_is) j; made = d.made + 1 }) in
    let P : DeskView → Type 0 = λ v. IsDesk v in
    subst P (sym whole) (root_is_desk laws d rows columns origin h few made (subst I (sym is) on))

-- a part of the screen
pub screen_place : (d : DeskView) (screen part : Area) (rows columns row column : ℕ) → IsSize d.rows d.columns → screen ≡ screen_area d → part_of screen rows columns row column ≡ Some part → IsRootPlace d part.rows part.columns (Some (row, column))
screen_place d screen part rows columns row column size screen_is part_is =
    let a = part_tells screen part rows columns row column part_is in
    let heights : screen.rows ≡ d.rows = ap (λ (s : Area). s.rows) screen_is in
    let widths : screen.columns ≡ d.columns = ap (λ (s : Area). s.columns) screen_is in
    let fits : IsSize part.rows part.columns = record { some_rows = a.2; some_columns = a.3; few_rows = omega (arith, a.4, size.few_rows); few_columns = omega (arith, a.5, size.few_columns) } in
    record { size = screen_is_size part.rows part.columns fits; on_screen = (omega (arith, a.4), omega (arith, a.5)) }
