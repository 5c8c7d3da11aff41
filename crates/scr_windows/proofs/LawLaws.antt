-- The laws of desks.
use Rattle.std.proofs.Common.{◌≡◌, ◌≢◌, ◌⊎◌, inl, inr, ℕ, ◌+◌, ◌-◌, ◌<◌, sym, subst, ◌∙◌, ap, refl, arith, List, length, map, get_or, Option, None, Some, Bool, true, false, cond, leb, ◌==◌, ◌&&◌, Result, Ok, Err}
use Rattle.std.specs.Prelude.{MatchOption, not, slice_set}
use Rattle.std.proofs.lemmas.List.{get_or-map, get_or-set_other, get_or-set_same}
use Rattle.std.proofs.lemmas.List.Quantifiers.{position-Some}
use Rattle.scr_cells.specs.CellViews.{CellView}
use Rattle.scr_windows.specs.declared.surfaces.areas.Area.{Area}
use Rattle.scr_windows.specs.Surfaces.SurfaceLaws.{SurfaceLaws}
use Rattle.scr_windows.specs.Surfaces.SurfaceViews.{SurfaceView, cell_of, filled, inside_at}
use Rattle.scr_windows.specs.declared.faults.WinFault.{WinFault}
use Rattle.scr_windows.specs.declared.frames.Frame.{Frame}
use Rattle.scr_windows.specs.DeskViews.{AreAscending, WindowView, DeskView, IsChild, IsDesk, no_frame, no_surface, no_window, surface_at, window_at}
use Rattle.scr_windows.specs.Changes.{found, marked, on_window, index_of, write}
use Rattle.scr_windows.specs.Calls.Moving.{derived_moved, move_derived_call, move_window_call, moved_in, window_moved}
use Rattle.scr_windows.specs.Calls.Reading.{at}
use Rattle.scr_windows.specs.Calls.Removing.{deleted, has_children, let_go, moved_up, on_surface, others, without_surface, without_window}
use Rattle.scr_windows.specs.Laws.{DeletingKeepsOthers, IsKeptAt, MovingChangesNoCell, SubwindowsShareCells, WindowsArePlaced, WritingStaysInside}
use Rattle.scr_windows.proofs.DeskLaws.{desk_ascends, frame_of, length_map, number_of, placed}
use Rattle.scr_windows.proofs.FrameLaws.{reframed, was_found}
use Rattle.scr_windows.proofs.NumberLaws.{differs, equal, is_not, is_or_not, kept_in_filter, position_of}
use Rattle.scr_windows.proofs.RemovingLaws.{alone_desk, fewer_is_desk, frame_moved, left_apart, unshared_is_desk}
use Rattle.scr_windows.proofs.SizeLaws.{moved_same, surface_less}

-- a window that was found has the number
pub found_number : (d : DeskView) (number i : ℕ) → index_of d number ≡ Ok i → (i < length d.windows) × ((window_at d i).frame.number ≡ number)
found_number d number i e =
    let there = position-Some (λ (w : WindowView). w.frame.number == number) d.windows i no_window (was_found _ i e) in
    (there.0, equal _ number there.1)

pub placing : WindowsArePlaced
placing d number i h e = placed d i h (found_number d number i e).0

-- where a window of a number stands in a desk, it is found
found_in : (d : DeskView) (number m : ℕ) → IsDesk d → m < length d.windows → (window_at d m).frame.number ≡ number → index_of d number ≡ Ok m
found_in d number m h l e = ap found (position_of number_of d.windows number m no_window (desk_ascends d h) l e)

-- another window is kept when one goes, and is on the same surface
other_stays : (d : DeskView) (number other k : ℕ) → IsDesk d → has_children number d.windows ≡ false → other ≢ number → k < length d.windows → (window_at d k).frame.number ≡ other
    → (m : ℕ) × (m < length (others number d.windows)) × (window_at (without_window d number) m ≡ window_at d k)
other_stays d number other k h alone apart l e =
    let p : WindowView → Bool = λ w. not (w.frame.number == number) in
    kept_in_filter p d.windows k no_window l (ap not (is_not number (window_at d k).frame.number (λ same. apart (sym e ∙ same))))

-- the index of a surface after a window went, by the window's parent and surface
index_after : Option ℕ → ℕ → ℕ → ℕ
index_after None gone k = moved_up gone k
index_after (Some parent) gone k = k

-- where a window stands in the desk that is left, on which surface, and with which cells
abbrev Left : DeskView → Option ℕ → ℕ → ℕ → ℕ → DeskView → Type 0
Left d parent gone other k new =
    (m : ℕ) × (index_of new other ≡ Ok m) × (window_at new m ≡ on_surface (index_after parent gone (window_at d k).frame.surface) (window_at d k)) × ((r c : ℕ) → at new m r c ≡ at d k r c)

left_by : (d : DeskView) (i other k : ℕ) → IsDesk d → i < length d.windows → has_children (window_at d i).frame.number d.windows ≡ false → other ≢ (window_at d i).frame.number → k < length d.windows → (window_at d k).frame.number ≡ other
    → (o : Option ℕ) → (window_at d i).frame.parent ≡ o → Left d o (window_at d i).frame.surface other k (let_go (without_window d (window_at d i).frame.number) o (window_at d i).frame.surface)
unfolding index_after
left_by d i other k h l alone apart b n (Some parent) sub =
    let number : ℕ = (window_at d i).frame.number in
    let m = other_stays d number other k h alone apart b n in
    let new : DeskView = without_window d number in
    (m.0, found_in new other m.0 (fewer_is_desk d number h alone) m.1 (ap number_of m.2 ∙ n), m.2, λ r c. (λ j. inside_at (surface_at d (m.2 j).frame.surface) (m.2 j).frame.area r c))
left_by d i other k h l alone apart b n None root =
    let number : ℕ = (window_at d i).frame.number in
    let surface : ℕ = (window_at d i).frame.surface in
    let m = other_stays d number other k h alone apart b n in
    let fewer : DeskView = without_window d number in
    let new : DeskView = without_surface fewer surface in
    let moved : window_at new m.0 ≡ on_surface (moved_up surface (window_at d k).frame.surface) (window_at d k)
    = get_or-map (reframed (frame_moved surface)) fewer.windows m.0 no_window no_window m.1 ∙ ap (reframed (frame_moved surface)) m.2 in
    let desk : IsDesk new = unshared_is_desk fewer surface (fewer_is_desk d number h alone) (placed d i h l).surface (left_apart d i h l root alone) in
    let here : m.0 < length new.windows = omega (arith, m.1, length_map (reframed (frame_moved surface)) fewer.windows) in
    let away : (window_at d k).frame.surface ≢ surface = alone_desk d i h l root alone k b (λ same. apart (sym n ∙ ap (λ x. (window_at d x).frame.number) same)) in
    let cells : surface_at new (moved_up surface (window_at d k).frame.surface) ≡ surface_at d (window_at d k).frame.surface = surface_less d.surfaces surface (window_at d k).frame.surface (placed d i h l).surface away in (
      m.0,
      found_in new other m.0 desk here (ap number_of moved ∙ n),
      moved,
      λ r c. (λ j. inside_at (surface_at new (moved j).frame.surface) (moved j).frame.area r c) ∙ ap (λ (s : SurfaceView). inside_at s (window_at d k).frame.area r c) cells,
    )

-- what is known of a window that has no subwindows, and of another
record Others (d : DeskView) (number i other k : ℕ) : Type 0 where
  pub desk : IsDesk d
  pub gone : index_of d number ≡ Ok i
  pub alone : has_children number d.windows ≡ false
  pub apart : other ≢ number
  pub stays : index_of d other ≡ Ok k

left_alone : (d : DeskView) (number i other k : ℕ) → Others d number i other k → has_children (window_at d i).frame.number d.windows ≡ false
left_alone d number i other k h = (let P : ℕ → Type 0 = λ n. has_children n d.windows ≡ false in subst P (sym (found_number d number i h.gone).1) h.alone)

left : (d : DeskView) (number i other k : ℕ) → Others d number i other k → Left d (window_at d i).frame.parent (window_at d i).frame.surface other k (deleted d i)
left d number i other k h =
    let gone = found_number d number i h.gone in
    let stays = found_number d other k h.stays in
    left_by d i other k h.desk gone.0 (left_alone d number i other k h) (λ same. h.apart (same ∙ gone.1)) stays.0 stays.1 (window_at d i).frame.parent refl

kept : (d : DeskView) (number i other k : ℕ) → Others d number i other k → (m : ℕ) × (index_of (deleted d i) other ≡ Ok m) × IsKeptAt d (deleted d i) k m
kept d number i other k h =
    let at' = left d number i other k h in
    let surface : (window_at (deleted d i) at'.0).frame.surface ≡ index_after (window_at d i).frame.parent (window_at d i).frame.surface (window_at d k).frame.surface = ap (λ (w : WindowView). w.frame.surface) at'.2 in
    (at'.0, at'.1, record { window = at'.2 ∙ (λ j. on_surface (sym surface j) (window_at d k)); cells = at'.3 })

-- surfaces whose indices are the same afterwards were the same
after_same : (o : Option ℕ) (gone a b : ℕ) → (o ≡ None → a ≢ gone) → (o ≡ None → b ≢ gone) → index_after o gone a ≡ index_after o gone b → a ≡ b
unfolding index_after
after_same None gone a b h k same = moved_same gone a b (h refl) (k refl) same
after_same (Some parent) gone a b h k same = same

-- the surface of another window after it
surface_left : (d : DeskView) (number i other k m : ℕ) → Others d number i other k → index_of (deleted d i) other ≡ Ok m → (window_at (deleted d i) m).frame.surface ≡ index_after (window_at d i).frame.parent (window_at d i).frame.surface (window_at d k).frame.surface
surface_left d number i other k m h f =
    let at' = left d number i other k h in
    let same : m ≡ at'.0 = (let twice : Ok m ≡ Ok at'.0 = sym f ∙ at'.1 in (cc)) in
    ap (λ n. (window_at (deleted d i) n).frame.surface) same ∙ ap (λ (w : WindowView). w.frame.surface) at'.2

left_away : (d : DeskView) (number i other k : ℕ) → Others d number i other k → (window_at d i).frame.parent ≡ None → (window_at d k).frame.surface ≢ (window_at d i).frame.surface
left_away d number i other k h root =
    let gone = found_number d number i h.gone in
    let stays = found_number d other k h.stays in
    alone_desk d i h.desk gone.0 root (left_alone d number i other k h) k stays.0 (λ same. h.apart (sym stays.1 ∙ ap (λ x. (window_at d x).frame.number) same ∙ gone.1))

pub deleting : DeletingKeepsOthers
deleting = record {
  others = λ d number i other k h e alone apart f. kept d number i other k (record { desk = h; gone = e; alone = alone; apart = apart; stays = f });
  sharing = λ d number i one other k l m n h e alone a b f g p q.
      (let first : Others d number i one k = record { desk = h; gone = e; alone = alone; apart = a; stays = f } in
      let second : Others d number i other l = record { desk = h; gone = e; alone = alone; apart = b; stays = g } in
      let x = surface_left d number i one k m first p in
      let y = surface_left d number i other l n second q in (
        λ same. after_same (window_at d i).frame.parent (window_at d i).frame.surface (window_at d k).frame.surface (window_at d l).frame.surface (left_away d number i one k first) (left_away d number i other l second) (sym x ∙ same ∙ y),
        λ same. x ∙ ap (index_after (window_at d i).frame.parent (window_at d i).frame.surface) same ∙ sym y,
      ));
}

-- two indices of one number are one
pub one_index : (d : DeskView) → AreAscending d.windows → (m i : ℕ) → m < length d.windows → i < length d.windows → (window_at d m).frame.number ≡ (window_at d i).frame.number → m ≡ i
one_index d up m i l k e = elim (three m i) [ inl less ↦ absurd (let b = up m i no_window less k in omega (arith, b, e)) | inr rest ↦ elim rest [ inl same ↦ same | inr more ↦ absurd (let b = up i m no_window more l in omega (arith, b, e)) ] ]
  where
    three : (a b : ℕ) → (a < b) ⊎ ((a ≡ b) ⊎ (b < a))
    three a b = grind arith

-- the parent of a window, and where it lies in it
pub child_of : (d : DeskView) (number k i : ℕ) → IsDesk d → k < length d.windows → i < length d.windows → (window_at d k).frame.parent ≡ Some number → (window_at d i).frame.number ≡ number → IsChild (window_at d k).frame (window_at d i).frame
child_of d number k i h l here parent is =
    let frames : List Frame = map frame_of d.windows in
    let many : length frames ≡ length d.windows = length_map frame_of d.windows in
    let own : get_or frames k no_frame ≡ (window_at d k).frame = get_or-map frame_of d.windows k no_window no_frame l in
    let P : Option ℕ → Type 0 = λ o. MatchOption o (Unit {0}) (λ given. (m : ℕ) × (m < length frames) × ((get_or frames m no_frame).number ≡ given) × IsChild (get_or frames k no_frame) (get_or frames m no_frame)) in
    let has = subst P (ap (λ (f : Frame). f.parent) own ∙ parent) (h.frames.parents k no_frame (omega (arith, many))) in
    let m : ℕ = has.0 in
    let above : get_or frames m no_frame ≡ (window_at d m).frame = get_or-map frame_of d.windows m no_window no_frame (omega (arith, has.1, many)) in
    let same : m ≡ i = one_index d (desk_ascends d h) m i (omega (arith, has.1, many)) here (sym (ap (λ (f : Frame). f.number) above) ∙ has.2 ∙ sym is) in
    let child : IsChild (window_at d k).frame (window_at d m).frame = (let R : Frame → Type 0 = λ f. IsChild f (window_at d m).frame in let S : Frame → Type 0 = λ g. IsChild (get_or frames k no_frame) g in subst R own (subst S above has.3)) in
    let T : ℕ → Type 0 = λ n. IsChild (window_at d k).frame (window_at d n).frame in
    subst T same child

parent_there : (d : DeskView) (number k i : ℕ) → IsDesk d → k < length d.windows → (window_at d k).frame.parent ≡ Some number → index_of d number ≡ Ok i → IsChild (window_at d k).frame (window_at d i).frame
parent_there d number k i h l parent e = let at = found_number d number i e in child_of d number k i h l at.0 parent at.1

pub sharing : SubwindowsShareCells
sharing d number k i h l parent e r c =
    let child = parent_there d number k i h l parent e in
    let rows : (window_at d k).frame.area.top + r ≡ (window_at d i).frame.area.top + (r + ((window_at d k).frame.area.top - (window_at d i).frame.area.top)) = omega (arith, child.above) in
    let columns : (window_at d k).frame.area.left + c ≡ (window_at d i).frame.area.left + (c + ((window_at d k).frame.area.left - (window_at d i).frame.area.left)) = omega (arith, child.left) in
    (λ j. cell_of (surface_at d (child.surface j)) (rows j) (columns j))

-- the frames of windows stay while one is written in
frame_kept : (d : DeskView) (i first end : ℕ) (f : (ℕ → ℕ → CellView) → ℕ → ℕ → CellView) (k : ℕ) → i < length d.windows → k < length d.windows → (window_at (write d i first end f) k).frame ≡ (window_at d k).frame
unfolding write
frame_kept d i first end f k l m = elim (is_or_not k i) [
  | inl t ↦ (let e : k ≡ i = equal k i t in
      let P : ℕ → Type 0 = λ n. (get_or (slice_set d.windows i (marked first end true (window_at d i))) n no_window).frame ≡ (window_at d n).frame in
      subst P (sym e) (ap frame_of (get_or-set_same d.windows i (marked first end true (window_at d i)) no_window l)))
  | inr t ↦ ap frame_of (get_or-set_other d.windows i k (marked first end true (window_at d i)) no_window (differs k i t))
]

pub writing : SurfaceLaws → WritingStaysInside
unfolding write
writing laws d i first end f k r c h l m below right outside =
    let p = placed d i h l in
    let q = placed d k h m in
    let area : Area = (window_at d k).frame.area in
    let s : SurfaceView = surface_at d (window_at d i).frame.surface in
    let g : ℕ → ℕ → CellView = f (inside_at s (window_at d i).frame.area) in
    let number : ℕ = (window_at d i).frame.surface in
    let mine : ℕ = (window_at d k).frame.surface in
    let new : DeskView = write d i first end f in
    let frame : (window_at new k).frame ≡ (window_at d k).frame = frame_kept d i first end f k l m in
    let here : at new k r c ≡ inside_at (surface_at new mine) area r c = (λ j. inside_at (surface_at new (frame j).surface) (frame j).area r c) in
    here ∙ (elim (is_or_not mine number) as (λ _. inside_at (surface_at new mine) area r c ≡ at d k r c) [
      | inl t ↦ (let e : mine ≡ number = equal mine number t in
          let own : surface_at d mine ≡ s = ap (surface_at d) e in
          let put : surface_at new mine ≡ filled s (window_at d i).frame.area g = ap (surface_at new) e ∙ get_or-set_same d.surfaces number (filled s (window_at d i).frame.area g) no_surface p.surface in
          let rows : area.top + r < s.rows = omega (arith, below, q.part.below, ap (λ (v : SurfaceView). v.rows) own) in
          let columns : area.left + c < s.columns = omega (arith, right, q.part.right, ap (λ (v : SurfaceView). v.columns) own) in
          ap (λ v. inside_at v area r c) put ∙ laws.filled_at s (window_at d i).frame.area g (area.top + r) (area.left + c) rows columns
          ∙ ap (λ b. cond b (g (area.top + r - (window_at d i).frame.area.top) (area.left + c - (window_at d i).frame.area.left)) (cell_of s (area.top + r) (area.left + c))) (outside e)
          ∙ ap (λ v. inside_at v area r c) (sym own))
      | inr t ↦ ap (λ v. inside_at v area r c) (get_or-set_other d.surfaces number mine (filled s (window_at d i).frame.area g) no_surface (differs mine number t))
    ])

-- a call that keeps the surfaces wherever the window is
on_surfaces : {A : Type 0} (d : DeskView) (index : Result ℕ WinFault) (f : ℕ → DeskView × Result A WinFault) → ((i : ℕ) → (f i).0.surfaces ≡ d.surfaces) → (on_window d index f).0.surfaces ≡ d.surfaces
on_surfaces d (Err fault) f h = refl
on_surfaces d (Ok i) f h = h i

-- whichever of two comes
either : {A : Type 0} (d : DeskView) (b : Bool) (x y : DeskView × Result A WinFault) → x.0.surfaces ≡ d.surfaces → y.0.surfaces ≡ d.surfaces → (cond b x y).0.surfaces ≡ d.surfaces
either d true x y h k = h
either d false x y h k = k

window_case : (d : DeskView) (i : ℕ) (origin : Option (ℕ × ℕ)) (parent : Option ℕ) (row column : ℕ) → (window_moved d i origin parent row column).0.surfaces ≡ d.surfaces
window_case d i None parent row column = refl
window_case d i (Some origin) (Some parent) row column = refl
window_case d i (Some origin) None row column = either d (leb (row + (window_at d i).frame.area.rows) d.rows && leb (column + (window_at d i).frame.area.columns) d.columns) _ _ refl refl

derived_case : (d : DeskView) (i : ℕ) (origin : Option (ℕ × ℕ)) (parent : Option ℕ) (row column : ℕ) → (derived_moved d i origin parent row column).0.surfaces ≡ d.surfaces
derived_case d i None parent row column = refl
derived_case d i (Some origin) None row column = refl
derived_case d i (Some origin) (Some parent) row column = on_surfaces d (index_of d parent) (λ k. moved_in d i (window_at d k).frame.area row column)
    (λ k. either d (leb (row + (window_at d i).frame.area.rows) (window_at d k).frame.area.rows && leb (column + (window_at d i).frame.area.columns) (window_at d k).frame.area.columns) _ _ refl refl)

pub moving : MovingChangesNoCell
unfolding move_window_call move_derived_call
moving = record {
  window = λ d win row column. on_surfaces d (index_of d win) (λ i. window_moved d i (window_at d i).frame.origin (window_at d i).frame.parent row column) (λ i. window_case d i (window_at d i).frame.origin (window_at d i).frame.parent row column);
  derived = λ d win row column. on_surfaces d (index_of d win) (λ i. derived_moved d i (window_at d i).frame.origin (window_at d i).frame.parent row column) (λ i. derived_case d i (window_at d i).frame.origin (window_at d i).frame.parent row column);
}
