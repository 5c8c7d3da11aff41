-- What another size of a window keeps.
use Rattle.std.proofs.Common.{◌≡◌, ◌≢◌, ℕ, ◌<◌, sym, subst, ◌∙◌, ap, refl, length, Option, None, Some, Bool, true, false, cond, Result, Ok, Err}
use Rattle.std.proofs.lemmas.List.{get_or-set_other}
use Rattle.scr_windows.specs.declared.surfaces.areas.Area.{Area}
use Rattle.scr_windows.specs.declared.frames.Frame.{Frame}
use Rattle.scr_windows.specs.declared.faults.WinFault.{WinFault}
use Rattle.scr_windows.specs.declared.faults.WinFault.TheVariants.{HasChildren}
use Rattle.scr_windows.specs.Surfaces.SurfaceViews.{SurfaceView, inside_at}
use Rattle.scr_windows.specs.DeskViews.{DeskView, IsDesk, no_surface, no_window, surface_at, window_at}
use Rattle.scr_windows.specs.Changes.{index_of, on_window, with_window}
use Rattle.scr_windows.specs.Calls.Reading.{at}
use Rattle.scr_windows.specs.Calls.Removing.{has_children}
use Rattle.scr_windows.specs.Calls.Resizing.{area_in, ends_inside, resize_window_call, resized, root_resized, root_size, sub_resized, whole_area, window_resized, with_root_size}
use Rattle.scr_windows.specs.Laws.{ResizingKeepsOthers}
use Rattle.scr_windows.proofs.LawLaws.{found_number}
use Rattle.scr_windows.proofs.RemovingLaws.{alone_desk}

-- a window and its cells are as before
abbrev Same : DeskView → ℕ → DeskView → Type 0
Same d k new = (window_at new k ≡ window_at d k) × ((r c : ℕ) → at new k r c ≡ at d k r c)

same : (d : DeskView) (k : ℕ) → Same d k d
same d k = (refl, λ r c. refl)

-- a window's cells, where it and its surface stay
seen : (d new : DeskView) (k : ℕ) → window_at new k ≡ window_at d k → surface_at new (window_at d k).frame.surface ≡ surface_at d (window_at d k).frame.surface → Same d k new
seen d new k w s = (w, λ r c. (λ j. inside_at (surface_at new (w j).frame.surface) (w j).frame.area r c) ∙ ap (λ (v : SurfaceView). inside_at v (window_at d k).frame.area r c) s)

-- a test that one of two desks was answered by
either : (P : DeskView → Type 0) (b : Bool) (x y : DeskView × Result (Unit {0}) WinFault) → (b ≡ true → P x.0) → (b ≡ false → P y.0) → P (cond b x y).0
either P true x y h k = h refl
either P false x y h k = k refl

-- a call that was answered for a window that was found or not
on_found : (P : DeskView → Type 0) (d : DeskView) (found : Result ℕ WinFault) (f : ℕ → DeskView × Result (Unit {0}) WinFault) → P d → ((i : ℕ) → found ≡ Ok i → P (f i).0) → P (on_window d found f).0
on_found P d (Err fault) f h k = h
on_found P d (Ok i) f h k = k i refl

sub_case : (P : DeskView → Type 0) (d : DeskView) (i : ℕ) (parent : Frame) (area : Option Area) → P d → ((a : Area) → P (with_window d i (resized a (window_at d i)))) → P (sub_resized d i parent area).0
sub_case P d i parent None h k = h
sub_case P d i parent (Some area) h k = either P (ends_inside (window_at d i).frame.origin area parent.origin parent.area) _ _ (λ _. k area) (λ _. h)

root_case : (P : DeskView → Type 0) (d : DeskView) (i : ℕ) (size : Result (ℕ × ℕ) WinFault) → P d → ((rows columns : ℕ) → P (with_root_size d i rows columns)) → P (root_resized d i size).0
root_case P d i (Err fault) h k = h
root_case P d i (Ok size) h k = k size.0 size.1

other_case : (d : DeskView) (win rows columns i k : ℕ) → IsDesk d → index_of d win ≡ Ok i → has_children win d.windows ≡ false → k < length d.windows → (window_at d k).frame.number ≢ win
    → (o : Option ℕ) → (window_at d i).frame.parent ≡ o → Same d k (window_resized d i o rows columns).0
other_case d win rows columns i k h e alone l apart None root =
    let there = found_number d win i e in
    let other : k ≢ i = λ twice. apart (ap (λ n. (window_at d n).frame.number) twice ∙ there.1) in
    let Alone : ℕ → Type 0 = λ n. has_children n d.windows ≡ false in
    let away : (window_at d k).frame.surface ≢ (window_at d i).frame.surface = alone_desk d i h there.0 root (subst Alone (sym there.1) alone) k l other in
    root_case (Same d k) d i (root_size d (window_at d i).frame.origin rows columns) (same d k) (λ r c.
    seen d (with_root_size d i r c) k (get_or-set_other d.windows i k (resized (whole_area r c) (window_at d i)) no_window other)
    (get_or-set_other d.surfaces (window_at d i).frame.surface (window_at d k).frame.surface _ no_surface away))
other_case d win rows columns i k h e alone l apart (Some parent) above =
    let there = found_number d win i e in
    let other : k ≢ i = λ twice. apart (ap (λ n. (window_at d n).frame.number) twice ∙ there.1) in
    on_found (Same d k) d (index_of d parent) (λ n. sub_resized d i (window_at d n).frame (area_in (window_at d i).frame (window_at d n).frame rows columns)) (same d k) (λ n _.
    sub_case (Same d k) d i (window_at d n).frame (area_in (window_at d i).frame (window_at d n).frame rows columns) (same d k) (λ a.
    seen d (with_window d i (resized a (window_at d i))) k (get_or-set_other d.windows i k (resized a (window_at d i)) no_window other) refl))

others : (d : DeskView) (win rows columns k : ℕ) → IsDesk d → k < length d.windows → (window_at d k).frame.number ≢ win → Same d k (resize_window_call d win rows columns).0
unfolding resize_window_call
others d win rows columns k h l apart =
    on_found (Same d k) d (index_of d win) (λ i. cond (has_children win d.windows) (d, Err HasChildren) (window_resized d i (window_at d i).frame.parent rows columns)) (same d k) (λ i e.
    either (Same d k) (has_children win d.windows) _ _ (λ _. same d k) (λ alone. other_case d win rows columns i k h e alone l apart (window_at d i).frame.parent refl))

-- the surfaces are as before
abbrev Kept : DeskView → DeskView → Type 0
Kept d new = new.surfaces ≡ d.surfaces

subwindow_case : (d : DeskView) (rows columns i parent : ℕ) (o : Option ℕ) → o ≡ Some parent → Kept d (window_resized d i o rows columns).0
subwindow_case d rows columns i parent None e = absurd (let z : ⊥ = (cc) in z)
subwindow_case d rows columns i parent (Some number) e =
    on_found (Kept d) d (index_of d number) (λ n. sub_resized d i (window_at d n).frame (area_in (window_at d i).frame (window_at d n).frame rows columns)) refl (λ n _.
    sub_case (Kept d) d i (window_at d n).frame (area_in (window_at d i).frame (window_at d n).frame rows columns) refl (λ a. refl))

subwindow : (d : DeskView) (win rows columns i parent : ℕ) → index_of d win ≡ Ok i → (window_at d i).frame.parent ≡ Some parent → Kept d (resize_window_call d win rows columns).0
unfolding resize_window_call
subwindow d win rows columns i parent e above =
    on_found (Kept d) d (index_of d win) (λ n. cond (has_children win d.windows) (d, Err HasChildren) (window_resized d n (window_at d n).frame.parent rows columns)) refl (λ n f.
    either (Kept d) (has_children win d.windows) _ _ (λ _. refl) (λ _.
    let same : i ≡ n = (let twice : Ok i ≡ Ok n = sym e ∙ f in (cc)) in
    subwindow_case d rows columns n parent (window_at d n).frame.parent (ap (λ m. (window_at d m).frame.parent) (sym same) ∙ above)))

pub resizing : ResizingKeepsOthers
resizing = record { others = others; subwindow = subwindow }
