-- A window or a surface less keeps a desk one.
use Rattle.std.proofs.Common.{◌≡◌, ◌≢◌, ◌⊎◌, inl, inr, ℕ, ◌<◌, ◌≤◌, sym, subst, ◌∙◌, ap, refl, arith, List, [], ◌∷◌, zero, suc, length, map, take, drop, get_or, Option, None, Some, Bool, true, false, cond, ◌==◌}
use Rattle.std.specs.Prelude.{All, MatchOption, filter, not}
use Rattle.std.specs.List.{AllPairs, list_any, remove}
use Rattle.std.proofs.lemmas.List.{get_or-map, get_or_default}
use Rattle.std.proofs.lemmas.List.Elements.{All-append, All-drop, All-from_get_or, All-map, All-filter, All-take, filter_passes}
use Rattle.std.proofs.lemmas.List.Folds.{list_any_at}
use Rattle.std.proofs.lemmas.List.Kept.{AllPairs-filter}
use Rattle.scr_windows.specs.declared.frames.Frame.{Frame}
use Rattle.scr_windows.specs.Surfaces.SurfaceViews.{SurfaceView, IsSurface}
use Rattle.scr_windows.specs.DeskViews.{WindowView, DeskView, HaveOwn, IsWindow, IsPlaced, IsChild, AreFrames, IsDesk, no_frame, no_window, size_on, window_at}
use Rattle.scr_windows.specs.Calls.Removing.{is_number, has_children, let_go, moved_up, others, deleted, without_surface, without_window}
use Rattle.scr_windows.proofs.DeskLaws.{frame_of, length_map, placed}
use Rattle.scr_windows.proofs.FrameLaws.{map_reframed, own_kept, reframed}
use Rattle.scr_windows.proofs.NumberLaws.{is_not, differs, kept_in_filter, map-filter}
use Rattle.scr_windows.proofs.SizeLaws.{moved_same, size_less}

-- a frame has another number
abbrev other_frame : ℕ → Frame → Bool
other_frame number frame = not (frame.number == number)

-- what was not refused is another number
not_false : (b : Bool) → b ≡ false → not b ≡ true
not_false b h = ap not h

from_not : (b : Bool) → not b ≡ true → b ≡ false
from_not true h = sym h
from_not false h = refl

-- the parent of a frame is among these
abbrev pub HasParent : List Frame → Frame → Type 0
HasParent frames frame = MatchOption frame.parent (Unit {0}) (λ number. (k : ℕ) × (k < length frames) × ((get_or frames k no_frame).number ≡ number) × IsChild frame (get_or frames k no_frame))

parent_kept : (frames : List Frame) (number : ℕ) (frame : Frame) → is_number number frame.parent ≡ false → HasParent frames frame → HasParent (filter (other_frame number) frames) frame
parent_kept frames number frame other has = kept frame.parent other has
  where
    kept : (o : Option ℕ) → is_number number o ≡ false
        → MatchOption o (Unit {0}) (λ given. (k : ℕ) × (k < length frames) × ((get_or frames k no_frame).number ≡ given) × IsChild frame (get_or frames k no_frame))
        → MatchOption o (Unit {0}) (λ given. (k : ℕ) × (k < length (filter (other_frame number) frames)) × ((get_or (filter (other_frame number) frames) k no_frame).number ≡ given) × IsChild frame (get_or (filter (other_frame number) frames) k no_frame))
    kept None other has = tt
    kept (Some given) other has =
        let k : ℕ = has.0 in
        let apart : ((get_or frames k no_frame).number == number) ≡ false = is_not number _ (λ e. differs given number other (sym has.2 ∙ e)) in
        let at = kept_in_filter (other_frame number) frames k no_frame has.1 (not_false _ apart) in
        let q : (get_or (filter (other_frame number) frames) at.0 no_frame).number ≡ given = ap (λ (f : Frame). f.number) at.2 ∙ has.2 in
        let Q : Frame → Type 0 = λ f. IsChild frame f in
        (at.0, at.1, q, subst Q (sym at.2) has.3)

-- all elements have two properties
both : {X : Type 0} (P Q R : X → Type 0) (xs : List X) → ((x : X) → P x → Q x → R x) → All P xs → All Q xs → All R xs
both P Q R xs f p q = λ k d l. f (get_or xs k d) (p k d l) (q k d l)

-- of two frames that have no parent, each has its own surface
own_apart : (frames : List Frame) → AllPairs HaveOwn frames → (i k : ℕ) → i < length frames → k < length frames → (get_or frames i no_frame).parent ≡ None → (get_or frames k no_frame).parent ≡ None
    → (get_or frames k no_frame).surface ≡ (get_or frames i no_frame).surface → k ≡ i
own_apart frames own i k l m root other same = elim (three k i) [
  | inl less ↦ absurd (own k i no_frame less l other root same)
  | inr rest ↦ elim rest [ inl one ↦ one | inr more ↦ absurd (own i k no_frame more m root other (sym same)) ]
]
  where
    three : (a b : ℕ) → (a < b) ⊎ ((a ≡ b) ⊎ (b < a))
    three a b = grind arith

-- a window on the surface of one that has neither a parent nor subwindows is that one: its parent would be on it too
alone_on : (frames : List Frame) (i : ℕ) → i < length frames → (get_or frames i no_frame).parent ≡ None → AllPairs HaveOwn frames → All (HasParent frames) frames → All (λ (f : Frame). is_number (get_or frames i no_frame).number f.parent ≡ false) frames
    → (most k : ℕ) → k < length frames → (get_or frames k no_frame).number < most → (get_or frames k no_frame).surface ≡ (get_or frames i no_frame).surface → k ≡ i
alone_on frames i l root own parents alone zero k m less on = absurd (omega (arith, less))
alone_on frames i l root own parents alone (suc most) k m less on = by_parent (alone_on frames i l root own parents alone most) (get_or frames k no_frame).parent refl (parents k no_frame m) (alone k no_frame m)
  where
    by_parent : ((n : ℕ) → n < length frames → (get_or frames n no_frame).number < most → (get_or frames n no_frame).surface ≡ (get_or frames i no_frame).surface → n ≡ i) → (o : Option ℕ) → (get_or frames k no_frame).parent ≡ o
        → MatchOption o (Unit {0}) (λ given. (n : ℕ) × (n < length frames) × ((get_or frames n no_frame).number ≡ given) × IsChild (get_or frames k no_frame) (get_or frames n no_frame))
        → is_number (get_or frames i no_frame).number o ≡ false → k ≡ i
    by_parent earlier None is has other = own_apart frames own i k l m root is on
    by_parent earlier (Some given) is has other =
        let there : has.0 ≡ i = earlier has.0 has.1 (omega (arith, less, has.3.later)) (sym has.3.surface ∙ on) in
        absurd (differs given (get_or frames i no_frame).number other (sym has.2 ∙ ap (λ n. (get_or frames n no_frame).number) there))

fewer : {X : Type 0} (p : X → Bool) (xs : List X) → length (filter p xs) ≤ length xs
fewer p [] = omega arith
fewer {X} p (x ∷ xs) = one (p x) (fewer p xs)
  where
    one : (b : Bool) → length (filter p xs) ≤ length xs → length (cond b (x ∷ filter p xs) (filter p xs)) ≤ suc (length xs)
    one true rest = omega arith
    one false rest = omega arith

-- a window goes; its surface stays
frames_less : (rows columns number made : ℕ) (sizes : ℕ → ℕ × ℕ) (frames : List Frame) → AreFrames rows columns sizes made frames → All (λ (f : Frame). is_number number f.parent ≡ false) frames
    → AreFrames rows columns sizes made (filter (other_frame number) frames)
frames_less rows columns number made sizes frames h alone = record {
  few = omega (arith, h.few, fewer (other_frame number) frames);
  placed = All-filter (other_frame number) (IsPlaced rows columns sizes) frames h.placed;
  numbers = All-filter (other_frame number) (λ (f : Frame). f.number ≤ made) frames h.numbers;
  ascending = λ i j less l. ascends i j no_frame less l;
  own = AllPairs-filter HaveOwn (other_frame number) frames h.own;
  parents = All-filter (other_frame number) (HasParent (filter (other_frame number) frames)) frames (both _ _ (HasParent (filter (other_frame number) frames)) frames (λ f p q. parent_kept frames number f p q) alone h.parents);
}
  where
    ordered : (a b : ℕ) (d : Frame) → a < b → b < length frames → (get_or frames a d).number < (get_or frames b d).number
    ordered a b d less in' =
        let x : get_or frames a d ≡ get_or frames a no_frame = get_or_default frames a d no_frame (omega arith) in
        let y : get_or frames b d ≡ get_or frames b no_frame = get_or_default frames b d no_frame in' in
        omega (arith, h.ascending a b less in', ap (λ (f : Frame). f.number) x, ap (λ (f : Frame). f.number) y)

    ascends : (a b : ℕ) (d : Frame) → a < b → b < length (filter (other_frame number) frames) → (get_or (filter (other_frame number) frames) a d).number < (get_or (filter (other_frame number) frames) b d).number
    ascends = AllPairs-filter (λ (f : Frame) (g : Frame). f.number < g.number) (other_frame number) frames ordered

-- no window passes a test
none_passes : {X : Type 0} (p : X → Bool) (xs : List X) → list_any p xs ≡ false → All (λ x. p x ≡ false) xs
none_passes p xs h = λ k d l. fails (p (get_or xs k d)) (list_any p xs) h (λ t. list_any_at p xs k d l t)
  where
    fails : (b all : Bool) → all ≡ false → (b ≡ true → all ≡ true) → b ≡ false
    fails true all h f = sym (f refl) ∙ h
    fails false all h f = refl

-- no frame has a window without subwindows as its parent
pub childless : (d : DeskView) (number : ℕ) → has_children number d.windows ≡ false → All (λ (f : Frame). is_number number f.parent ≡ false) (map frame_of d.windows)
childless d number alone = All-map (λ (f : Frame). is_number number f.parent ≡ false) frame_of d.windows (none_passes _ d.windows alone)

pub fewer_is_desk : (d : DeskView) (number : ℕ) → IsDesk d → has_children number d.windows ≡ false → IsDesk (without_window d number)
fewer_is_desk d number h alone =
    let frames : List Frame = map frame_of d.windows in
    let free : All (λ (f : Frame). is_number number f.parent ≡ false) frames = childless d number alone in
    let Q : List Frame → Type 0 = λ fs. AreFrames d.rows d.columns (size_on d.surfaces) d.made fs in
    record {
      size = h.size;
      made = h.made;
      surfaces = h.surfaces;
      windows = All-filter (λ (w : WindowView). not (w.frame.number == number)) IsWindow d.windows h.windows;
      frames = subst Q (sym (map-filter frame_of (other_frame number) d.windows)) (frames_less d.rows d.columns number d.made (size_on d.surfaces) frames h.frames free);
    }

-- ---- a surface that no window is on goes

-- a frame, with its surface where it has moved
abbrev pub frame_moved : ℕ → Frame → Frame
frame_moved gone frame = record frame { surface = moved_up gone frame.surface }

placed_less : (rows columns gone : ℕ) (surfaces : List SurfaceView) (frame : Frame) → gone < length surfaces → frame.surface ≢ gone → IsPlaced rows columns (size_on surfaces) frame → IsPlaced rows columns (size_on (remove surfaces gone)) (frame_moved gone frame)
placed_less rows columns gone surfaces frame l apart p =
    let same : size_on (remove surfaces gone) (moved_up gone frame.surface) ≡ size_on surfaces frame.surface = size_less surfaces gone frame.surface l apart in
    record {
      some_rows = p.some_rows;
      some_columns = p.some_columns;
      below = omega (arith, p.below, ap (λ (s : ℕ × ℕ). s.0) same);
      right = omega (arith, p.right, ap (λ (s : ℕ × ℕ). s.1) same);
      origin = p.origin;
    }

child_moved : (gone : ℕ) (frame parent : Frame) → IsChild frame parent → IsChild (frame_moved gone frame) (frame_moved gone parent)
child_moved gone frame parent c = record { later = c.later; surface = ap (moved_up gone) c.surface; above = c.above; below = c.below; left = c.left; right = c.right; on_screen = c.on_screen }

parent_moved : (gone : ℕ) (frames : List Frame) (frame : Frame) → HasParent frames frame → HasParent (map (frame_moved gone) frames) (frame_moved gone frame)
parent_moved gone frames frame has = by frame.parent has
  where
    by : (o : Option ℕ) → MatchOption o (Unit {0}) (λ given. (k : ℕ) × (k < length frames) × ((get_or frames k no_frame).number ≡ given) × IsChild frame (get_or frames k no_frame))
        → MatchOption o (Unit {0}) (λ given. (k : ℕ) × (k < length (map (frame_moved gone) frames)) × ((get_or (map (frame_moved gone) frames) k no_frame).number ≡ given) × IsChild (frame_moved gone frame) (get_or (map (frame_moved gone) frames) k no_frame))
    by None has = tt
    by (Some given) has =
        let k : ℕ = has.0 in
        let at : get_or (map (frame_moved gone) frames) k no_frame ≡ frame_moved gone (get_or frames k no_frame) = get_or-map (frame_moved gone) frames k no_frame no_frame has.1 in
        let Q : Frame → Type 0 = λ f. IsChild (frame_moved gone frame) f in
        (k, omega (arith, has.1, length_map (frame_moved gone) frames), ap (λ (f : Frame). f.number) at ∙ has.2, subst Q (sym at) (child_moved gone frame (get_or frames k no_frame) has.3))

frames_moved : (rows columns gone made : ℕ) (surfaces : List SurfaceView) (frames : List Frame) → gone < length surfaces → All (λ (f : Frame). f.surface ≢ gone) frames → AreFrames rows columns (size_on surfaces) made frames
    → AreFrames rows columns (size_on (remove surfaces gone)) made (map (frame_moved gone) frames)
frames_moved rows columns gone made surfaces frames l free h = record {
  few = omega (arith, h.few, many);
  placed = All-map (IsPlaced rows columns (size_on (remove surfaces gone))) (frame_moved gone) frames (λ k d b. placed_less rows columns gone surfaces (get_or frames k d) l (free k d b) (h.placed k d b));
  numbers = All-map (λ (f : Frame). f.number ≤ made) (frame_moved gone) frames h.numbers;
  ascending = λ i j less b. omega (arith, number i (omega (arith, many)), number j (omega (arith, many)), h.ascending i j less (omega (arith, many)));
  own = own_kept frames (map (frame_moved gone) frames) many (λ k b. ap (λ (f : Frame). f.parent) (now k b)) (λ j k a b same.
      moved_same gone _ _ (free j no_frame a) (free k no_frame b) (sym (ap (λ (f : Frame). f.surface) (now j a)) ∙ same ∙ ap (λ (f : Frame). f.surface) (now k b))) h.own;
  parents = All-map (HasParent (map (frame_moved gone) frames)) (frame_moved gone) frames (λ k d b. parent_moved gone frames (get_or frames k d) (h.parents k d b));
}
  where
    many : length (map (frame_moved gone) frames) ≡ length frames
    many = length_map (frame_moved gone) frames

    now : (k : ℕ) → k < length frames → get_or (map (frame_moved gone) frames) k no_frame ≡ frame_moved gone (get_or frames k no_frame)
    now k b = get_or-map (frame_moved gone) frames k no_frame no_frame b

    number : (k : ℕ) → k < length frames → (get_or (map (frame_moved gone) frames) k no_frame).number ≡ (get_or frames k no_frame).number
    number k b = ap (λ (f : Frame). f.number) (now k b)

pub unshared_is_desk : (d : DeskView) (gone : ℕ) → IsDesk d → gone < length d.surfaces → All (λ (w : WindowView). w.frame.surface ≢ gone) d.windows → IsDesk (without_surface d gone)
unshared_is_desk d gone h l free =
    let P : List Frame → Type 0 = λ fs. AreFrames d.rows d.columns (size_on (remove d.surfaces gone)) d.made fs in
    record {
      size = h.size;
      made = h.made;
      surfaces = All-append IsSurface (take gone d.surfaces) (drop (suc gone) d.surfaces) (All-take IsSurface gone d.surfaces h.surfaces) (All-drop IsSurface (suc gone) d.surfaces h.surfaces);
      windows = All-map IsWindow (reframed (frame_moved gone)) d.windows (λ k e b. window_moved gone (get_or d.windows k e) (h.windows k e b));
      frames = subst P (sym (map_reframed (frame_moved gone) d.windows)) (frames_moved d.rows d.columns gone d.made d.surfaces (map frame_of d.windows) l (All-map (λ (f : Frame). f.surface ≢ gone) frame_of d.windows free) h.frames);
    }
  where
    window_moved : (gone : ℕ) (w : WindowView) → IsWindow w → IsWindow (reframed (frame_moved gone) w)
    window_moved gone w h = record { state = record { cursor_row = h.state.cursor_row; cursor_column = h.state.cursor_column; region_order = h.state.region_order; region_end = h.state.region_end; pair = h.state.pair }; touched = h.touched }

-- another window than one that has neither a parent nor subwindows is on another surface
pub alone_desk : (d : DeskView) (i : ℕ) → IsDesk d → i < length d.windows → (window_at d i).frame.parent ≡ None → has_children (window_at d i).frame.number d.windows ≡ false
    → (k : ℕ) → k < length d.windows → k ≢ i → (window_at d k).frame.surface ≢ (window_at d i).frame.surface
alone_desk d i h l root alone k m other on =
    let frames : List Frame = map frame_of d.windows in
    let many : length frames ≡ length d.windows = length_map frame_of d.windows in
    let here : get_or frames i no_frame ≡ (window_at d i).frame = get_or-map frame_of d.windows i no_window no_frame l in
    let at : get_or frames k no_frame ≡ (window_at d k).frame = get_or-map frame_of d.windows k no_window no_frame m in
    let Q : ℕ → Type 0 = λ n. All (λ (f : Frame). is_number n f.parent ≡ false) frames in
    let free : All (λ (f : Frame). is_number (get_or frames i no_frame).number f.parent ≡ false) frames = subst Q (sym (ap (λ (f : Frame). f.number) here)) (childless d (window_at d i).frame.number alone) in
    other (alone_on frames i (omega (arith, many)) (ap (λ (f : Frame). f.parent) here ∙ root) h.frames.own h.frames.parents free (suc (get_or frames k no_frame).number) k (omega (arith, many)) (omega arith)
    (ap (λ (f : Frame). f.surface) at ∙ on ∙ sym (ap (λ (f : Frame). f.surface) here)))

-- so no window is left on the surface of one that went
pub left_apart : (d : DeskView) (i : ℕ) → IsDesk d → i < length d.windows → (window_at d i).frame.parent ≡ None → has_children (window_at d i).frame.number d.windows ≡ false
    → All (λ (w : WindowView). w.frame.surface ≢ (window_at d i).frame.surface) (others (window_at d i).frame.number d.windows)
left_apart d i h l root alone =
    let number : ℕ = (window_at d i).frame.number in
    let p : WindowView → Bool = λ w. not (w.frame.number == number) in
    let Apart : WindowView → Type 0 = λ w. p w ≡ true → w.frame.surface ≢ (window_at d i).frame.surface in
    let away : All Apart d.windows = All-from_get_or Apart d.windows no_window (λ k m t.
    alone_desk d i h l root alone k m (λ same. differs _ _ (from_not ((window_at d k).frame.number == number) t) (ap (λ n. (window_at d n).frame.number) same))) in
    both (λ (w : WindowView). p w ≡ true) Apart (λ (w : WindowView). w.frame.surface ≢ (window_at d i).frame.surface) (filter p d.windows) (λ w t f. f t) (filter_passes p d.windows) (All-filter p Apart d.windows away)

-- ---- what the code knows

-- when the window is gone
pub window_removed : (d old : DeskView) → d ≡ old → (number : ℕ) (ws : List WindowView) → IsDesk d → has_children number old.windows ≡ false → ws ≡ others number d.windows → IsDesk (record d { windows = ws })
window_removed d old is number ws h alone ws_is =
    let A : DeskView → Type 0 = λ v. has_children number v.windows ≡ false in
    let P : List WindowView → Type 0 = λ vs. IsDesk (record d { windows = vs }) in
    subst P (sym ws_is) (fewer_is_desk d number h (subst A (sym is) alone))

pub window_removed_path : (d old : DeskView) → d ≡ old → (number : ℕ) (ws : List WindowView) → ws ≡ others number d.windows → record d { windows = ws } ≡ without_window old number
window_removed_path d old is number ws ws_is = (λ j. record d { windows = ws_is j }) ∙ ap (λ v. without_window v number) is

-- when the surface is gone
pub surface_removed_path : (d old : DeskView) → d ≡ old → (gone : ℕ) (ss : List SurfaceView) (ws : List WindowView) → ss ≡ remove d.surfaces gone → ws ≡ map (reframed (frame_moved gone)) d.windows → record d { surfaces = ss; windows = ws } ≡ without_surface old gone
surface_removed_path d old is gone ss ws ss_is ws_is = (λ j. record d { surfaces = ss_is j; windows = ws_is j }) ∙ ap (λ v. without_surface v gone) is

pub surface_removed : (d old : DeskView) → d ≡ old → (gone : ℕ) (ss : List SurfaceView) (ws : List WindowView) → IsDesk d → gone < length old.surfaces → All (λ (w : WindowView). w.frame.surface ≢ gone) old.windows
    → ss ≡ remove d.surfaces gone → ws ≡ map (reframed (frame_moved gone)) d.windows → IsDesk (record d { surfaces = ss; windows = ws })
surface_removed d old is gone ss ws h l free ss_is ws_is =
    let P : DeskView → Type 0 = λ v. IsDesk v in
    subst P (sym (surface_removed_path d old is gone ss ws ss_is ws_is)) (unshared_is_desk old gone (subst P is h) l free)

-- when a window is gone, and its surface with it
pub deleted_is_desk : (d : DeskView) (i : ℕ) → IsDesk d → i < length d.windows → has_children (window_at d i).frame.number d.windows ≡ false → IsDesk (deleted d i)
deleted_is_desk d i h l alone = by (window_at d i).frame.parent refl
  where
    by : (o : Option ℕ) → (window_at d i).frame.parent ≡ o → IsDesk (let_go (without_window d (window_at d i).frame.number) o (window_at d i).frame.surface)
    by None root = unshared_is_desk (without_window d (window_at d i).frame.number) (window_at d i).frame.surface (fewer_is_desk d (window_at d i).frame.number h alone) (placed d i h l).surface (left_apart d i h l root alone)
    by (Some parent) sub = fewer_is_desk d (window_at d i).frame.number h alone
