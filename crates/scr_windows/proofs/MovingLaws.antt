-- Windows that move keep a desk one.
use Rattle.std.proofs.Common.{◌≡◌, ◌≢◌, ℕ, ◌+◌, ◌-◌, ◌<◌, ◌≤◌, sym, subst, ◌∙◌, ap, refl, arith, List, [], ◌∷◌, ◌++◌, suc, length, map, take, drop, get_or, Option, None, Some, Bool, true, false, cond, ◌==◌, ◌||◌}
use Rattle.std.specs.Prelude.{All, MatchOption, slice_set, Ok}
use Rattle.std.proofs.lemmas.List.Quantifiers.{position-Some}
use Rattle.scr_windows.specs.Changes.{index_of}
use Rattle.std.proofs.lemmas.Bool.Decides.{nat_tests}
use Rattle.std.proofs.lemmas.List.{get_or-map, get_or-drop, get_or-append_right, length-take-le, map-append, take-append-drop}
use Rattle.std.proofs.lemmas.List.Elements.{All-from_get_or, All-map}
use Rattle.scr_windows.specs.declared.surfaces.areas.Area.{Area}
use Rattle.scr_windows.specs.declared.frames.Frame.{Frame}
use Rattle.scr_windows.specs.declared.calls.moving.WindowMove.{WindowMove}
use Rattle.scr_windows.specs.declared.calls.moving.WindowMove.TheVariants.{Screen, Surface}
use Rattle.scr_windows.specs.DeskViews.{WindowView, DeskView, IsWindow, AreFrames, IsDesk, IsThere, window_at, no_window, no_frame, size_on}
use Rattle.scr_windows.specs.Code.Families.{IsNear, IsNearFrame, IsNearShift, IsShift, descends, family_frame, from_parent, family_shifted, link_of}
use Rattle.scr_windows.proofs.DeskLaws.{Reads, reads_window, here_too, placed, length_map, frame_of}
use Rattle.scr_windows.proofs.FrameLaws.{map_reframed, reframed, reframed_more, was_found}
use Rattle.scr_windows.proofs.FamilyLaws.{frame_link, map_links}
use Rattle.scr_windows.proofs.ShiftLaws.{Begins, FitsScreen, Stays, frames_moved, is_equal, same_columns, same_number, same_parent, same_rows, turned}

-- what a shift asks for, of the frames
shift_begins : (d : DeskView) (i : ℕ) (shift : WindowMove) → IsShift d i shift → Begins shift (window_at d i).frame
shift_begins d i (Screen from to) h = h.1
shift_begins d i (Surface from to) h = h.0

shift_fits : (d : DeskView) (i : ℕ) (shift : WindowMove) → IsShift d i shift → FitsScreen d.rows d.columns shift (window_at d i).frame
shift_fits d i (Screen from to) h = (h.2, h.3)
shift_fits d i (Surface from to) h = tt

shift_stays : (d : DeskView) (i : ℕ) (shift : WindowMove) → IsShift d i shift → Stays (map frame_of d.windows) shift (window_at d i).frame
shift_stays d i (Screen from to) h = h.0
shift_stays d i (Surface from to) h =
    let k : ℕ = h.1.0 in
    let at : get_or (map frame_of d.windows) k no_frame ≡ (window_at d k).frame = get_or-map frame_of d.windows k no_window no_frame h.1.1 in
    let root : Frame = (window_at d i).frame in
    let P : Frame → Type 0 = λ g. (root.parent ≡ Some g.number) × (g.area.top ≤ to.0) × (to.0 + root.area.rows ≤ g.area.top + g.area.rows) × (g.area.left ≤ to.1) × (to.1 + root.area.columns ≤ g.area.left + g.area.columns) in
    let in' = subst P (sym at) (h.1.2, h.1.3, h.1.4, h.1.5, h.1.6) in
    (k, omega (arith, h.1.1, length_map frame_of d.windows), in'.0, in'.1, in'.2, in'.3, in'.4)

-- a window with another frame of the same size
window_turned : (w : WindowView) (b : Bool) (shift : WindowMove) → IsWindow w → IsWindow (record w { frame = turned b shift w.frame })
window_turned w b shift h =
    let rows : (turned b shift w.frame).area.rows ≡ w.frame.area.rows = same_rows b shift w.frame in
    let columns : (turned b shift w.frame).area.columns ≡ w.frame.area.columns = same_columns b shift w.frame in
    record {
      state = record { cursor_row = omega (arith, h.state.cursor_row, rows); cursor_column = omega (arith, h.state.cursor_column, columns); region_order = h.state.region_order; region_end = omega (arith, h.state.region_end, rows); pair = h.state.pair };
      touched = h.touched ∙ sym rows;
    }

pub family_is_desk : (d : DeskView) (i : ℕ) (shift : WindowMove) → IsDesk d → i < length d.windows → IsShift d i shift → IsDesk (record d { windows = family_shifted (window_at d i).frame.number shift d.windows })
family_is_desk d i shift h l s =
    let frames : List Frame = map frame_of d.windows in
    let many : length frames ≡ length d.windows = length_map frame_of d.windows in
    let at : get_or frames i no_frame ≡ (window_at d i).frame = get_or-map frame_of d.windows i no_window no_frame l in
    let number : ℕ = (window_at d i).frame.number in
    let B : Frame → Type 0 = λ f. Begins shift f in
    let E : Frame → Type 0 = λ f. FitsScreen d.rows d.columns shift f in
    let S : Frame → Type 0 = λ f. Stays frames shift f in
    let after : AreFrames d.rows d.columns (size_on d.surfaces) d.made (map (family_frame (map frame_link frames) (length frames) (get_or frames i no_frame).number shift) frames)
    = frames_moved d.rows d.columns (size_on d.surfaces) d.made frames i shift h.frames (omega (arith, l, many)) (subst B (sym at) (shift_begins d i shift s)) (subst E (sym at) (shift_fits d i shift s)) (subst S (sym at) (shift_stays d i shift s)) in
    let turn : Frame → Frame = family_frame (map link_of d.windows) (length d.windows) number shift in
    let whole : map frame_of (family_shifted number shift d.windows) ≡ map (family_frame (map frame_link frames) (length frames) (get_or frames i no_frame).number shift) frames
    = map_reframed turn d.windows ∙ (λ j. map (family_frame (map_links d.windows j) (sym many j) (sym at j).number shift) frames) in
    let P : List Frame → Type 0 = λ fs. AreFrames d.rows d.columns (size_on d.surfaces) d.made fs in
    record {
      size = h.size;
      made = h.made;
      surfaces = h.surfaces;
      windows = All-map IsWindow (reframed turn) d.windows (λ k e b. window_turned (get_or d.windows k e) (descends (map link_of d.windows) number (length d.windows) (get_or d.windows k e).frame.number) shift (h.windows k e b));
      frames = subst P (sym whole) after;
    }

-- what the code knows when a window and its descendants have moved
pub family_moved : (d old : DeskView) → d ≡ old → (i : ℕ) (shift : WindowMove) (w : WindowView) (frame : Frame) (ws : List WindowView) → IsDesk d → i < length old.windows → IsShift old i shift → Reads d.windows i w → frame ≡ w.frame
    → ws ≡ family_shifted frame.number shift d.windows → IsDesk (record d { windows = ws })
family_moved d old is i shift w frame ws h l s reads frame_is ws_is =
    let I : DeskView → Type 0 = λ v. IsShift v i shift in
    let here : i < length d.windows = here_too d old i is l in
    let number : frame.number ≡ (window_at d i).frame.number = ap (λ (f : Frame). f.number) (frame_is ∙ ap frame_of (reads_window d i w reads here)) in
    let whole : record d { windows = ws } ≡ record d { windows = family_shifted (window_at d i).frame.number shift d.windows } = (λ j. record d { windows = (ws_is ∙ ap (λ n. family_shifted n shift d.windows) number) j }) in
    let P : DeskView → Type 0 = λ v. IsDesk v in
    subst P (sym whole) (family_is_desk d i shift h here (subst I (sym is) s))

-- no sum of a shift passes the numbers' end
near_origin : (rows columns a b : ℕ) (o : Option (ℕ × ℕ)) → rows ≤ 500 → columns ≤ 500 → MatchOption o (Unit {0}) (λ place. (place.0 + a ≤ rows) × (place.1 + b ≤ columns)) → MatchOption o (Unit {0}) IsNear
near_origin rows columns a b None h k m = tt
near_origin rows columns a b (Some p) h k m = (omega (arith, h, m.0), omega (arith, k, m.1))

near_window : (d : DeskView) (i : ℕ) → IsThere d i → IsNearFrame (window_at d i).frame
near_window d i p = (
  (omega (arith, p.part.below, p.whole.size.few_rows), omega (arith, p.part.right, p.whole.size.few_columns)),
  near_origin d.rows d.columns (window_at d i).frame.area.rows (window_at d i).frame.area.columns (window_at d i).frame.origin p.screen.few_rows p.screen.few_columns p.origin,
)

pub near_windows : (d : DeskView) → IsDesk d → All (λ (w : WindowView). IsNearFrame w.frame) d.windows
near_windows d h = All-from_get_or (λ (w : WindowView). IsNearFrame w.frame) d.windows no_window (λ k l. near_window d k (placed d k h l))

pub near_shift : (d : DeskView) (i : ℕ) (shift : WindowMove) → IsDesk d → IsShift d i shift → IsNearShift shift
near_shift d i (Screen from to) h s = (omega (arith, s.2, h.size.few_rows), omega (arith, s.3, h.size.few_columns))
near_shift d i (Surface from to) h s =
    let p = placed d s.1.0 h s.1.1 in
    (omega (arith, s.1.4, p.part.below, p.whole.size.few_rows), omega (arith, s.1.6, p.part.right, p.whole.size.few_columns))

-- the loop over all windows: some of them have their new frames
turned_links : (g : Frame → Frame) → ((f : Frame) → (g f).number ≡ f.number) → ((f : Frame) → (g f).parent ≡ f.parent) → (ws : List WindowView) → map link_of (map (reframed g) ws) ≡ map link_of ws
turned_links g p q [] = refl
turned_links g p q (w ∷ ws) = λ j. (p w.frame j, q w.frame j) ∷ turned_links g p q ws j

abbrev pub turn_of : ℕ → WindowMove → List WindowView → Frame → Frame
turn_of ancestor shift ws = family_frame (map link_of ws) (length ws) ancestor shift

partly_links : (ancestor : ℕ) (shift : WindowMove) (xs : List WindowView) (i : ℕ) → map link_of (map (reframed (turn_of ancestor shift xs)) (take i xs) ++ drop i xs) ≡ map link_of xs
partly_links ancestor shift xs i =
    let g : Frame → Frame = turn_of ancestor shift xs in
    let same : map link_of (map (reframed g) (take i xs)) ≡ map link_of (take i xs)
    = turned_links g (λ f. same_number (descends (map link_of xs) ancestor (length xs) f.number) shift f) (λ f. same_parent (descends (map link_of xs) ancestor (length xs) f.number) shift f) (take i xs) in
    map-append link_of (map (reframed g) (take i xs)) (drop i xs) ∙ ap (λ ls. ls ++ map link_of (drop i xs)) same ∙ sym (map-append link_of (take i xs) (drop i xs)) ∙ ap (map link_of) (take-append-drop i xs)

pub family_more : (ancestor : ℕ) (shift : WindowMove) (xs ys : List WindowView) (i : ℕ) (first second new : WindowView) (frame : Frame) → i < length xs
    → ys ≡ map (reframed (turn_of ancestor shift xs)) (take i xs) ++ drop i xs → frame ≡ turn_of ancestor shift ys (get_or ys i first).frame → new ≡ record (get_or ys i second) { frame = frame }
    → slice_set ys i new ≡ map (reframed (turn_of ancestor shift xs)) (take (i + 1) xs) ++ drop (i + 1) xs
family_more ancestor shift xs ys i first second new frame l ys_is frame_is new_is =
    let links : map link_of ys ≡ map link_of xs = ap (map link_of) ys_is ∙ partly_links ancestor shift xs i in
    let many : length ys ≡ length xs = sym (length_map link_of ys) ∙ ap (λ (ls : List (ℕ × Option ℕ)). length ls) links ∙ length_map link_of xs in
    reframed_more (turn_of ancestor shift xs) xs ys i first second new frame l ys_is (frame_is ∙ (λ j. family_frame (links j) (many j) ancestor shift (get_or ys i first).frame)) new_is

pub near_now : (ancestor : ℕ) (shift : WindowMove) (xs ys : List WindowView) (i : ℕ) (first : WindowView) → i < length xs → All (λ (w : WindowView). IsNearFrame w.frame) xs
    → ys ≡ map (reframed (turn_of ancestor shift xs)) (take i xs) ++ drop i xs → IsNearFrame (get_or ys i first).frame
near_now ancestor shift xs ys i first l near ys_is =
    let front : length (map (reframed (turn_of ancestor shift xs)) (take i xs)) ≡ i = length_map (reframed (turn_of ancestor shift xs)) (take i xs) ∙ length-take-le i xs (omega arith) in
    let none : i + (i - i) ≡ i = omega arith in
    let same : get_or ys i first ≡ get_or xs i first
    = ap (λ zs. get_or zs i first) ys_is ∙ get_or-append_right (map (reframed (turn_of ancestor shift xs)) (take i xs)) (drop i xs) i i first front (omega arith) ∙ get_or-drop i xs (i - i) first ∙ ap (λ n. get_or xs n first) none in
    let P : WindowView → Type 0 = λ w. IsNearFrame w.frame in
    subst P (sym same) (near i first l)

-- one window of the search upwards
pub searched_other : (links : List (ℕ × Option ℕ)) (a k number : ℕ) → ((get_or links k (0, None)).0 == number) ≡ false → descends links a (suc k) number ≡ descends links a k number
searched_other links a k number e = ap (λ t. cond t (number == a || from_parent (descends links a k) (get_or links k (0, None)).1) (descends links a k number)) e

pub searched_own : (links : List (ℕ × Option ℕ)) (a k number : ℕ) → ((get_or links k (0, None)).0 == number) ≡ true → (number == a) ≡ true → descends links a (suc k) number ≡ true
searched_own links a k number e f =
    ap (λ t. cond t (number == a || from_parent (descends links a k) (get_or links k (0, None)).1) (descends links a k number)) e ∙ ap (λ b. b || from_parent (descends links a k) (get_or links k (0, None)).1) f

pub searched_up : (links : List (ℕ × Option ℕ)) (a k number : ℕ) (parent : Option ℕ) → ((get_or links k (0, None)).0 == number) ≡ true → (number == a) ≡ false → (get_or links k (0, None)).1 ≡ parent
    → descends links a (suc k) number ≡ from_parent (descends links a k) parent
searched_up links a k number parent e f p =
    ap (λ t. cond t (number == a || from_parent (descends links a k) (get_or links k (0, None)).1) (descends links a k number)) e ∙ ap (λ b. b || from_parent (descends links a k) (get_or links k (0, None)).1) f ∙ ap (from_parent (descends links a k)) p

-- one window of the search, as the code reads it
link_read : (ws : List WindowView) (k : ℕ) (first : WindowView) (frame : Frame) → k < length ws → frame ≡ (get_or ws k first).frame → get_or (map link_of ws) k (0, None) ≡ (frame.number, frame.parent)
link_read ws k first frame l is = get_or-map link_of ws k first (0, None) l ∙ ap (λ (f : Frame). (f.number, f.parent)) (sym is)

-- what is asked of all windows is what is asked of those that are left
abbrev pub Searched : List WindowView → ℕ → ℕ → ℕ → ℕ → Type 0
Searched ws a count number whole = descends (map link_of ws) a count number ≡ descends (map link_of ws) a (length ws) whole

left_one : (ws : List WindowView) (a later number whole : ℕ) → later < length ws → Searched ws a (length ws - later) number whole → Searched ws a (suc (length ws - 1 - later)) number whole
left_one ws a later number whole l h =
    let e : length ws - later ≡ suc (length ws - 1 - later) = omega arith in
    ap (λ m. descends (map link_of ws) a m number) (sym e) ∙ h

equals : {a b : ℕ} → a ≡ b → (a == b) ≡ true
equals {a} {b} e = grind (arith, nat_tests)

differs : {a b : ℕ} → a ≢ b → (a == b) ≡ false
differs {a} {b} e = grind (arith, nat_tests)

pub up_own : (ws : List WindowView) (a later number whole : ℕ) (first : WindowView) (frame : Frame) → later < length ws → frame ≡ (get_or ws (length ws - 1 - later) first).frame → Searched ws a (length ws - later) number whole
    → frame.number ≡ number → number ≡ a → true ≡ descends (map link_of ws) a (length ws) whole
up_own ws a later number whole first frame l is h t f =
    let link = link_read ws (length ws - 1 - later) first frame (omega arith) is in
    sym (searched_own (map link_of ws) a (length ws - 1 - later) number (ap (λ (x : ℕ × Option ℕ). x.0 == number) link ∙ equals t) (equals f)) ∙ left_one ws a later number whole l h

pub up_none : (ws : List WindowView) (a later number whole : ℕ) (first : WindowView) (frame : Frame) → later < length ws → frame ≡ (get_or ws (length ws - 1 - later) first).frame → Searched ws a (length ws - later) number whole
    → frame.number ≡ number → number ≢ a → frame.parent ≡ None → false ≡ descends (map link_of ws) a (length ws) whole
up_none ws a later number whole first frame l is h t f none =
    let link = link_read ws (length ws - 1 - later) first frame (omega arith) is in
    sym (searched_up (map link_of ws) a (length ws - 1 - later) number None (ap (λ (x : ℕ × Option ℕ). x.0 == number) link ∙ equals t) (differs f) (ap (λ (x : ℕ × Option ℕ). x.1) link ∙ none)) ∙ left_one ws a later number whole l h

pub up_parent : (ws : List WindowView) (a later number parent whole : ℕ) (first : WindowView) (frame : Frame) → later < length ws → frame ≡ (get_or ws (length ws - 1 - later) first).frame → Searched ws a (length ws - later) number whole
    → frame.number ≡ number → number ≢ a → frame.parent ≡ Some parent → Searched ws a (length ws - (later + 1)) parent whole
up_parent ws a later number parent whole first frame l is h t f some =
    let link = link_read ws (length ws - 1 - later) first frame (omega arith) is in
    let e : length ws - (later + 1) ≡ length ws - 1 - later = omega arith in
    ap (λ m. descends (map link_of ws) a m parent) e
    ∙ sym (searched_up (map link_of ws) a (length ws - 1 - later) number (Some parent) (ap (λ (x : ℕ × Option ℕ). x.0 == number) link ∙ equals t) (differs f) (ap (λ (x : ℕ × Option ℕ). x.1) link ∙ some)) ∙ left_one ws a later number whole l h

pub up_other : (ws : List WindowView) (a later number whole : ℕ) (first : WindowView) (frame : Frame) → later < length ws → frame ≡ (get_or ws (length ws - 1 - later) first).frame → Searched ws a (length ws - later) number whole
    → frame.number ≢ number → Searched ws a (length ws - (later + 1)) number whole
up_other ws a later number whole first frame l is h t =
    let link = link_read ws (length ws - 1 - later) first frame (omega arith) is in
    let e : length ws - (later + 1) ≡ length ws - 1 - later = omega arith in
    ap (λ m. descends (map link_of ws) a m number) e ∙ sym (searched_other (map link_of ws) a (length ws - 1 - later) number (ap (λ (x : ℕ × Option ℕ). x.0 == number) link ∙ differs t)) ∙ left_one ws a later number whole l h

-- a subwindow that stays in its parent
pub derived_fits : (d : DeskView) (i k parent row column : ℕ) (frame : Frame) (within : Area) → frame ≡ (window_at d i).frame → frame.parent ≡ Some parent → index_of d parent ≡ Ok k → within ≡ (window_at d k).frame.area
    → row + frame.area.rows ≤ within.rows → column + frame.area.columns ≤ within.columns
    → IsShift d i (Surface (frame.area.top, frame.area.left) (within.top + row, within.left + column))
derived_fits d i k parent row column frame within frame_is parent_is at within_is rows columns =
    let there = position-Some (λ (w : WindowView). w.frame.number == parent) d.windows k no_window (was_found _ k at) in
    let number : (window_at d k).frame.number ≡ parent = is_equal _ _ there.1 in
    let whole : (window_at d i).frame.parent ≡ Some (window_at d k).frame.number = ap (λ (f : Frame). f.parent) (sym frame_is) ∙ parent_is ∙ ap Some (sym number) in
    let area : frame.area ≡ (window_at d i).frame.area = ap (λ (f : Frame). f.area) frame_is in
    let own : (frame.area.rows ≡ (window_at d i).frame.area.rows) × (frame.area.columns ≡ (window_at d i).frame.area.columns) = (ap (λ (a : Area). a.rows) area, ap (λ (a : Area). a.columns) area) in
    let above : (within.top ≡ (window_at d k).frame.area.top) × (within.left ≡ (window_at d k).frame.area.left) × (within.rows ≡ (window_at d k).frame.area.rows) × (within.columns ≡ (window_at d k).frame.area.columns)
    = (ap (λ (a : Area). a.top) within_is, ap (λ (a : Area). a.left) within_is, ap (λ (a : Area). a.rows) within_is, ap (λ (a : Area). a.columns) within_is) in (
      (λ j. ((area j).top, (area j).left)),
      (k, there.0, whole, omega (arith, above.0), omega (arith, above.0, above.2, own.0, rows), omega (arith, above.1), omega (arith, above.1, above.3, own.1, columns)),
    )

pub length_family : (ancestor : ℕ) (shift : WindowMove) (ws : List WindowView) → length (family_shifted ancestor shift ws) ≡ length ws
length_family ancestor shift ws = length_map (reframed (turn_of ancestor shift ws)) ws
