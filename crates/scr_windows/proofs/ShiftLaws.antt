-- Frames of which one and its descendants are shifted keep what frames keep.
use Rattle.std.proofs.Common.{◌≡◌, ℕ, ◌+◌, ◌<◌, ◌≤◌, sym, subst, ◌∙◌, ap, refl, arith, List, length, map, get_or, Option, None, Some, Bool, true, false, cond, ◌==◌, ◌||◌}
use Rattle.std.specs.Prelude.{MatchOption}
use Rattle.std.proofs.lemmas.Bool.Decides.{nat_tests}
use Rattle.std.proofs.lemmas.List.{get_or-map}
use Rattle.std.proofs.lemmas.List.Elements.{All-from_get_or}
use Rattle.scr_windows.specs.declared.surfaces.areas.Area.{Area}
use Rattle.scr_windows.specs.declared.frames.Frame.{Frame}
use Rattle.scr_windows.specs.declared.calls.moving.WindowMove.{WindowMove}
use Rattle.scr_windows.specs.declared.calls.moving.WindowMove.TheVariants.{Screen, Surface}
use Rattle.scr_windows.specs.DeskViews.{IsPlaced, IsChild, IsInsideOnScreen, AreFrames, no_frame}
use Rattle.scr_windows.specs.Calls.Moving.{area_shifted, origin_shifted, shifted}
use Rattle.scr_windows.specs.Code.Families.{family_frame}
use Rattle.scr_windows.proofs.DeskLaws.{length_map}
use Rattle.scr_windows.proofs.FrameLaws.{own_kept}
use Rattle.scr_windows.proofs.FamilyLaws.{frame_at, Ascends, Family, HasParent, Within, child_family, family_within, frame_link, one_index}

-- a frame that may have been shifted
abbrev pub turned : Bool → WindowMove → Frame → Frame
turned b shift f = cond b (shifted shift f) f

pub same_number : (b : Bool) (shift : WindowMove) (f : Frame) → (turned b shift f).number ≡ f.number
same_number false shift f = refl
same_number true (Screen from to) f = refl
same_number true (Surface from to) f = refl

pub same_parent : (b : Bool) (shift : WindowMove) (f : Frame) → (turned b shift f).parent ≡ f.parent
same_parent false shift f = refl
same_parent true (Screen from to) f = refl
same_parent true (Surface from to) f = refl

pub same_rows : (b : Bool) (shift : WindowMove) (f : Frame) → (turned b shift f).area.rows ≡ f.area.rows
same_rows false shift f = refl
same_rows true (Screen from to) f = refl
same_rows true (Surface from to) f = refl

pub same_columns : (b : Bool) (shift : WindowMove) (f : Frame) → (turned b shift f).area.columns ≡ f.area.columns
same_columns false shift f = refl
same_columns true (Screen from to) f = refl
same_columns true (Surface from to) f = refl

-- a shift begins at the window that is moved
abbrev pub Begins : WindowMove → Frame → Type 0
Begins (Screen from to) root = root.origin ≡ Some from
Begins (Surface from to) root = from ≡ (root.area.top, root.area.left)

-- and ends where the window is inside
abbrev Ends : ℕ → ℕ → (ℕ → ℕ × ℕ) → WindowMove → Frame → Type 0
Ends rows columns sizes (Screen from to) root = (to.0 + root.area.rows ≤ rows) × (to.1 + root.area.columns ≤ columns)
Ends rows columns sizes (Surface from to) root =
    (to.0 + root.area.rows ≤ (sizes root.surface).0) × (to.1 + root.area.columns ≤ (sizes root.surface).1)

-- a place that is inside comes to one that is inside
on_screen_still : (rows columns : ℕ) (o : Option (ℕ × ℕ)) (a b : Area) (from to : ℕ × ℕ) → IsInsideOnScreen o a (Some from) b → to.0 + b.rows ≤ rows → to.1 + b.columns ≤ columns
    → MatchOption (origin_shifted from to o) (Unit {0}) (λ place. (place.0 + a.rows ≤ rows) × (place.1 + a.columns ≤ columns))
on_screen_still rows columns None a b from to h k l = tt
on_screen_still rows columns (Some p) a b from to h k l = (omega (arith, h.0, h.1), omega (arith, h.2, h.3))

shifted_placed : (rows columns : ℕ) (sizes : ℕ → ℕ × ℕ) (shift : WindowMove) (f root : Frame) → Begins shift root → Ends rows columns sizes shift root → Within f root → IsPlaced rows columns sizes f → IsPlaced rows columns sizes (shifted shift f)
shifted_placed rows columns sizes (Screen from to) f root begins ends h p =
    let P : Option (ℕ × ℕ) → Type 0 = λ o. IsInsideOnScreen f.origin f.area o root.area in
    record {
      some_rows = p.some_rows;
      some_columns = p.some_columns;
      below = p.below;
      right = p.right;
      origin = on_screen_still rows columns f.origin f.area root.area from to (subst P begins h.on_screen) ends.0 ends.1;
    }
shifted_placed rows columns sizes (Surface from to) f root begins ends h p =
    let size : sizes f.surface ≡ sizes root.surface = ap sizes h.surface in
    let top : from.0 ≡ root.area.top = ap (λ (x : ℕ × ℕ). x.0) begins in
    let left : from.1 ≡ root.area.left = ap (λ (x : ℕ × ℕ). x.1) begins in
    record {
      some_rows = p.some_rows;
      some_columns = p.some_columns;
      below = omega (arith, top, h.above, h.below, ends.0, ap (λ (z : ℕ × ℕ). z.0) size);
      right = omega (arith, left, h.left, h.right, ends.1, ap (λ (z : ℕ × ℕ). z.1) size);
      origin = p.origin;
    }

-- a subwindow that moves with its parent stays inside
inside_still : (o p : Option (ℕ × ℕ)) (a b c : Area) (from to : ℕ × ℕ) → IsInsideOnScreen o a p b → IsInsideOnScreen p b (Some from) c → IsInsideOnScreen (origin_shifted from to o) a (origin_shifted from to p) b
inside_still None None a b c from to h k = tt
inside_still None (Some p) a b c from to h k = h
inside_still (Some o) None a b c from to h k = h
inside_still (Some o) (Some p) a b c from to h k = (omega (arith, h.0, k.0), omega (arith, h.0, h.1, k.0), omega (arith, h.2, k.2), omega (arith, h.2, h.3, k.2))

-- another area of the same size
inside_same : (o p : Option (ℕ × ℕ)) (a b c d : Area) → c.rows ≡ a.rows → c.columns ≡ a.columns → d.rows ≡ b.rows → d.columns ≡ b.columns → IsInsideOnScreen o a p b → IsInsideOnScreen o c p d
inside_same None None a b c d e f g i h = tt
inside_same None (Some p) a b c d e f g i h = h
inside_same (Some o) None a b c d e f g i h = h
inside_same (Some o) (Some p) a b c d e f g i h = (h.0, omega (arith, h.1, e, g), h.2, omega (arith, h.3, f, i))

child_shifted : (shift : WindowMove) (f g root : Frame) → Begins shift root → Within g root → IsChild f g → IsChild (shifted shift f) (shifted shift g)
child_shifted (Screen from to) f g root begins h c =
    let P : Option (ℕ × ℕ) → Type 0 = λ o. IsInsideOnScreen g.origin g.area o root.area in
    record {
      later = c.later;
      surface = c.surface;
      above = c.above;
      below = c.below;
      left = c.left;
      right = c.right;
      on_screen = inside_still f.origin g.origin f.area g.area root.area from to c.on_screen (subst P begins h.on_screen);
    }
child_shifted (Surface from to) f g root begins h c =
    let top : from.0 ≡ root.area.top = ap (λ (x : ℕ × ℕ). x.0) begins in
    let left : from.1 ≡ root.area.left = ap (λ (x : ℕ × ℕ). x.1) begins in
    record {
      later = c.later;
      surface = c.surface;
      above = omega (arith, c.above);
      below = omega (arith, c.above, c.below, top, h.above);
      left = omega (arith, c.left);
      right = omega (arith, c.left, c.right, left, h.left);
      on_screen = inside_same f.origin g.origin f.area g.area (area_shifted from to f.area) (area_shifted from to g.area) refl refl refl refl c.on_screen;
    }

-- the window that is moved stays in its parent, or has none
abbrev pub Stays : List Frame → WindowMove → Frame → Type 0
Stays frames (Screen from to) root = root.parent ≡ None
Stays frames (Surface from to) root =
    (k : ℕ) × (k < length frames) × (root.parent ≡ Some (get_or frames k no_frame).number)
    × ((get_or frames k no_frame).area.top ≤ to.0) × (to.0 + root.area.rows ≤ (get_or frames k no_frame).area.top + (get_or frames k no_frame).area.rows)
    × ((get_or frames k no_frame).area.left ≤ to.1) × (to.1 + root.area.columns ≤ (get_or frames k no_frame).area.left + (get_or frames k no_frame).area.columns)

some_same : (a b : ℕ) (o : Option ℕ) → o ≡ Some a → o ≡ Some b → a ≡ b
some_same a b o e f = (let g : Some a ≡ Some b = sym e ∙ f in (cc))

own_shifted : (frames : List Frame) (shift : WindowMove) (root : Frame) (m number : ℕ) → Ascends frames → Begins shift root → Stays frames shift root → root.parent ≡ Some number → m < length frames
    → (get_or frames m no_frame).number ≡ number → IsChild root (get_or frames m no_frame) → IsChild (shifted shift root) (get_or frames m no_frame)
own_shifted frames (Screen from to) root m number up begins stays parent h is c = absurd (let e : None ≡ Some number = sym stays ∙ parent in (cc))
own_shifted frames (Surface from to) root m number up begins stays parent h is c =
    let k : ℕ = stays.0 in
    let one : (get_or frames k no_frame).number ≡ number = some_same _ _ root.parent stays.2 parent in
    let index : k ≡ m = one_index frames k m up stays.1 h (one ∙ sym is) in
    let same : get_or frames k no_frame ≡ get_or frames m no_frame = ap (λ n. get_or frames n no_frame) index in
    let P : Frame → Type 0 = λ g. (g.area.top ≤ to.0) × (to.0 + root.area.rows ≤ g.area.top + g.area.rows) × (g.area.left ≤ to.1) × (to.1 + root.area.columns ≤ g.area.left + g.area.columns) in
    let in' = subst P same (stays.3, stays.4, stays.5, stays.6) in
    let top : from.0 ≡ root.area.top = ap (λ (x : ℕ × ℕ). x.0) begins in
    let left : from.1 ≡ root.area.left = ap (λ (x : ℕ × ℕ). x.1) begins in
    let g : Frame = get_or frames m no_frame in
    record {
      later = c.later;
      surface = c.surface;
      above = omega (arith, in'.0);
      below = omega (arith, in'.1, top);
      left = omega (arith, in'.2);
      right = omega (arith, in'.3, left);
      on_screen = inside_same root.origin g.origin root.area g.area (area_shifted from to root.area) g.area refl refl refl refl c.on_screen;
    }

-- the window that is moved is on the screen afterwards, if it moves there
abbrev pub FitsScreen : ℕ → ℕ → WindowMove → Frame → Type 0
FitsScreen rows columns (Screen from to) root = (to.0 + root.area.rows ≤ rows) × (to.1 + root.area.columns ≤ columns)
FitsScreen rows columns (Surface from to) root = Unit {0}

ends_of : (rows columns : ℕ) (sizes : ℕ → ℕ × ℕ) (made : ℕ) (frames : List Frame) (i : ℕ) (shift : WindowMove) → AreFrames rows columns sizes made frames → i < length frames
    → FitsScreen rows columns shift (get_or frames i no_frame) → Stays frames shift (get_or frames i no_frame) → Ends rows columns sizes shift (get_or frames i no_frame)
ends_of rows columns sizes made frames i (Screen from to) h l fits stays = fits
ends_of rows columns sizes made frames i (Surface from to) h l fits stays =
    let root : Frame = get_or frames i no_frame in
    let k : ℕ = stays.0 in
    let P : Option ℕ → Type 0 = λ o. MatchOption o (Unit {0}) (λ given. (m : ℕ) × (m < length frames) × ((get_or frames m no_frame).number ≡ given) × IsChild root (get_or frames m no_frame)) in
    let has = subst P stays.2 (h.parents i no_frame l) in
    let index : has.0 ≡ k = one_index frames has.0 k h.ascending has.1 stays.1 has.2 in
    let surface : root.surface ≡ (get_or frames k no_frame).surface = has.3.surface ∙ ap (λ n. (get_or frames n no_frame).surface) index in
    let size : sizes root.surface ≡ sizes (get_or frames k no_frame).surface = ap sizes surface in
    let p = h.placed k no_frame stays.1 in
    (omega (arith, stays.4, p.below, ap (λ (z : ℕ × ℕ). z.0) size), omega (arith, stays.6, p.right, ap (λ (z : ℕ × ℕ). z.1) size))

or_true : (b : Bool) → (b || true) ≡ true
or_true true = refl
or_true false = refl

or_false : (b : Bool) → (b || false) ≡ true → b ≡ true
or_false true h = refl
or_false false h = h

-- a subwindow that may move, of a parent that may move
child_turned : (shift : WindowMove) (f g root : Frame) (own bf bg : Bool) → Begins shift root → bf ≡ (own || bg) → (bg ≡ true → Within g root) → (own ≡ true → IsChild (shifted shift f) g) → IsChild f g
    → IsChild (turned bf shift f) (turned bg shift g)
child_turned shift f g root own true true begins e w alone c = child_shifted shift f g root begins (w refl) c
child_turned shift f g root own true false begins e w alone c = alone (or_false own (sym e))
child_turned shift f g root own false true begins e w alone c = absurd (let z : false ≡ true = e ∙ or_true own in (cc))
child_turned shift f g root own false false begins e w alone c = c

placed_turned : (rows columns : ℕ) (sizes : ℕ → ℕ × ℕ) (shift : WindowMove) (f root : Frame) (b : Bool) → Begins shift root → Ends rows columns sizes shift root → (b ≡ true → Within f root) → IsPlaced rows columns sizes f
    → IsPlaced rows columns sizes (turned b shift f)
placed_turned rows columns sizes shift f root false begins ends w p = p
placed_turned rows columns sizes shift f root true begins ends w p = shifted_placed rows columns sizes shift f root begins ends (w refl) p

-- a window that moves is on the surface that it was on
same_surface : (b : Bool) (shift : WindowMove) (f : Frame) → (turned b shift f).surface ≡ f.surface
same_surface false shift f = refl
same_surface true (Screen from to) f = refl
same_surface true (Surface from to) f = refl

pub is_equal : (a b : ℕ) → (a == b) ≡ true → a ≡ b
is_equal a b h = grind (arith, nat_tests)

-- whether the frame at an index descends from that at another
abbrev is_family : List Frame → ℕ → ℕ → Bool
is_family frames i k = Family frames (frame_at frames i).number (frame_at frames k).number

abbrev turn : List Frame → ℕ → WindowMove → Frame → Frame
turn frames i shift = family_frame (map frame_link frames) (length frames) (frame_at frames i).number shift

abbrev after : List Frame → ℕ → WindowMove → List Frame
after frames i shift = map (turn frames i shift) frames

pub frames_moved : (rows columns : ℕ) (sizes : ℕ → ℕ × ℕ) (made : ℕ) (frames : List Frame) (i : ℕ) (shift : WindowMove) → AreFrames rows columns sizes made frames → i < length frames
    → Begins shift (get_or frames i no_frame) → FitsScreen rows columns shift (get_or frames i no_frame) → Stays frames shift (get_or frames i no_frame)
    → AreFrames rows columns sizes made (map (family_frame (map frame_link frames) (length frames) (get_or frames i no_frame).number shift) frames)
frames_moved rows columns sizes made frames i shift h l begins fits stays = record {
  few = omega (arith, length_map (turn frames i shift) frames, h.few);
  placed = All-from_get_or (IsPlaced rows columns sizes) (after frames i shift) no_frame (λ k b. (let P : Frame → Type 0 = λ f. IsPlaced rows columns sizes f in subst P (sym (now k (here k b)))
      (placed_turned rows columns sizes shift (frame_at frames k) (frame_at frames i) (is_family frames i k) begins ends (within k (here k b)) (h.placed k no_frame (here k b)))));
  numbers = All-from_get_or (λ (f : Frame). f.number ≤ made) (after frames i shift) no_frame (λ k b. omega (arith, number k (here k b), h.numbers k no_frame (here k b)));
  ascending = (λ a b less in'. omega (arith, number a (omega (arith, here b in')), number b (here b in'), h.ascending a b less (here b in')));
  own = own_kept frames (after frames i shift) (length_map (turn frames i shift) frames) (λ k b. ap (λ (f : Frame). f.parent) (now k b) ∙ same_parent (is_family frames i k) shift (frame_at frames k)) (λ j k a b same. sym (surface j a) ∙ same ∙ surface k b) h.own;
  parents = All-from_get_or (HasParent (after frames i shift)) (after frames i shift) no_frame (λ k b. (let P : Frame → Type 0 = λ f. HasParent (after frames i shift) f in subst P (sym (now k (here k b))) (parent k (here k b))));
}
  where
    ends : Ends rows columns sizes shift (get_or frames i no_frame)
    ends = ends_of rows columns sizes made frames i shift h l fits stays

    here : (k : ℕ) → k < length (after frames i shift) → k < length frames
    here k b = omega (arith, b, length_map (turn frames i shift) frames)

    now : (k : ℕ) → k < length frames → get_or (after frames i shift) k no_frame ≡ turned (is_family frames i k) shift (frame_at frames k)
    now k b = get_or-map (turn frames i shift) frames k no_frame no_frame b

    number : (k : ℕ) → k < length frames → (get_or (after frames i shift) k no_frame).number ≡ (frame_at frames k).number
    number k b = ap (λ (f : Frame). f.number) (now k b) ∙ same_number (is_family frames i k) shift (frame_at frames k)

    surface : (k : ℕ) → k < length frames → (get_or (after frames i shift) k no_frame).surface ≡ (frame_at frames k).surface
    surface k b = ap (λ (f : Frame). f.surface) (now k b) ∙ same_surface (is_family frames i k) shift (frame_at frames k)

    within : (k : ℕ) → k < length frames → is_family frames i k ≡ true → Within (frame_at frames k) (frame_at frames i)
    within k b t = family_within frames i h.ascending (λ m c. h.parents m no_frame c) l k b t

    own : (k m given : ℕ) → k < length frames → m < length frames → (frame_at frames k).parent ≡ Some given → (frame_at frames m).number ≡ given → IsChild (frame_at frames k) (frame_at frames m) → ((frame_at frames k).number == (frame_at frames i).number) ≡ true → IsChild (shifted shift (frame_at frames k)) (frame_at frames m)
    own k m given b d e q c t =
        let P : ℕ → Type 0 = λ n. (frame_at frames n).parent ≡ Some given → IsChild (frame_at frames n) (frame_at frames m) → IsChild (shifted shift (frame_at frames n)) (frame_at frames m) in
        subst P (sym (one_index frames k i h.ascending b l (is_equal _ _ t))) (λ e2 c2. own_shifted frames shift (frame_at frames i) m given h.ascending begins stays e2 d q c2) e c

    parent : (k : ℕ) → k < length frames → HasParent (after frames i shift) (turned (is_family frames i k) shift (frame_at frames k))
    parent k b = (let P : Option ℕ → Type 0 = λ o. MatchOption o (Unit {0}) (λ given. (m : ℕ) × (m < length (after frames i shift)) × ((get_or (after frames i shift) m no_frame).number ≡ given) × IsChild (turned (is_family frames i k) shift (frame_at frames k)) (get_or (after frames i shift) m no_frame)) in
        subst P (sym (same_parent (is_family frames i k) shift (frame_at frames k))) (kept (frame_at frames k).parent refl (h.parents k no_frame b)))
      where
        kept : (o : Option ℕ) → (frame_at frames k).parent ≡ o → MatchOption o (Unit {0}) (λ given. (m : ℕ) × (m < length frames) × ((frame_at frames m).number ≡ given) × IsChild (frame_at frames k) (frame_at frames m))
            → MatchOption o (Unit {0}) (λ given. (m : ℕ) × (m < length (after frames i shift)) × ((get_or (after frames i shift) m no_frame).number ≡ given) × IsChild (turned (is_family frames i k) shift (frame_at frames k)) (get_or (after frames i shift) m no_frame))
        kept None e has = tt
        kept (Some given) e has =
            let m : ℕ = has.0 in
            let Q : Frame → Type 0 = λ g. IsChild (turned (is_family frames i k) shift (frame_at frames k)) g in (
              m,
              omega (arith, has.1, length_map (turn frames i shift) frames),
              number m has.1 ∙ has.2,
              subst Q (sym (now m has.1)) (child_turned shift (frame_at frames k) (frame_at frames m) (frame_at frames i) ((frame_at frames k).number == (frame_at frames i).number) (is_family frames i k) (is_family frames i m) begins
                  (child_family frames (frame_at frames i).number k m given h.ascending b has.1 e has.2 has.3.later) (within m has.1) (own k m given b has.1 e has.2 has.3) has.3),
            )
