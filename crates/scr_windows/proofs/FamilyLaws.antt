-- A window and its descendants: who they are, and that they lie inside it.
use Rattle.std.proofs.Common.{◌≡◌, ◌≢◌, ◌⊎◌, inl, inr, ℕ, zero, suc, ◌+◌, ◌<◌, ◌≤◌, sym, subst, ◌∙◌, ap, refl, arith, List, [], ◌∷◌, length, map, get_or, Option, None, Some, Bool, true, false, cond, ◌==◌, ◌||◌}
use Rattle.std.specs.Prelude.{MatchOption}
use Rattle.std.proofs.lemmas.Bool.Decides.{nat_tests}
use Rattle.std.proofs.lemmas.List.{get_or-map}
use Rattle.scr_windows.specs.declared.surfaces.areas.Area.{Area}
use Rattle.scr_windows.specs.declared.frames.Frame.{Frame}
use Rattle.scr_windows.specs.DeskViews.{WindowView, IsChild, IsInsideOnScreen, no_frame}
use Rattle.scr_windows.specs.Code.Families.{link_of, from_parent, descends}
use Rattle.scr_windows.proofs.DeskLaws.{frame_of}

abbrev pub frame_link : Frame → ℕ × Option ℕ
frame_link f = (f.number, f.parent)

abbrev pub no_link : ℕ × Option ℕ
no_link = (0, None)

pub map_links : (ws : List WindowView) → map link_of ws ≡ map frame_link (map frame_of ws)
map_links [] = refl
map_links (w ∷ ws) = ap (λ ls. link_of w ∷ ls) (map_links ws)

-- windows that do not have the number do not count
descends_below : (links : List (ℕ × Option ℕ)) (a x k n : ℕ) → k < n → ((j : ℕ) → k < j → j < n → (get_or links j no_link).0 ≢ x) → descends links a n x ≡ descends links a (suc k) x
descends_below links a x k zero l other = absurd (omega (arith, l))
descends_below links a x k (suc m) l other = elim (last_or_less k m l) [
  | inl e ↦ ap (λ n. descends links a (suc n) x) (sym e)
  | inr b ↦ (let no : ((get_or links m no_link).0 == x) ≡ false = differs _ _ (other m b (omega arith)) in
      ap (λ t. cond t (x == a || from_parent (descends links a m) (get_or links m no_link).1) (descends links a m x)) no
      ∙ descends_below links a x k m b (λ j c d. other j c (omega arith)))
]
  where
    last_or_less : (k m : ℕ) → k < suc m → (k ≡ m) ⊎ (k < m)
    last_or_less k m l = grind arith

    differs : (b x : ℕ) → b ≢ x → (b == x) ≡ false
    differs b x h = grind (arith, nat_tests)

-- the window of a number is asked for, and then its parent
descends_at : (links : List (ℕ × Option ℕ)) (a k : ℕ) → descends links a (suc k) (get_or links k no_link).0 ≡ ((get_or links k no_link).0 == a || from_parent (descends links a k) (get_or links k no_link).1)
descends_at links a k =
    let x : ℕ = (get_or links k no_link).0 in
    let yes : (x == x) ≡ true = same x in
    ap (λ t. cond t (x == a || from_parent (descends links a k) (get_or links k no_link).1) (descends links a k x)) yes
  where
    same : (x : ℕ) → (x == x) ≡ true
    same x = grind (arith, nat_tests)

-- frames by ascending numbers
abbrev pub Ascends : List Frame → Type 0
Ascends frames = (i j : ℕ) → i < j → j < length frames → (get_or frames i no_frame).number < (get_or frames j no_frame).number

less_or_more : (a b : ℕ) → (a < b) ⊎ ((a ≡ b) ⊎ (b < a))
less_or_more a b = grind arith

pub one_index : (frames : List Frame) (i j : ℕ) → Ascends frames → i < length frames → j < length frames → (get_or frames i no_frame).number ≡ (get_or frames j no_frame).number → i ≡ j
one_index frames i j up h k e = elim (less_or_more i j) [
  | inl l ↦ absurd (omega (arith, up i j l k, e))
  | inr r ↦ elim r [ inl s ↦ s | inr l ↦ absurd (omega (arith, up j i l h, e)) ]
]

pub stands_before : (frames : List Frame) (i j : ℕ) → Ascends frames → i < length frames → j < length frames → (get_or frames i no_frame).number < (get_or frames j no_frame).number → i < j
stands_before frames i j up h k e = elim (less_or_more i j) [
  | inl l ↦ l
  | inr r ↦ elim r [ inl s ↦ absurd (omega (arith, e, ap (λ n. (get_or frames n no_frame).number) s)) | inr l ↦ absurd (omega (arith, up j i l h, e)) ]
]

-- whether the frame at an index descends from the window of a number
abbrev pub Family : List Frame → ℕ → ℕ → Bool
Family frames a number = descends (map frame_link frames) a (length frames) number

link_at : (frames : List Frame) (k : ℕ) → k < length frames → get_or (map frame_link frames) k no_link ≡ frame_link (get_or frames k no_frame)
link_at frames k h = get_or-map frame_link frames k no_frame no_link h

-- the windows after one have other numbers
family_below : (frames : List Frame) (a k n : ℕ) → Ascends frames → k < n → n ≤ length frames
    → descends (map frame_link frames) a n (get_or frames k no_frame).number ≡ descends (map frame_link frames) a (suc k) (get_or frames k no_frame).number
family_below frames a k n up l few =
    descends_below (map frame_link frames) a (get_or frames k no_frame).number k n l (λ j b c e.
    let at : (get_or (map frame_link frames) j no_link).0 ≡ (get_or frames j no_frame).number = ap (λ (x : ℕ × Option ℕ). x.0) (link_at frames j (omega arith)) in
    omega (arith, up k j b (omega arith), at, e))

family_at : (frames : List Frame) (a k : ℕ) → Ascends frames → k < length frames
    → Family frames a (get_or frames k no_frame).number ≡ ((get_or frames k no_frame).number == a || from_parent (descends (map frame_link frames) a k) (get_or frames k no_frame).parent)
family_at frames a k up h =
    let at : get_or (map frame_link frames) k no_link ≡ frame_link (get_or frames k no_frame) = link_at frames k h in
    let P : ℕ × Option ℕ → Type 0 = λ x. descends (map frame_link frames) a (suc k) x.0 ≡ (x.0 == a || from_parent (descends (map frame_link frames) a k) x.1) in
    family_below frames a k (length frames) up h (omega arith) ∙ subst P at (descends_at (map frame_link frames) a k)

-- a window without a parent descends from itself alone
pub root_family : (frames : List Frame) (a k : ℕ) → Ascends frames → k < length frames → (get_or frames k no_frame).parent ≡ None
    → Family frames a (get_or frames k no_frame).number ≡ ((get_or frames k no_frame).number == a || false)
root_family frames a k up h none =
    family_at frames a k up h ∙ ap (λ o. ((get_or frames k no_frame).number == a || from_parent (descends (map frame_link frames) a k) o)) none

-- and a subwindow from itself, and from whom its parent descends
pub child_family : (frames : List Frame) (a k m number : ℕ) → Ascends frames → k < length frames → m < length frames → (get_or frames k no_frame).parent ≡ Some number
    → (get_or frames m no_frame).number ≡ number → (get_or frames m no_frame).number < (get_or frames k no_frame).number
    → Family frames a (get_or frames k no_frame).number ≡ ((get_or frames k no_frame).number == a || Family frames a (get_or frames m no_frame).number)
child_family frames a k m number up h l parent is later =
    let before : m < k = stands_before frames m k up l h later in
    let links : List (ℕ × Option ℕ) = map frame_link frames in
    let above : descends links a k number ≡ Family frames a (get_or frames m no_frame).number
    = ap (λ x. descends links a k x) (sym is) ∙ family_below frames a m k up before (omega arith) ∙ sym (family_below frames a m (length frames) up l (omega arith)) in
    family_at frames a k up h ∙ ap (λ o. ((get_or frames k no_frame).number == a || from_parent (descends links a k) o)) parent ∙ ap (λ b. (get_or frames k no_frame).number == a || b) above

-- a frame lies inside another on the surface and on the screen, and is the same or was made later
pub record Within (frame root : Frame) : Type 0 where
  pub later : root.number ≤ frame.number
  pub surface : frame.surface ≡ root.surface
  pub above : root.area.top ≤ frame.area.top
  pub below : frame.area.top + frame.area.rows ≤ root.area.top + root.area.rows
  pub left : root.area.left ≤ frame.area.left
  pub right : frame.area.left + frame.area.columns ≤ root.area.left + root.area.columns
  pub on_screen : IsInsideOnScreen frame.origin frame.area root.origin root.area

inside_itself : (o : Option (ℕ × ℕ)) (a : Area) → IsInsideOnScreen o a o a
inside_itself None a = tt
inside_itself (Some p) a = (omega arith, omega arith, omega arith, omega arith)

inside_more : (o p q : Option (ℕ × ℕ)) (a b c : Area) → IsInsideOnScreen o a p b → IsInsideOnScreen p b q c → IsInsideOnScreen o a q c
inside_more None None q a b c h k = k
inside_more None (Some p) q a b c h k = absurd h
inside_more (Some o) None q a b c h k = absurd h
inside_more (Some o) (Some p) None a b c h k = absurd k
inside_more (Some o) (Some p) (Some q) a b c h k = (omega (arith, h.0, k.0), omega (arith, h.1, k.1), omega (arith, h.2, k.2), omega (arith, h.3, k.3))

within_itself : (f : Frame) → Within f f
within_itself f = record { later = omega arith; surface = refl; above = omega arith; below = omega arith; left = omega arith; right = omega arith; on_screen = inside_itself f.origin f.area }

within_more : (f g root : Frame) → IsChild f g → Within g root → Within f root
within_more f g root c h = record {
  later = omega (arith, c.later, h.later);
  surface = c.surface ∙ h.surface;
  above = omega (arith, c.above, h.above);
  below = omega (arith, c.below, h.below);
  left = omega (arith, c.left, h.left);
  right = omega (arith, c.right, h.right);
  on_screen = inside_more f.origin g.origin root.origin f.area g.area root.area c.on_screen h.on_screen;
}

-- the parent of a frame is among these
abbrev pub HasParent : List Frame → Frame → Type 0
HasParent frames frame = MatchOption frame.parent (Unit {0}) (λ number. (k : ℕ) × (k < length frames) × ((get_or frames k no_frame).number ≡ number) × IsChild frame (get_or frames k no_frame))

either_tells : (x : ℕ) (a : ℕ) (b : Bool) → (x == a || b) ≡ true → (x ≡ a) ⊎ (b ≡ true)
either_tells x a true h = inr refl
either_tells x a false h = inl (equal x a h)
  where
    equal : (x a : ℕ) → (x == a || false) ≡ true → x ≡ a
    equal x a h = grind (arith, nat_tests)

-- the frame at an index
abbrev pub frame_at : List Frame → ℕ → Frame
frame_at frames k = get_or frames k no_frame

-- the descendants of a window lie inside it
pub family_within : (frames : List Frame) (i : ℕ) → Ascends frames → ((k : ℕ) → k < length frames → HasParent frames (get_or frames k no_frame)) → i < length frames
    → (k : ℕ) → k < length frames → Family frames (get_or frames i no_frame).number (get_or frames k no_frame).number ≡ true → Within (get_or frames k no_frame) (get_or frames i no_frame)
family_within frames i up parents l k h t = upto (suc k) k (omega arith) h t
  where
    itself : (k : ℕ) → k < length frames → (frame_at frames k).number ≡ (frame_at frames i).number → Within (frame_at frames k) (frame_at frames i)
    itself k h e = (let P : ℕ → Type 0 = λ n. Within (frame_at frames n) (frame_at frames i) in subst P (sym (one_index frames k i up h l e)) (within_itself (frame_at frames i)))

    step : (k : ℕ) → k < length frames → ((m : ℕ) → m < k → m < length frames → Family frames (frame_at frames i).number (frame_at frames m).number ≡ true → Within (frame_at frames m) (frame_at frames i))
        → (o : Option ℕ) → (frame_at frames k).parent ≡ o → MatchOption o (Unit {0}) (λ number. (m : ℕ) × (m < length frames) × ((frame_at frames m).number ≡ number) × IsChild (frame_at frames k) (frame_at frames m))
        → Family frames (frame_at frames i).number (frame_at frames k).number ≡ true → Within (frame_at frames k) (frame_at frames i)
    step k h before None e has t = elim (either_tells _ _ _ (sym (root_family frames (frame_at frames i).number k up h e) ∙ t)) [ inl s ↦ itself k h s | inr f ↦ absurd (let z : ⊥ = (cc) in z) ]
    step k h before (Some number) e has t =
        elim (either_tells _ _ _ (sym (child_family frames (frame_at frames i).number k has.0 number up h has.1 e has.2 has.3.later) ∙ t)) [
          | inl s ↦ itself k h s
          | inr f ↦ within_more (frame_at frames k) (frame_at frames has.0) (frame_at frames i) has.3 (before has.0 (stands_before frames has.0 k up has.1 h has.3.later) has.1 f)
        ]

    upto : (n k : ℕ) → k < n → k < length frames → Family frames (frame_at frames i).number (frame_at frames k).number ≡ true → Within (frame_at frames k) (frame_at frames i)
    upto zero k b h t = absurd (omega (arith, b))
    upto (suc n) k b h t = step k h (λ m c d s. upto n m (omega arith) d s) (frame_at frames k).parent refl (parents k h) t
