-- Ancestors of a window, and lines that are touched with theirs.
use Rattle.std.proofs.Common.{◌≡◌, ◌≢◌, ◌⊎◌, inl, inr, ℕ, ◌+◌, ◌-◌, ◌<◌, ◌≤◌, sym, subst, ◌∙◌, ap, refl, arith, List, [], ◌∷◌, zero, suc, length, map, get_or, Option, None, Some, Bool, true, false, not, cond, leb, ltb, min, max, ◌==◌, ◌&&◌, ◌||◌}
use Rattle.std.specs.Prelude.{slice_set, MatchOption}
use Rattle.std.specs.List.{list_any, position, position_or_len, range_with_len}
use Rattle.std.proofs.Math.Seq.{map-set_same}
use Rattle.std.proofs.lemmas.Bool.Decides.{nat_tests}
use Rattle.std.proofs.lemmas.List.{get_or-map, get_or-set_other, get_or-set_same, set-get_or, get_or_past, take_all, length-set}
use Rattle.std.proofs.lemmas.List.FromFn.{get_or-map-range_with_len, length-map-range_with_len}
use Rattle.std.proofs.lemmas.List.Quantifiers.{position-Some}
use Rattle.scr_windows.specs.declared.frames.Frame.{Frame}
use Rattle.scr_windows.specs.DeskViews.{WindowView, DeskView, IsWindow, IsChild, IsDesk, window_at, no_frame, no_window}
use Rattle.scr_windows.specs.Changes.{with_window, marked, marked_lines}
use Rattle.scr_windows.specs.Calls.Syncing.{frames_of, index_of_parent, parent_index, chain, ancestors, touched_at, with_touched, touched_up, touched_down}
use Rattle.scr_windows.proofs.GridLaws.{map_range, part_is}
use Rattle.scr_windows.proofs.DeskLaws.{frame_of, length_map}

-- a list is its elements in order
each_in_order : {X : Type 0} (xs : List X) (f : ℕ → X) (d : X) → ((k : ℕ) → k < length xs → get_or xs k d ≡ f k) → xs ≡ map f (range_with_len 0 (length xs))
each_in_order xs f d h =
    sym (take_all (length xs) xs (omega arith)) ∙ part_is xs f d 0 0 (length xs) (omega arith) (λ k b. let y : 0 + k ≡ k = omega arith in ap (λ i. get_or xs i d) y ∙ h k b ∙ ap f (sym y))

set_twice : {X : Type 0} (xs : List X) (i : ℕ) (x y : X) → slice_set (slice_set xs i x) i y ≡ slice_set xs i y
set_twice [] i x y = refl
set_twice (z ∷ xs) zero x y = refl
set_twice (z ∷ xs) (suc i) x y = ap (λ zs. z ∷ zs) (set_twice xs i x y)

-- lines of a window that are touched

pub touched_same : (w : WindowView) (f g : ℕ → Bool) → ((r : ℕ) → r < length w.touched → (get_or w.touched r false || f (w.frame.area.top + r)) ≡ (get_or w.touched r false || g (w.frame.area.top + r))) → with_touched f w ≡ with_touched g w
touched_same w f g h =
    let lines = map_range (λ r. get_or w.touched r false || f (w.frame.area.top + r)) (λ r. get_or w.touched r false || g (w.frame.area.top + r)) 0 (length w.touched) (λ k a b. h k (omega arith)) in
    (λ j. record w { touched = lines j })

pub touched_none : (w : WindowView) (f : ℕ → Bool) → ((r : ℕ) → r < length w.touched → f (w.frame.area.top + r) ≡ false) → with_touched f w ≡ w
touched_none w f h =
    let lines = each_in_order w.touched (λ r. get_or w.touched r false || f (w.frame.area.top + r)) false (λ k b. none (get_or w.touched k false) (f (w.frame.area.top + k)) (h k b)) in
    (λ j. record w { touched = sym lines j })
  where
    none : (a b : Bool) → b ≡ false → a ≡ (a || b)
    none true b e = refl
    none false b e = sym e

pub touched_twice : (w : WindowView) (f g : ℕ → Bool) → with_touched f (with_touched g w) ≡ with_touched (λ row. g row || f row) w
touched_twice w f g =
    let top = w.frame.area.top in
    let once : List Bool = map (λ r. get_or w.touched r false || g (top + r)) (range_with_len 0 (length w.touched)) in
    let many : length once ≡ length w.touched = length-map-range_with_len _ 0 (length w.touched) in
    let lines : map (λ r. get_or once r false || f (top + r)) (range_with_len 0 (length once)) ≡ map (λ r. get_or w.touched r false || (g (top + r) || f (top + r))) (range_with_len 0 (length w.touched))
    = ap (λ n. map (λ r. get_or once r false || f (top + r)) (range_with_len 0 n)) many
    ∙ map_range (λ r. get_or once r false || f (top + r)) (λ r. get_or w.touched r false || (g (top + r) || f (top + r))) 0 (length w.touched) (λ k a b.
    ap (λ x. x || f (top + k)) (get_or-map-range_with_len (λ r. get_or w.touched r false || g (top + r)) 0 (length w.touched) k k false (omega arith) (omega arith)) ∙ either (get_or w.touched k false) (g (top + k)) (f (top + k))) in
    (λ j. record w { touched = lines j })
  where
    either : (a b c : Bool) → ((a || b) || c) ≡ (a || (b || c))
    either true b c = refl
    either false b c = refl

-- one line more is touched
pub line_more : (w : WindowView) (f : ℕ → Bool) (row : ℕ) → w.frame.area.top ≤ row → f row ≡ true
    → marked (row - w.frame.area.top) (row - w.frame.area.top + 1) true (with_touched (λ y. ltb y row && f y) w) ≡ with_touched (λ y. ltb y (row + 1) && f y) w
unfolding marked_lines
line_more w f row below there =
    let top = w.frame.area.top in
    let line = row - top in
    let before : List Bool = map (λ r. get_or w.touched r false || (ltb (top + r) row && f (top + r))) (range_with_len 0 (length w.touched)) in
    let many : length before ≡ length w.touched = length-map-range_with_len _ 0 (length w.touched) in
    let lines : map (λ r. cond (leb line r && ltb r (line + 1)) true (get_or before r false)) (range_with_len 0 (length before)) ≡ map (λ r. get_or w.touched r false || (ltb (top + r) (row + 1) && f (top + r))) (range_with_len 0 (length w.touched))
    = ap (λ n. map (λ r. cond (leb line r && ltb r (line + 1)) true (get_or before r false)) (range_with_len 0 n)) many
    ∙ map_range (λ r. cond (leb line r && ltb r (line + 1)) true (get_or before r false)) (λ r. get_or w.touched r false || (ltb (top + r) (row + 1) && f (top + r))) 0 (length w.touched) (λ k a b.
    ap (λ x. cond (leb line k && ltb k (line + 1)) true x) (get_or-map-range_with_len (λ r. get_or w.touched r false || (ltb (top + r) row && f (top + r))) 0 (length w.touched) k k false (omega arith) (omega arith))
    ∙ one (get_or w.touched k false) f top k row below there) in
    (λ j. record w { touched = lines j })
  where
    at : (f : ℕ → Bool) (y row : ℕ) → y ≡ row → f row ≡ true → f y ≡ true
    at f y row e there = ap f e ∙ there

    one : (was : Bool) (f : ℕ → Bool) (top k row : ℕ) → top ≤ row → f row ≡ true
        → cond (leb (row - top) k && ltb k (row - top + 1)) true (was || (ltb (top + k) row && f (top + k))) ≡ (was || (ltb (top + k) (row + 1) && f (top + k)))
    one was f top k row below there = grind (arith, nat_tests, at f (top + k) row)

-- one line more is not
pub line_not : (w : WindowView) (f : ℕ → Bool) (row : ℕ) → f row ≡ false → with_touched (λ y. ltb y row && f y) w ≡ with_touched (λ y. ltb y (row + 1) && f y) w
line_not w f row none = touched_same w (λ y. ltb y row && f y) (λ y. ltb y (row + 1) && f y) (λ r b. ap (λ x. get_or w.touched r false || x) (one f (w.frame.area.top + r) row none))
  where
    at : (f : ℕ → Bool) (y row : ℕ) → y ≡ row → f row ≡ false → f y ≡ false
    at f y row e none = ap f e ∙ none

    one : (f : ℕ → Bool) (y row : ℕ) → f row ≡ false → (ltb y row && f y) ≡ (ltb y (row + 1) && f y)
    one f y row none = grind (arith, nat_tests, at f y row)

-- a parent stands before its children

same_number : (a b : ℕ) → (a == b) ≡ true → a ≡ b
same_number a b e = grind (arith, nat_tests)

further : (o : Option ℕ) (k j : ℕ) → k < j → MatchOption o (Unit {0}) (λ x. x < k) → MatchOption o (Unit {0}) (λ x. x < j)
further None k j b h = tt
further (Some x) k j b h = omega (arith, b, h)

pub parent_before : (d : DeskView) (i : ℕ) → IsDesk d → i < length d.windows → MatchOption (parent_index (frames_of d) i) (Unit {0}) (λ k. k < i)
parent_before d i h l =
    let frames : List Frame = frames_of d in
    let frame : Frame = get_or frames i no_frame in
    let many : length frames ≡ length d.windows = length_map frame_of d.windows in
    found frames frame.parent i frame (omega (arith, many)) h.frames.ascending refl (h.frames.parents i no_frame (omega (arith, many)))
  where
    order : (a b : ℕ) → (a < b) ⊎ ((a ≡ b) ⊎ (b < a))
    order a b = grind arith

    below : (frames : List Frame) (i k j number : ℕ) (frame : Frame) → i < length frames → ((i j : ℕ) → i < j → j < length frames → (get_or frames i no_frame).number < (get_or frames j no_frame).number)
        → frame ≡ get_or frames i no_frame → k < length frames → (get_or frames k no_frame).number ≡ number → number < frame.number → k < i
    below frames i k j number frame l ascending is few e less =
        let f : frame.number ≡ (get_or frames i no_frame).number = ap (λ (f : Frame). f.number) is in
        elim (order k i) [
          | inl b ↦ b
          | inr b ↦ elim b [
            | inl same ↦ (let g : (get_or frames k no_frame).number ≡ (get_or frames i no_frame).number = ap (λ x. (get_or frames x no_frame).number) same in absurd (omega (arith, e, f, g, less)))
            | inr more ↦ absurd (omega (arith, e, f, less, ascending i k more few))
          ]
        ]

    at : (frames : List Frame) (number i : ℕ) (frame : Frame) → i < length frames → ((i j : ℕ) → i < j → j < length frames → (get_or frames i no_frame).number < (get_or frames j no_frame).number)
        → frame ≡ get_or frames i no_frame → number < frame.number → (o : Option ℕ) → o ≡ position (λ (f : Frame). f.number == number) frames → MatchOption o (Unit {0}) (λ k. k < i)
    at frames number i frame l ascending is less None e = tt
    at frames number i frame l ascending is less (Some k) e =
        let p = position-Some (λ (f : Frame). f.number == number) frames k no_frame (sym e) in
        below frames i k k number frame l ascending is p.0 (same_number _ _ p.1) less

    found : (frames : List Frame) (o : Option ℕ) (i : ℕ) (frame : Frame) → i < length frames → ((i j : ℕ) → i < j → j < length frames → (get_or frames i no_frame).number < (get_or frames j no_frame).number)
        → frame ≡ get_or frames i no_frame
        → MatchOption o (Unit {0}) (λ number. (k : ℕ) × (k < length frames) × ((get_or frames k no_frame).number ≡ number) × IsChild frame (get_or frames k no_frame))
        → MatchOption (index_of_parent frames o) (Unit {0}) (λ k. k < i)
    found frames None i frame l ascending is h = tt
    found frames (Some number) i frame l ascending is h = at frames number i frame l ascending is (omega (arith, h.2, h.3.later)) _ refl

-- a list of ancestors has no index from one on
pub chain_misses : (d : DeskView) → IsDesk d → (most : ℕ) (o : Option ℕ) (j : ℕ) → j < length d.windows → MatchOption o (Unit {0}) (λ k. k < j) → list_any (λ k. k == j) (chain most (frames_of d) o) ≡ false
chain_misses d h zero o j l b = refl
chain_misses d h (suc most) None j l b = refl
chain_misses d h (suc most) (Some k) j l b =
    one k j _ b (chain_misses d h most (parent_index (frames_of d) k) j l (further (parent_index (frames_of d) k) k j b (parent_before d k h (omega (arith, b, l)))))
  where
    one : (k j : ℕ) (rest : Bool) → k < j → rest ≡ false → ((k == j) || rest) ≡ false
    one k j rest b e = grind (arith, nat_tests)

-- what is read of a list of ancestors does not change with a window after them
pub chain_reads : (d : DeskView) → IsDesk d → (most : ℕ) (o : Option ℕ) (j : ℕ) (w : WindowView) (row : ℕ) → j < length d.windows → MatchOption o (Unit {0}) (λ k. k < j)
    → list_any (λ k. touched_at (get_or (slice_set d.windows j w) k no_window) row) (chain most (frames_of d) o) ≡ list_any (λ k. touched_at (get_or d.windows k no_window) row) (chain most (frames_of d) o)
chain_reads d h zero o j w row l b = refl
chain_reads d h (suc most) None j w row l b = refl
chain_reads d h (suc most) (Some k) j w row l b =
    let here : touched_at (get_or (slice_set d.windows j w) k no_window) row ≡ touched_at (get_or d.windows k no_window) row = ap (λ v. touched_at v row) (get_or-set_other d.windows j k w no_window (λ e. absurd (omega (arith, e, b)))) in
    let rest = chain_reads d h most (parent_index (frames_of d) k) j w row l (further (parent_index (frames_of d) k) k j b (parent_before d k h (omega (arith, b, l)))) in
    (λ i. here i || rest i)

pub chain_none : (most : ℕ) (frames : List Frame) → chain most frames None ≡ []
chain_none zero frames = refl
chain_none (suc most) frames = refl

-- the parent that code finds

pub parent_before_in : (d old : DeskView) → d ≡ old → (i : ℕ) → IsDesk d → i < length old.windows → MatchOption (parent_index (frames_of old) i) (Unit {0}) (λ k. k < i)
parent_before_in d old is i h l =
    let P : DeskView → Type 0 = λ v. MatchOption (parent_index (frames_of v) i) (Unit {0}) (λ k. k < i) in
    subst P is (parent_before d i h (omega (arith, l, ap (λ (v : DeskView). length v.windows) is)))

index_map : {X Y : Type 0} (f : X → Y) (p : Y → Bool) (xs : List X) → position_or_len (λ x. p (f x)) xs ≡ position_or_len p (map f xs)
index_map f p [] = refl
index_map f p (x ∷ xs) = ap (λ rest. cond (not (p (f x))) (1 + rest) 0) (index_map f p xs)

position_map : {X Y : Type 0} (f : X → Y) (p : Y → Bool) (xs : List X) → position (λ x. p (f x)) xs ≡ position p (map f xs)
position_map f p xs =
    let index = index_map f p xs in
    let many = length_map f xs in
    (λ j. cond (ltb (index j) (sym many j)) (Some (index j)) None)

pub parent_found : (d old : DeskView) → d ≡ old → (i : ℕ) (windows : List WindowView) (frame : Frame) (number : ℕ) (found : Option ℕ) → i < length old.windows → windows ≡ d.windows → frame ≡ (window_at old i).frame → frame.parent ≡ Some number
    → found ≡ position (λ (w : WindowView). w.frame.number == number) windows → found ≡ parent_index (frames_of old) i
parent_found d old is i windows frame number found l items frame_is some e =
    let here : get_or (frames_of old) i no_frame ≡ (window_at old i).frame = get_or-map frame_of old.windows i no_window no_frame l in
    let parent : (get_or (frames_of old) i no_frame).parent ≡ Some number = ap (λ (f : Frame). f.parent) (here ∙ sym frame_is) ∙ some in
    e ∙ ap (position (λ (w : WindowView). w.frame.number == number)) (items ∙ ap (λ (v : DeskView). v.windows) is)
    ∙ position_map frame_of (λ (f : Frame). f.number == number) old.windows
    ∙ ap (index_of_parent (frames_of old)) (sym parent)

-- more than as many steps as lead from an index to the first
abbrev pub steps_left : Option ℕ → ℕ
steps_left None = 0
steps_left (Some k) = k + 1

-- the rows of one window's surface that another window covers too

pub share_begun : (d : DeskView) (from to : ℕ) (first : ℕ) → first ≡ max (window_at d from).frame.area.top (window_at d to).frame.area.top
    → d ≡ with_window d to (with_touched (λ y. ltb y first && touched_at (window_at d from) y) (window_at d to))
share_begun d from to first is =
    let none : with_touched (λ y. ltb y first && touched_at (window_at d from) y) (window_at d to) ≡ window_at d to
    = touched_none (window_at d to) (λ y. ltb y first && touched_at (window_at d from) y) (λ r b. before (window_at d from).frame.area.top (window_at d to).frame.area.top first r (get_or (window_at d from).touched ((window_at d to).frame.area.top + r - (window_at d from).frame.area.top) false) is) in
    (λ j. record d { windows = sym (set-get_or d.windows to no_window) j }) ∙ ap (with_window d to) (sym none)
  where
    before : (top other first r : ℕ) (mark : Bool) → first ≡ max top other → (ltb (other + r) first && (leb top (other + r) && mark)) ≡ false
    before top other first r mark is = grind (arith, nat_tests, is)

-- one window is as it was while another changes
pub other_stays : (d now : DeskView) (from to : ℕ) (w : WindowView) → from ≢ to → now ≡ with_window d to w → window_at now from ≡ window_at d from
other_stays d now from to w apart is = ap (λ v. window_at v from) is ∙ get_or-set_other d.windows to from w no_window apart

pub share_more : (d now new : DeskView) (from to row : ℕ) → to < length d.windows → from ≢ to
    → now ≡ with_window d to (with_touched (λ y. ltb y row && touched_at (window_at d from) y) (window_at d to))
    → (window_at d to).frame.area.top ≤ row → touched_at (window_at now from) row ≡ true
    → new ≡ with_window now to (marked (row - (window_at d to).frame.area.top) (row - (window_at d to).frame.area.top + 1) true (window_at now to))
    → new ≡ with_window d to (with_touched (λ y. ltb y (row + 1) && touched_at (window_at d from) y) (window_at d to))
share_more d now new from to row l apart is below there e =
    let f : ℕ → Bool = touched_at (window_at d from) in
    let w : WindowView = window_at d to in
    let line : ℕ = row - w.frame.area.top in
    let so_far : WindowView = with_touched (λ y. ltb y row && f y) w in
    let was : f row ≡ true = ap (λ v. touched_at v row) (sym (other_stays d now from to so_far apart is)) ∙ there in
    let at : window_at now to ≡ so_far = ap (λ v. window_at v to) is ∙ get_or-set_same d.windows to so_far no_window l in
    let changed : marked line (line + 1) true (window_at now to) ≡ with_touched (λ y. ltb y (row + 1) && f y) w = ap (marked line (line + 1) true) at ∙ line_more w f row below was in
    e ∙ (λ j. with_window (is j) to (changed j)) ∙ (λ j. record d { windows = set_twice d.windows to so_far (with_touched (λ y. ltb y (row + 1) && f y) w) j })

pub share_not : (d now : DeskView) (from to row : ℕ) → from ≢ to
    → now ≡ with_window d to (with_touched (λ y. ltb y row && touched_at (window_at d from) y) (window_at d to)) → touched_at (window_at now from) row ≡ false
    → now ≡ with_window d to (with_touched (λ y. ltb y (row + 1) && touched_at (window_at d from) y) (window_at d to))
share_not d now from to row apart is there =
    let f : ℕ → Bool = touched_at (window_at d from) in
    let was : f row ≡ false = ap (λ v. touched_at v row) (sym (other_stays d now from to _ apart is)) ∙ there in
    is ∙ ap (with_window d to) (line_not (window_at d to) f row was)

pub share_all : (d now : DeskView) (from to row : ℕ) → IsWindow (window_at d from) → IsWindow (window_at d to)
    → now ≡ with_window d to (with_touched (λ y. ltb y row && touched_at (window_at d from) y) (window_at d to))
    → min ((window_at d from).frame.area.top + (window_at d from).frame.area.rows) ((window_at d to).frame.area.top + (window_at d to).frame.area.rows) ≤ row
    → now ≡ with_window d to (with_touched (touched_at (window_at d from)) (window_at d to))
share_all d now from to row one other is end =
    let v : WindowView = window_at d from in
    let w : WindowView = window_at d to in
    is ∙ ap (with_window d to) (touched_same w (λ y. ltb y row && touched_at v y) (touched_at v) (λ r b.
    ap (λ x. get_or w.touched r false || x)
    (all v.frame.area.top v.frame.area.rows w.frame.area.top w.frame.area.rows r row (get_or v.touched (w.frame.area.top + r - v.frame.area.top) false) (omega (arith, b, other.touched)) end
    (λ h. get_or_past v.touched (w.frame.area.top + r - v.frame.area.top) false (omega (arith, h, one.touched))))))
  where
    all : (top rows other_top other_rows r row : ℕ) (mark : Bool) → r < other_rows → min (top + rows) (other_top + other_rows) ≤ row → (rows ≤ other_top + r - top → mark ≡ false)
        → (ltb (other_top + r) row && (leb top (other_top + r) && mark)) ≡ (leb top (other_top + r) && mark)
    all top rows other_top other_rows r row mark b end past = grind (arith, nat_tests, past)

-- from ancestor to ancestor

pub fewer_steps : (above next : Option ℕ) (k : ℕ) → above ≡ Some k → MatchOption next (Unit {0}) (λ x. x < k) → steps_left next < steps_left above
fewer_steps above next k is before = omega (arith, fewer next k before, ap steps_left is)
  where
    fewer : (next : Option ℕ) (k : ℕ) → MatchOption next (Unit {0}) (λ x. x < k) → steps_left next < k + 1
    fewer None k before = omega arith
    fewer (Some x) k before = omega (arith, before)

other_number : (a b : ℕ) → (a == b) ≡ false → b ≢ a
other_number a b e same = elim (sides a b e) [ inl l ↦ absurd (omega (arith, l, same)) | inr l ↦ absurd (omega (arith, l, same)) ]
  where
    sides : (a b : ℕ) → (a == b) ≡ false → (a < b) ⊎ (b < a)
    sides a b e = grind (arith, nat_tests)

picks : {X : Type 0} (hit any : Bool) (a b c e : X) → (hit ≡ true → (any ≡ false) × (b ≡ c)) → (hit ≡ false → (a ≡ c) × (b ≡ e)) → cond any a b ≡ cond (hit || any) c e
picks true any a b c e h k = ap (λ x. cond x a b) (h refl).0 ∙ (h refl).1
picks false any a b c e h k = λ j. cond any ((k refl).0 j) ((k refl).1 j)

up_once : (d : DeskView) (i k : ℕ) (indices : List ℕ) → k < i → i < length d.windows → list_any (λ index. index == k) indices ≡ false
    → touched_up indices (with_window d k (with_touched (touched_at (window_at d i)) (window_at d k))) i ≡ touched_up (k ∷ indices) d i
up_once d i k indices before l misses =
    let f : ℕ → Bool = touched_at (window_at d i) in
    let w : WindowView = with_touched f (window_at d k) in
    let now : DeskView = with_window d k w in
    let same : window_at now i ≡ window_at d i = get_or-set_other d.windows k i w no_window (λ e. absurd (omega (arith, e, before))) in
    let many : length (slice_set d.windows k w) ≡ length d.windows = length-set d.windows k w in
    let lines : map (λ x. cond (list_any (λ index. index == x) indices) (with_touched (touched_at (window_at now i)) (window_at now x)) (window_at now x)) (range_with_len 0 (length (slice_set d.windows k w)))
    ≡ map (λ x. cond ((k == x) || list_any (λ index. index == x) indices) (with_touched f (window_at d x)) (window_at d x)) (range_with_len 0 (length d.windows))
    = ap (λ n. map (λ x. cond (list_any (λ index. index == x) indices) (with_touched (touched_at (window_at now i)) (window_at now x)) (window_at now x)) (range_with_len 0 n)) many
    ∙ map_range (λ x. cond (list_any (λ index. index == x) indices) (with_touched (touched_at (window_at now i)) (window_at now x)) (window_at now x)) (λ x. cond ((k == x) || list_any (λ index. index == x) indices) (with_touched f (window_at d x)) (window_at d x)) 0 (length d.windows) (λ x a b.
    picks (k == x) (list_any (λ index. index == x) indices) (with_touched (touched_at (window_at now i)) (window_at now x)) (window_at now x) (with_touched f (window_at d x)) (window_at d x)
    (λ hit. (let e : k ≡ x = same_number k x hit in
    (ap (λ y. list_any (λ index. index == y) indices) (sym e) ∙ misses, ap (window_at now) (sym e) ∙ get_or-set_same d.windows k w no_window (omega (arith, before, l)) ∙ ap (λ y. with_touched f (window_at d y)) e)))
    (λ other. (let e : window_at now x ≡ window_at d x = get_or-set_other d.windows k x w no_window (other_number k x other) in
    ((λ j. with_touched (touched_at (same j)) (e j)), e)))) in
    (λ j. record d { windows = lines j })

frames_stay : (d now : DeskView) (k : ℕ) (f : ℕ → Bool) → now ≡ with_window d k (with_touched f (window_at d k)) → frames_of now ≡ frames_of d
frames_stay d now k f is = ap frames_of is ∙ map-set_same frame_of d.windows k (with_touched f (window_at d k)) no_window refl

-- what is left to do, and what that makes of the desk
abbrev pub Left : Option ℕ → (ℕ → DeskView) → DeskView → Type 0
Left above makes end = (most : ℕ) × (steps_left above ≤ most) × (makes most ≡ end)

pub up_more : (d now : DeskView) (i k : ℕ) (above next : Option ℕ) (end : DeskView) → IsDesk now → i < length d.windows → above ≡ Some k → k < i
    → now ≡ with_window d k (with_touched (touched_at (window_at d i)) (window_at d k)) → next ≡ parent_index (frames_of now) k → MatchOption next (Unit {0}) (λ x. x < k)
    → Left above (λ most. touched_up (chain most (frames_of d) above) d i) end → Left next (λ most. touched_up (chain most (frames_of now) next) now i) end
up_more d now i k above next end h l some before is parent earlier (zero, few, e) = absurd (omega (arith, few, ap steps_left some))
up_more d now i k above next end h l some before is parent earlier (suc most, few, e) =
    let rest : List ℕ = chain most (frames_of now) next in
    let frames : frames_of now ≡ frames_of d = frames_stay d now k (touched_at (window_at d i)) is in
    let many : length now.windows ≡ length d.windows = ap (λ (v : DeskView). length v.windows) is ∙ length-set d.windows k _ in
    let same : rest ≡ chain most (frames_of d) (parent_index (frames_of d) k) = ap (chain most (frames_of now)) parent ∙ (λ j. chain most (frames j) (parent_index (frames j) k)) in
    let misses : list_any (λ index. index == k) rest ≡ false = chain_misses now h most next k (omega (arith, many, before, l)) earlier in (
      most,
      omega (arith, few, ap steps_left some, fewer_steps above next k some earlier),
      ap (λ v. touched_up rest v i) is ∙ up_once d i k rest before l misses ∙ ap (λ indices. touched_up (k ∷ indices) d i) same ∙ ap (λ o. touched_up (chain (suc most) (frames_of d) o) d i) (sym some) ∙ e,
    )

pub up_done : (d end : DeskView) (i : ℕ) (above : Option ℕ) → above ≡ None → Left above (λ most. touched_up (chain most (frames_of d) above) d i) end → d ≡ end
up_done d end i above is (most, few, e) =
    let nothing : chain most (frames_of d) above ≡ [] = ap (chain most (frames_of d)) is ∙ chain_none most (frames_of d) in
    (λ j. record d { windows = each_in_order d.windows (window_at d) no_window (λ k b. refl) j }) ∙ ap (λ indices. touched_up indices d i) (sym nothing) ∙ e

down_once : (d : DeskView) (i k : ℕ) (indices : List ℕ) → i < length d.windows
    → ((row : ℕ) → list_any (λ x. touched_at (window_at (with_window d i (with_touched (touched_at (window_at d k)) (window_at d i))) x) row) indices ≡ list_any (λ x. touched_at (window_at d x) row) indices)
    → touched_down indices (with_window d i (with_touched (touched_at (window_at d k)) (window_at d i))) i ≡ touched_down (k ∷ indices) d i
down_once d i k indices l reads =
    let g : ℕ → Bool = touched_at (window_at d k) in
    let f : ℕ → Bool = λ row. list_any (λ x. touched_at (window_at d x) row) indices in
    let w : WindowView = window_at d i in
    let now : DeskView = with_window d i (with_touched g w) in
    let here : window_at now i ≡ with_touched g w = get_or-set_same d.windows i (with_touched g w) no_window l in
    let changed : with_touched (λ row. list_any (λ x. touched_at (window_at now x) row) indices) (window_at now i) ≡ with_touched (λ row. g row || f row) w
    = (λ j. with_touched (λ row. reads row j) (here j)) ∙ touched_twice w f g in
    ap (with_window now i) changed ∙ (λ j. record d { windows = set_twice d.windows i (with_touched g w) (with_touched (λ row. g row || f row) w) j })

pub down_more : (d now : DeskView) (i k : ℕ) (above next : Option ℕ) (end : DeskView) → IsDesk d → i < length d.windows → above ≡ Some k → k < i
    → now ≡ with_window d i (with_touched (touched_at (window_at d k)) (window_at d i)) → next ≡ parent_index (frames_of now) k → MatchOption next (Unit {0}) (λ x. x < k)
    → Left above (λ most. touched_down (chain most (frames_of d) above) d i) end → Left next (λ most. touched_down (chain most (frames_of now) next) now i) end
down_more d now i k above next end h l some before is parent earlier (zero, few, e) = absurd (omega (arith, few, ap steps_left some))
down_more d now i k above next end h l some before is parent earlier (suc most, few, e) =
    let frames : frames_of now ≡ frames_of d = frames_stay d now i (touched_at (window_at d k)) is in
    let rest : List ℕ = chain most (frames_of d) next in
    let up : next ≡ parent_index (frames_of d) k = parent ∙ (λ j. parent_index (frames j) k) in
    let reads = λ (row : ℕ). chain_reads d h most next i (with_touched (touched_at (window_at d k)) (window_at d i)) row l (further next k i before earlier) in (
      most,
      omega (arith, few, ap steps_left some, fewer_steps above next k some earlier),
      (λ j. touched_down (chain most (frames j) next) (is j) i) ∙ down_once d i k rest l reads ∙ ap (λ o. touched_down (k ∷ chain most (frames_of d) o) d i) up ∙ ap (λ o. touched_down (chain (suc most) (frames_of d) o) d i) (sym some) ∙ e,
    )

pub down_done : (d end : DeskView) (i : ℕ) (above : Option ℕ) → above ≡ None → Left above (λ most. touched_down (chain most (frames_of d) above) d i) end → d ≡ end
down_done d end i above is (most, few, e) =
    let nothing : chain most (frames_of d) above ≡ [] = ap (chain most (frames_of d)) is ∙ chain_none most (frames_of d) in
    (λ j. record d { windows = sym (set-get_or d.windows i no_window) j }) ∙ ap (with_window d i) (sym (touched_none (window_at d i) (λ row. false) (λ r b. refl))) ∙ ap (λ indices. touched_down indices d i) (sym nothing) ∙ e

enough_steps : (d : DeskView) (i : ℕ) (above : Option ℕ) → i < length d.windows → MatchOption above (Unit {0}) (λ k. k < i) → steps_left above ≤ length (frames_of d)
enough_steps d i None l before = omega arith
enough_steps d i (Some k) l before = omega (arith, l, before, length_map frame_of d.windows)

pub up_begun : (d : DeskView) (i : ℕ) (above : Option ℕ) → i < length d.windows → above ≡ parent_index (frames_of d) i → MatchOption above (Unit {0}) (λ k. k < i)
    → Left above (λ most. touched_up (chain most (frames_of d) above) d i) (touched_up (ancestors d i) d i)
up_begun d i above l is before = (length (frames_of d), enough_steps d i above l before, ap (λ o. touched_up (chain (length (frames_of d)) (frames_of d) o) d i) is)

pub down_begun : (d : DeskView) (i : ℕ) (above : Option ℕ) → i < length d.windows → above ≡ parent_index (frames_of d) i → MatchOption above (Unit {0}) (λ k. k < i)
    → Left above (λ most. touched_down (chain most (frames_of d) above) d i) (touched_down (ancestors d i) d i)
down_begun d i above l is before = (length (frames_of d), enough_steps d i above l before, ap (λ o. touched_down (chain (length (frames_of d)) (frames_of d) o) d i) is)

-- a window changed leaves as many
pub as_many : (d now : DeskView) (i k : ℕ) (w : WindowView) → now ≡ with_window d k w → i < length d.windows → i < length now.windows
as_many d now i k w is l = omega (arith, l, ap (λ (v : DeskView). length v.windows) is, length-set d.windows k w)

-- an ancestor stands before what its descendant does
pub still_before : (above next : Option ℕ) (k i : ℕ) → above ≡ Some k → MatchOption above (Unit {0}) (λ x. x < i) → MatchOption next (Unit {0}) (λ x. x < k) → (k < i) × MatchOption next (Unit {0}) (λ x. x < i)
still_before above next k i is before earlier =
    let P : Option ℕ → Type 0 = λ o. MatchOption o (Unit {0}) (λ x. x < i) in
    let here : k < i = subst P is before in
    (here, further next k i here earlier)
