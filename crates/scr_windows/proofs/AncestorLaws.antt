-- The code's search upwards finds the list of ancestors.
use Rattle.std.proofs.Common.{◌≡◌, ℕ, zero, suc, ◌+◌, ◌<◌, sym, ◌∙◌, ap, refl, arith, List, [], ◌∷◌, length, map, get_or, Option, None, Some, Bool, true, false, not, cond, ltb, ◌==◌, ◌||◌}
use Rattle.std.specs.Prelude.{MatchOption}
use Rattle.std.specs.List.{list_any, position, position_or_len, range_with_len}
use Rattle.std.proofs.lemmas.Bool.Decides.{nat_tests}
use Rattle.std.proofs.lemmas.List.{get_or-map, take_all}
use Rattle.std.proofs.lemmas.List.Quantifiers.{position-Some}
use Rattle.scr_windows.specs.declared.frames.Frame.{Frame}
use Rattle.scr_windows.specs.declared.calls.moving.WindowMove.{WindowMove}
use Rattle.scr_windows.specs.DeskViews.{WindowView, DeskView, IsChild, IsDesk, window_at, no_frame, no_window}
use Rattle.scr_windows.specs.Code.Families.{descends, family_frame, family_shifted, link_of}
use Rattle.scr_windows.specs.Calls.Moving.{is_family, shifted, with_family_shifted}
use Rattle.scr_windows.specs.Calls.Syncing.{chain, frames_of, parent_index, index_of_parent}
use Rattle.scr_windows.proofs.DeskLaws.{Reads, frame_of, here_too, length_map, reads_window}
use Rattle.scr_windows.proofs.GridLaws.{part_is}
use Rattle.scr_windows.proofs.FamilyLaws.{Ascends, Family, HasParent, child_family, frame_at, map_links, one_index, root_family, stands_before}
use Rattle.scr_windows.proofs.FrameLaws.{reframed}
use Rattle.scr_windows.proofs.SyncLaws.{chain_none}

-- where one of a list passes, the first that passes is found
first_passes : {X : Type 0} (p : X → Bool) (xs : List X) (m : ℕ) (d : X) → m < length xs → p (get_or xs m d) ≡ true → position_or_len p xs < length xs
first_passes p [] m d l h = absurd (omega (arith, l))
first_passes p (x ∷ xs) zero d l h = (let e : position_or_len p (x ∷ xs) ≡ 0 = ap (λ b. cond (not b) (1 + position_or_len p xs) 0) h in omega (arith, e))
first_passes p (x ∷ xs) (suc m) d l h = one (p x) (position_or_len p xs) (length xs) (first_passes p xs m d (omega (arith, l)) h)
  where
    one : (b : Bool) (rest n : ℕ) → rest < n → cond (not b) (1 + rest) 0 < suc n
    one true rest n h = omega (arith, h)
    one false rest n h = omega (arith, h)

same_bool : (a b : ℕ) (c d : ℕ) → (a ≡ b → c ≡ d) → (c ≡ d → a ≡ b) → (a == b) ≡ (c == d)
same_bool a b c d f g = grind (arith, nat_tests)

equals : (a b : ℕ) → (a == b) ≡ true → a ≡ b
equals a b h = grind (arith, nat_tests)

itself : (a b : ℕ) → a ≡ b → (a == b) ≡ true
itself a b h = grind (arith, nat_tests)

less : (a b : ℕ) → a < b → ltb a b ≡ true
less a b h = grind (arith, nat_tests)

-- the index of the window of a number
number_at : (frames : List Frame) (m number : ℕ) → Ascends frames → m < length frames → (frame_at frames m).number ≡ number → position (λ (f : Frame). f.number == number) frames ≡ Some m
number_at frames m number up l e =
    let p : Frame → Bool = λ f. f.number == number in
    let first : ℕ = position_or_len p frames in
    let here : first < length frames = first_passes p frames m no_frame l (itself _ _ e) in
    let found : position p frames ≡ Some first = ap (λ b. cond b (Some first) None) (less first (length frames) here) in
    let there = position-Some p frames first no_frame found in
    let index : first ≡ m = one_index frames first m up here l (equals _ _ there.1 ∙ sym e) in
    found ∙ ap Some index

-- a window descends from another where it is that window or has it as an ancestor
chain_family : (frames : List Frame) (i : ℕ) → Ascends frames → ((k : ℕ) → k < length frames → HasParent frames (frame_at frames k)) → i < length frames
    → (most k : ℕ) → k < most → k < length frames → list_any (λ m. m == i) (chain most frames (Some k)) ≡ Family frames (frame_at frames i).number (frame_at frames k).number
chain_family frames i up parents l zero k b h = absurd (omega (arith, b))
chain_family frames i up parents l (suc most) k b h = above (λ m c d. chain_family frames i up parents l most m c d) (frame_at frames k).parent refl (parents k h)
  where
    same : (k == i) ≡ ((frame_at frames k).number == (frame_at frames i).number)
    same = same_bool k i _ _ (λ e. ap (λ n. (frame_at frames n).number) e) (one_index frames k i up h l)

    above : ((m : ℕ) → m < most → m < length frames → list_any (λ x. x == i) (chain most frames (Some m)) ≡ Family frames (frame_at frames i).number (frame_at frames m).number)
        → (o : Option ℕ) → (frame_at frames k).parent ≡ o → MatchOption o (Unit {0}) (λ number. (m : ℕ) × (m < length frames) × ((get_or frames m no_frame).number ≡ number) × IsChild (frame_at frames k) (get_or frames m no_frame))
        → ((k == i) || list_any (λ m. m == i) (chain most frames (parent_index frames k))) ≡ Family frames (frame_at frames i).number (frame_at frames k).number
    above rest None e has =
        let none : chain most frames (parent_index frames k) ≡ [] = ap (λ o. chain most frames (index_of_parent frames o)) e ∙ chain_none most frames in
        ap (λ xs. (k == i) || list_any (λ m. m == i) xs) none ∙ ap (λ t. t || false) same ∙ sym (root_family frames (frame_at frames i).number k up h e)
    above rest (Some number) e has =
        let m : ℕ = has.0 in
        let index : parent_index frames k ≡ Some m = ap (index_of_parent frames) e ∙ number_at frames m number up has.1 has.2 in
        let before : m < k = stands_before frames m k up has.1 h has.3.later in
        ap (λ o. (k == i) || list_any (λ m. m == i) (chain most frames o)) index
        ∙ ap (λ t. (k == i) || t) (rest m (omega (arith, before, b)) has.1)
        ∙ ap (λ t. t || Family frames (frame_at frames i).number (frame_at frames m).number) same
        ∙ sym (child_family frames (frame_at frames i).number k m number up h has.1 e has.2 has.3.later)

-- a window with another frame, or not
reframed_if : (b : Bool) (shift : WindowMove) (w : WindowView) → record w { frame = cond b (shifted shift w.frame) w.frame } ≡ cond b (record w { frame = shifted shift w.frame }) w
reframed_if true shift w = refl
reframed_if false shift w = refl

pub family_is : (d : DeskView) (i : ℕ) (shift : WindowMove) → IsDesk d → i < length d.windows → record d { windows = family_shifted (window_at d i).frame.number shift d.windows } ≡ with_family_shifted d i shift
family_is d i shift h l =
    let frames : List Frame = frames_of d in
    let many : length frames ≡ length d.windows = length_map frame_of d.windows in
    let number : ℕ = (window_at d i).frame.number in
    let own : frame_at frames i ≡ (window_at d i).frame = get_or-map frame_of d.windows i no_window no_frame l in
    let turn : Frame → Frame = family_frame (map link_of d.windows) (length d.windows) number shift in
    let after : List WindowView = map (reframed turn) d.windows in
    let few : length after ≡ length d.windows = length_map (reframed turn) d.windows in
    let f : ℕ → WindowView = λ k. cond (is_family d i k) (record (window_at d k) { frame = shifted shift (window_at d k).frame }) (window_at d k) in
    let one : (k : ℕ) → k < length d.windows → get_or after k no_window ≡ f k = (λ k b.
    let at : frame_at frames k ≡ (window_at d k).frame = get_or-map frame_of d.windows k no_window no_frame b in
    let law : is_family d i k ≡ Family frames (frame_at frames i).number (frame_at frames k).number
    = chain_family frames i h.frames.ascending (λ m c. h.frames.parents m no_frame c) (omega (arith, l, many)) (suc (length frames)) k (omega (arith, b, many)) (omega (arith, b, many)) in
    let same : Family frames (frame_at frames i).number (frame_at frames k).number ≡ descends (map link_of d.windows) number (length d.windows) (window_at d k).frame.number
    = (λ j. descends (sym (map_links d.windows) j) (own j).number (many j) (at j).number) in
    get_or-map (reframed turn) d.windows k no_window no_window b ∙ reframed_if (descends (map link_of d.windows) number (length d.windows) (window_at d k).frame.number) shift (window_at d k)
    ∙ ap (λ t. cond t (record (window_at d k) { frame = shifted shift (window_at d k).frame }) (window_at d k)) (sym (law ∙ same))) in
    let all : after ≡ map f (range_with_len 0 (length after))
    = sym (take_all (length after) after (omega arith)) ∙ part_is after f no_window 0 0 (length after) (omega arith) (λ k b. let y : 0 + k ≡ k = omega arith in ap (λ n. get_or after n no_window) y ∙ one k (omega (arith, b, few)) ∙ ap f (sym y)) in
    (λ j. record d { windows = (all ∙ ap (λ n. map f (range_with_len 0 n)) few) j })

-- what the code has made of the windows
pub family_seen : (d old : DeskView) → d ≡ old → (i : ℕ) (shift : WindowMove) (w : WindowView) (frame : Frame) (ws : List WindowView) → IsDesk d → i < length old.windows → Reads d.windows i w → frame ≡ w.frame
    → ws ≡ family_shifted frame.number shift d.windows → record d { windows = ws } ≡ with_family_shifted old i shift
family_seen d old is i shift w frame ws h l reads frame_is ws_is =
    let here : i < length d.windows = here_too d old i is l in
    let number : frame.number ≡ (window_at d i).frame.number = ap (λ (f : Frame). f.number) (frame_is ∙ ap frame_of (reads_window d i w reads here)) in
    (λ j. record d { windows = (ws_is ∙ ap (λ n. family_shifted n shift d.windows) number) j }) ∙ family_is d i shift h here ∙ ap (λ v. with_family_shifted v i shift) is
