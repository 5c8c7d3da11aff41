-- Windows that get other frames, and where a window of a number stands.
use Rattle.std.proofs.Common.{◌≡◌, ℕ, ◌+◌, ◌<◌, sym, ◌∙◌, ap, arith, List, [], ◌∷◌, ◌++◌, length, map, take, drop, get_or, Option, None, Some, refl}
use Rattle.std.specs.List.{AllPairs}
use Rattle.std.specs.Prelude.{Ok, slice_set}
use Rattle.std.proofs.lemmas.List.{length-append, length-take-le, length-drop, get_or_default}
use Rattle.std.proofs.lemmas.List.Edits.{map_over_more}
use Rattle.scr_windows.specs.declared.frames.Frame.{Frame}
use Rattle.scr_windows.specs.DeskViews.{HaveOwn, WindowView, no_frame}
use Rattle.scr_windows.specs.Changes.{found}
use Rattle.scr_windows.proofs.DeskLaws.{frame_of, length_map}

-- a window with another frame
abbrev pub reframed : (Frame → Frame) → WindowView → WindowView
reframed g w = record w { frame = g w.frame }

pub map_reframed : (g : Frame → Frame) (ws : List WindowView) → map frame_of (map (reframed g) ws) ≡ map g (map frame_of ws)
map_reframed g [] = refl
map_reframed g (w ∷ ws) = ap (λ fs. g w.frame ∷ fs) (map_reframed g ws)

-- one window more of a loop over all
pub reframed_more : (g : Frame → Frame) (xs ys : List WindowView) (i : ℕ) (first second new : WindowView) (frame : Frame) → i < length xs → ys ≡ map (reframed g) (take i xs) ++ drop i xs
    → frame ≡ g (get_or ys i first).frame → new ≡ record (get_or ys i second) { frame = frame } → slice_set ys i new ≡ map (reframed g) (take (i + 1) xs) ++ drop (i + 1) xs
reframed_more g xs ys i first second new frame l ys_is frame_is new_is =
    let front : length (map (reframed g) (take i xs)) ≡ i = length_map (reframed g) (take i xs) ∙ length-take-le i xs (omega arith) in
    let whole : length (map (reframed g) (take i xs) ++ drop i xs) ≡ length (map (reframed g) (take i xs)) + length (drop i xs) = length-append (map (reframed g) (take i xs)) (drop i xs) in
    let here : i < length ys = omega (arith, ap (λ (zs : List WindowView). length zs) ys_is, whole, front, length-drop i xs) in
    let x : WindowView = get_or ys i second in
    let same : get_or ys i first ≡ x = get_or_default ys i first second here in
    let value : new ≡ reframed g x = new_is ∙ (λ j. record x { frame = (frame_is ∙ ap (λ (w : WindowView). g w.frame) same) j }) in
    ap (slice_set ys i) value ∙ map_over_more (reframed g) xs ys i x l ys_is (get_or_default ys i second x here)

-- other frames with the same parents, where no two are on one surface that were on two: each that has no parent still
-- has its own
pub own_kept : (frames news : List Frame) → length news ≡ length frames → ((k : ℕ) → k < length frames → (get_or news k no_frame).parent ≡ (get_or frames k no_frame).parent)
    → ((j k : ℕ) → j < length frames → k < length frames → (get_or news j no_frame).surface ≡ (get_or news k no_frame).surface → (get_or frames j no_frame).surface ≡ (get_or frames k no_frame).surface)
    → AllPairs HaveOwn frames → AllPairs HaveOwn news
own_kept frames news many parents surfaces own i j d less l none_i none_j same =
    let a : get_or news i d ≡ get_or news i no_frame = get_or_default news i d no_frame (omega arith) in
    let b : get_or news j d ≡ get_or news j no_frame = get_or_default news j d no_frame l in
    own i j no_frame less (omega arith) (sym (parents i (omega arith)) ∙ sym (ap (λ (f : Frame). f.parent) a) ∙ none_i) (sym (parents j (omega arith)) ∙ sym (ap (λ (f : Frame). f.parent) b) ∙ none_j)
    (surfaces i j (omega arith) (omega arith) (sym (ap (λ (f : Frame). f.surface) a) ∙ same ∙ ap (λ (f : Frame). f.surface) b))

-- an index that was found
pub was_found : (o : Option ℕ) (i : ℕ) → found o ≡ Ok i → o ≡ Some i
was_found None i e = absurd (let z : ⊥ = (cc) in z)
was_found (Some k) i e = (let same : k ≡ i = (cc) in ap Some same)
