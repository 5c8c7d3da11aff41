-- The plain repaint shows the picture from every state that agrees with what is remembered.
use Rattle.std.proofs.Common.{◌≡◌, ℕ, ◌<◌, ◌&&◌, not, Bool, true, false, refl, sym, ◌∙◌, ap, arith, List, [], ◌∷◌, ◌++◌, Option, IfSome, filter, if◌then◌else◌}
use Rattle.std.specs.List.{AllByRecursion, flat_map}
use Rattle.std.proofs.lemmas.Bool.Decides.{nat_tests}
use Rattle.std.proofs.lemmas.Map.Views.{any-filter_same}
use Rattle.scr_cells.specs.Grids.{GridLaws, IsGrid, grid_at}
use Rattle.scr_cells.specs.LookViews.{LookView, blank}
use Rattle.scr_cells.specs.PenViews.{PenView, pen_eq}
use Rattle.scr_cells.specs.PictureViews.{PictureView, IsPicture, IsPlace}
use Rattle.scr_term.specs.declared.operations.operation.Op.{Op}
use Rattle.scr_term.specs.declared.operations.operation.Spot.{Spot}
use Rattle.scr_term.specs.declared.operations.operation.Spot.TheVariants.{At}
use Rattle.scr_term.specs.Operations.Laws.{ProfilesHave, RunLaws}
use Rattle.scr_term.specs.Operations.Profiles.{ProfileView, IsProfile, abilities}
use Rattle.scr_term.specs.Operations.States.{TerminalState}
use Rattle.scr_plan.proofs.PlaceLaws.{plain, resets_run}
use Rattle.scr_plan.proofs.PartLaws.{among_places, is_among, is_here}
use Rattle.scr_plan.proofs.ScratchLaws.{IsRight, all_inside, each_painted, fewer_right, grid_is_painted, painted_shows, then_rights}
use Rattle.scr_memory.specs.Memories.{Agrees, MemoryView, is_placed}
use Rattle.scr_plan.specs.Repaints.{differing, differs, is_none_left, look_eq, paints, plain_of}
use Rattle.scr_plan.specs.Scratch.{Fits, PlaceIsPainted, RunsToShow, look_at, paints_place, places, resets}

-- ---- looks that are found equal are the same

pub both : (a b : Bool) → (a && b) ≡ true → (a ≡ true) × (b ≡ true)
both a b e = grind arith

pub pen_same : (a b : PenView) → pen_eq a b ≡ true → a ≡ b
pen_same a b e = grind arith

pub look_same : (a b : LookView) → look_eq a b ≡ true → a ≡ b
look_same a b e = grind arith

-- ---- what does not differ is shown

pub same_is_shown : (profile : ProfileView) (picture : PictureView) (memory : MemoryView) (old : TerminalState) → Agrees (abilities profile) memory old
    → (r c : ℕ) → r < profile.rows → differs profile picture memory (r, c) ≡ false → grid_at blank old.grid r c ≡ look_at profile picture (r, c)
same_is_shown profile picture memory old agrees r c high e = grind arith

-- ---- the places that differ

here_same : (profile : ProfileView) (picture : PictureView) (memory : MemoryView) (r c : ℕ) (place : ℕ × ℕ) → is_here r c place ≡ true
    → differs profile picture memory place ≡ differs profile picture memory (r, c)
here_same profile picture memory r c place here = grind (arith, nat_tests)

pub among_differing : (profile : ProfileView) (picture : PictureView) (memory : MemoryView) (r c : ℕ) → r < picture.rows → c < picture.columns
    → is_among r c (differing profile picture memory) ≡ differs profile picture memory (r, c)
among_differing profile picture memory r c high wide =
    any-filter_same (is_here r c) (differs profile picture memory) (differs profile picture memory (r, c)) (here_same profile picture memory r c) (places picture.rows picture.columns)
    ∙ ap (λ b. differs profile picture memory (r, c) && b) (among_places picture.rows picture.columns r c high wide)
    ∙ and_true (differs profile picture memory (r, c))
  where
    and_true : (b : Bool) → (b && true) ≡ b
    and_true b = grind arith

pub filter_inside : {A : Type 0} (P : A → Type 0) (p : A → Bool) (xs : List A) → AllByRecursion P xs → AllByRecursion P (filter p xs)
filter_inside P p [] all = tt
filter_inside P p (x ∷ xs) all = grind (arith, filter_inside P p xs all.1)

-- ---- from every state that agrees

pub repaint_shows : RunLaws → ProfilesHave → PlaceIsPainted → GridLaws LookView → (profile : ProfileView) → IsProfile profile → (picture : PictureView) → IsPicture picture → Fits profile picture
    → (memory : MemoryView) (old : TerminalState) → Agrees (abilities profile) memory old → RunsToShow profile old (paints profile picture (differing profile picture memory)) picture
repaint_shows laws have place_law grids profile p picture k fits memory old agrees =
    let d = differs profile picture memory in
    let list : List (ℕ × ℕ) = differing profile picture memory in
    let paints : List Op = flat_map (paints_place profile picture) list in
    let begun = resets_run profile (have profile p) old agrees.is_state.pen in
    let before : IsRight profile picture d (plain old) = record { state = laws.kept profile p old (plain old) agrees.is_state (resets profile) begun; right = λ r c high wide e. same_is_shown profile picture memory old agrees r c high e } in
    let each = each_painted laws place_law grids profile p picture k list (filter_inside (IsPlace profile.rows profile.columns) d (places picture.rows picture.columns) (all_inside profile picture fits)) d (plain old) before in
    painted_shows laws grids profile p (have profile p) picture k fits old agrees.is_state (resets profile ++ paints)
    (fewer_right profile picture _ (λ _. false) old (resets profile ++ paints)
    (λ r c high wide e. rw (among_differing profile picture memory r c (omega (arith, high, fits.rows)) (omega (arith, wide, fits.columns))) (never_both (d (r, c))))
    (then_rights laws profile picture _ old (plain old) (resets profile) paints begun each))
  where
    never_both : (b : Bool) → (b && not b) ≡ false
    never_both b = grind arith

-- ---- where nothing differs

pub none_left : (list : List (ℕ × ℕ)) → is_none_left list ≡ true → list ≡ []
none_left list e = grind arith

pub placed_is : (memory : MemoryView) (wish : Option (ℕ × ℕ)) (spot : Spot) → (memory.known_spot ≡ true → spot ≡ memory.state.spot) → is_placed memory wish ≡ true
    → IfSome wish (λ place. spot ≡ At place.0 place.1)
placed_is memory wish spot known e = grind arith

pub nothing_shows : GridLaws LookView → (profile : ProfileView) (picture : PictureView) → IsPicture picture → Fits profile picture
    → (memory : MemoryView) (old : TerminalState) → Agrees (abilities profile) memory old → is_none_left (differing profile picture memory) ≡ true → is_placed memory picture.wish ≡ true
    → RunsToShow profile old [] picture
nothing_shows grids profile picture k fits memory old agrees none placed =
    let empty : differing profile picture memory ≡ [] = none_left (differing profile picture memory) none in
    let same : (r c : ℕ) → r < profile.rows → c < profile.columns → differs profile picture memory (r, c) ≡ false = λ r c high wide.
    sym (among_differing profile picture memory r c (omega (arith, high, fits.rows)) (omega (arith, wide, fits.columns))) ∙ ap (is_among r c) empty in
    let lines : IsGrid profile.rows profile.columns picture.lines = rw (← fits.rows, ← fits.columns) k.grid in
    record {
      new = old;
      run = refl;
      shows = record {
        grid = grid_is_painted grids profile picture lines old.grid agrees.is_state.whole (λ r c high wide. same_is_shown profile picture memory old agrees r c high (same r c high wide));
        spot = placed_is memory picture.wish old.spot agrees.spot placed;
      };
      state = agrees.is_state;
    }

plain_by : RunLaws → ProfilesHave → PlaceIsPainted → GridLaws LookView → (profile : ProfileView) → IsProfile profile → (picture : PictureView) → IsPicture picture → Fits profile picture
    → (memory : MemoryView) (old : TerminalState) → Agrees (abilities profile) memory old → (none placed : Bool)
    → is_none_left (differing profile picture memory) ≡ none → is_placed memory picture.wish ≡ placed
    → RunsToShow profile old (if none && placed then [] else paints profile picture (differing profile picture memory)) picture
plain_by laws have place_law grids profile p picture k fits memory old agrees true true none placed = nothing_shows grids profile picture k fits memory old agrees none placed
plain_by laws have place_law grids profile p picture k fits memory old agrees true false none placed = repaint_shows laws have place_law grids profile p picture k fits memory old agrees
plain_by laws have place_law grids profile p picture k fits memory old agrees false placed none e = repaint_shows laws have place_law grids profile p picture k fits memory old agrees

pub plain_shows : RunLaws → ProfilesHave → PlaceIsPainted → GridLaws LookView → (profile : ProfileView) → IsProfile profile → (picture : PictureView) → IsPicture picture → Fits profile picture
    → (memory : MemoryView) (old : TerminalState) → Agrees (abilities profile) memory old → RunsToShow profile old (plain_of profile memory picture) picture
plain_shows laws have place_law grids profile p picture k fits memory old agrees = grind (arith, plain_by)
