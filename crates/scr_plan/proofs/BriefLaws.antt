-- Painting the places of a row, each after its neighbour where both have one pen, leads where painting them one by one leads.
use Rattle.std.proofs.Common.{◌≡◌, ℕ, ◌+◌, ◌<◌, ◌≤◌, Bool, true, false, All, refl, sym, ◌∙◌, ap, arith, nat_lt, List, [], ◌∷◌, ◌++◌, filter, Some, zero, suc, if◌then◌else◌}
use Rattle.std.specs.List.{flat_map}
use Rattle.std.proofs.lemmas.List.{append-nil}
use Rattle.std.proofs.lemmas.List.Elements.{recursion_from_All}
use Rattle.scr_term.specs.Operations.Texts.{put_of}
use Rattle.scr_cells.specs.CellViews.{IsCell, blank_cell}
use Rattle.scr_cells.specs.Grids.{grid_at, grid_with}
use Rattle.scr_cells.specs.LookViews.{LookView}
use Rattle.scr_cells.specs.PenViews.{pen_eq}
use Rattle.scr_cells.specs.PictureViews.{PictureView, IsPicture}
use Rattle.scr_term.specs.declared.operations.operation.Op.{Op}
use Rattle.scr_term.specs.declared.operations.operation.Spot.{Spot}
use Rattle.scr_term.specs.declared.operations.operation.Spot.TheVariants.{At, Margin}
use Rattle.scr_term.specs.Operations.Laws.{ProfilesHave, RunLaws}
use Rattle.scr_term.specs.Operations.Profiles.{ProfileView, IsProfile, abilities}
use Rattle.scr_term.specs.Operations.States.{TerminalState, IsState, spot_after, written_at}
use Rattle.scr_term.specs.Operations.Steps.{act, runs}
use Rattle.scr_plan.proofs.RememberedPlanLaws.{run_before}
use Rattle.scr_plan.proofs.PartLaws.{part_more}
use Rattle.scr_plan.proofs.PlaceLaws.{cell_of, one_run, seen_had}
use Rattle.scr_plan.proofs.PlainLaws.{both, pen_same}
use Rattle.scr_plan.specs.Code.Painters.{part_places}
use Rattle.scr_memory.specs.Memories.{MemoryView}
use Rattle.scr_plan.specs.Repaints.{brief_place, differs, joins_left}
use Rattle.scr_plan.specs.Scratch.{PlaceIsPainted, goes, look_at, paints_place, renders}

-- ---- runs one after another

-- operations from one state and others from another one that lead to the same state, and then others that lead from there to the same
pub then_same : RunLaws → (profile : ProfileView) (old other : TerminalState) (xs ys more others : List Op) → runs profile old xs ≡ runs profile other ys
    → ((next : TerminalState) → runs profile other ys ≡ Some next → runs profile next more ≡ runs profile next others)
    → runs profile old (xs ++ more) ≡ runs profile other (ys ++ others)
then_same laws profile old other xs ys more others first second = grind arith

-- ---- one place after its neighbour

-- what the character alone does after a place that was painted with the same pen
put_is_place : ProfilesHave → PlaceIsPainted → (profile : ProfileView) → IsProfile profile → (picture : PictureView) → IsPicture picture
    → (r c : ℕ) → r < profile.rows → suc c < profile.columns → (old : TerminalState) → IsState (abilities profile) old
    → old.spot ≡ spot_after profile.columns r c → old.pen ≡ (look_at profile picture (r, suc c)).pen
    → runs profile old (put_of (look_at profile picture (r, suc c)).character ∷ []) ≡ runs profile old (paints_place profile picture (r, suc c))
put_is_place have place_law profile p picture k r c high wide old s spot pen =
    let look : LookView = look_at profile picture (r, suc c) in
    let is : IsCell (grid_at blank_cell picture.lines r (suc c)) = cell_of picture.lines r (suc c) (recursion_from_All (All IsCell) picture.lines k.cells) in
    let next : c + 1 ≡ suc c = omega arith in
    let more : nat_lt (c + 1) profile.columns ≡ true = grind (arith, wide) in
    let there : old.spot ≡ At r (suc c) = spot ∙ ap (λ b. if b then At r (c + 1) else Margin r) more ∙ ap (At r) next in
    let new : TerminalState = record { grid = grid_with old.grid r (suc c) look; spot = spot_after profile.columns r (suc c); pen = look.pen } in
    let acts : act profile old (put_of look.character) ≡ Some new =
    (have profile p).put_acts old look.character ∙ ap (written_at profile.columns old look.character) there
    ∙ ap (λ pen. Some (record { grid = grid_with old.grid r (suc c) (record { character = look.character; pen = pen }); spot = spot_after profile.columns r (suc c); pen = pen })) pen in
    one_run profile old new (put_of look.character) (seen_had profile (have profile p) _ is.character) acts ∙ sym (place_law profile p picture k (r, suc c) (high, wide) old s)

-- ---- the places of a row

-- the last place of a part, if it differs, leaves the cursor after it, and its pen
pub behind_last : RunLaws → PlaceIsPainted → (profile : ProfileView) → IsProfile profile → (picture : PictureView) → IsPicture picture → (d : ℕ × ℕ → Bool)
    → (r m : ℕ) → r < profile.rows → m < profile.columns → d (r, m) ≡ true → (old new : TerminalState) → IsState (abilities profile) old
    → runs profile old (flat_map (paints_place profile picture) (filter d (part_places 0 (suc m) r))) ≡ Some new
    → (new.spot ≡ spot_after profile.columns r m) × (new.pen ≡ (look_at profile picture (r, m)).pen)
behind_last laws place_law profile p picture k d r m high wide differs old new s run =
    let f = paints_place profile picture in
    let before : List Op = flat_map f (filter d (part_places 0 m r)) in
    let next : suc m ≡ m + 1 = omega arith in
    let here : 0 + m ≡ m = omega arith in
    let cut : flat_map f (filter d (part_places 0 (suc m) r)) ≡ before ++ f (r, m) =
    ap (λ n. flat_map f (filter d (part_places 0 n r))) next ∙ part_more f d 0 m r
    ∙ ap (λ c. before ++ flat_map f (filter d ((r, c) ∷ []))) here
    ∙ ap (λ b. before ++ flat_map f (if b then (r, m) ∷ [] else [])) differs ∙ ap (λ ops. before ++ ops) (append-nil (f (r, m))) in
    let parts = run_before laws profile old new before (f (r, m)) (sym (ap (runs profile old) cut) ∙ run) in
    let painted = place_law profile p picture k (r, m) (high, wide) parts.0 (laws.kept profile p old parts.0 s before parts.1) in
    same new (sym parts.2 ∙ painted)
  where
    same : (new : TerminalState) {grid : List (List LookView)} {spot : Spot} → Some new ≡ Some (record { grid = grid; spot = spot; pen = (look_at profile picture (r, m)).pen })
        → (new.spot ≡ spot) × (new.pen ≡ (look_at profile picture (r, m)).pen)
    same new {grid} {spot} e = grind arith

-- one place in either way
one_same : RunLaws → ProfilesHave → PlaceIsPainted → (profile : ProfileView) → IsProfile profile → (picture : PictureView) → IsPicture picture → (memory : MemoryView)
    → (r n : ℕ) → r < profile.rows → n < profile.columns → (old next : TerminalState) → IsState (abilities profile) old
    → runs profile old (flat_map (paints_place profile picture) (filter (differs profile picture memory) (part_places 0 n r))) ≡ Some next
    → runs profile next (brief_place profile picture memory (r, n)) ≡ runs profile next (paints_place profile picture (r, n))
one_same laws have place_law profile p picture k memory r zero high wide old next s run = refl
one_same laws have place_law profile p picture k memory r (suc m) high wide old next s run = by (joins_left profile picture memory r (suc m)) refl
  where
    look : LookView
    look = look_at profile picture (r, suc m)

    by : (b : Bool) → joins_left profile picture memory r (suc m) ≡ b
        → runs profile next ((if b then [] else goes profile (r, suc m) ++ renders look.pen) ++ put_of look.character ∷ []) ≡ runs profile next (paints_place profile picture (r, suc m))
    by false e = refl
    by true e =
        let parts = both (differs profile picture memory (r, m)) (pen_eq (look_at profile picture (r, m)).pen look.pen) e in
        let behind = behind_last laws place_law profile p picture k (differs profile picture memory) r m high (omega (arith, wide)) parts.0 old next s run in
        put_is_place have place_law profile p picture k r m high wide next (laws.kept profile p old next s _ run) behind.0 (behind.1 ∙ pen_same (look_at profile picture (r, m)).pen look.pen parts.1)

pub row_same : RunLaws → ProfilesHave → PlaceIsPainted → (profile : ProfileView) → IsProfile profile → (picture : PictureView) → IsPicture picture → (memory : MemoryView)
    → (r n : ℕ) → r < profile.rows → n ≤ profile.columns → (old : TerminalState) → IsState (abilities profile) old
    → runs profile old (flat_map (brief_place profile picture memory) (filter (differs profile picture memory) (part_places 0 n r)))
    ≡ runs profile old (flat_map (paints_place profile picture) (filter (differs profile picture memory) (part_places 0 n r)))
row_same laws have place_law profile p picture k memory r zero high wide old s = refl
row_same laws have place_law profile p picture k memory r (suc n) high wide old s =
    let d = differs profile picture memory in
    let f = paints_place profile picture in
    let g = brief_place profile picture memory in
    let next : suc n ≡ n + 1 = omega arith in
    let here : 0 + n ≡ n = omega arith in
    let more_f = part_more f d 0 n r ∙ ap (λ c. flat_map f (filter d (part_places 0 n r)) ++ flat_map f (filter d ((r, c) ∷ []))) here in
    let more_g = part_more g d 0 n r ∙ ap (λ c. flat_map g (filter d (part_places 0 n r)) ++ flat_map g (filter d ((r, c) ∷ []))) here in
    ap (λ m. runs profile old (flat_map g (filter d (part_places 0 m r)))) next
    ∙ ap (runs profile old) more_g
    ∙ then_same laws profile old old (flat_map g (filter d (part_places 0 n r))) (flat_map f (filter d (part_places 0 n r))) (flat_map g (filter d ((r, n) ∷ []))) (flat_map f (filter d ((r, n) ∷ [])))
    (row_same laws have place_law profile p picture k memory r n high (omega (arith, wide)) old s)
    (λ between run. by (d (r, n)) between (one_same laws have place_law profile p picture k memory r n high (omega (arith, wide)) old between s run))
    ∙ sym (ap (runs profile old) more_f)
    ∙ sym (ap (λ m. runs profile old (flat_map f (filter d (part_places 0 m r)))) next)
  where
    by : (b : Bool) → (between : TerminalState) → runs profile between (brief_place profile picture memory (r, n)) ≡ runs profile between (paints_place profile picture (r, n))
        → runs profile between (flat_map (brief_place profile picture memory) (if b then (r, n) ∷ [] else []))
        ≡ runs profile between (flat_map (paints_place profile picture) (if b then (r, n) ∷ [] else []))
    by b between same = grind arith
