-- The joined repaint shows the picture.
use Rattle.std.proofs.Common.{◌≡◌, ℕ, ◌+◌, ◌-◌, ◌<◌, ◌≤◌, ◌==◌, ◌&&◌, ◌||◌, not, leb, ltb, Bool, true, false, refl, sym, ◌∙◌, ap, subst, arith, List, [], ◌∷◌, ◌++◌, append_assoc, filter, Option, Some, None, unwrap_or, option_and_then, length, zero, suc, if◌then◌else◌}
use Rattle.std.specs.List.{flat_map, list_all, range_with_len}
use Rattle.std.proofs.lemmas.Bool.Decides.{nat_tests}
use Rattle.std.proofs.lemmas.List.{append-nil, length-replicate}
use Rattle.std.proofs.lemmas.List.Concat.{flat_map-append}
use Rattle.std.proofs.lemmas.List.Elements.{filter-append}
use Rattle.std.proofs.lemmas.Map.Views.{any-filter_same}
use Rattle.scr_cells.specs.Grids.{GridLaws, grid_at, is_in_run}
use Rattle.scr_cells.specs.LookViews.{LookView, blank}
use Rattle.scr_cells.specs.PenViews.{PenView, is_plain_pen, pen_eq, plain_pen}
use Rattle.scr_cells.specs.PictureViews.{PictureView, IsPicture, IsPlace}
use Rattle.scr_term.specs.declared.operations.operation.Op.{Op}
use Rattle.scr_term.specs.declared.operations.operation.Op.TheVariants.{Clear, EraseLine, Move, Reset}
use Rattle.scr_term.specs.declared.operations.operation.Spot.TheVariants.{At}
use Rattle.scr_term.specs.Operations.Laws.{BlankLaws, ProfilesHave, RunLaws}
use Rattle.scr_term.specs.Operations.Profiles.{ProfileView, IsProfile, abilities}
use Rattle.scr_term.specs.Operations.States.{TerminalState, IsState, blank_state, erased}
use Rattle.scr_term.specs.Operations.Steps.{runs, step}
use Rattle.scr_term.specs.Operations.Texts.{bytes_of, has}
use Rattle.scr_plan.proofs.BriefLaws.{behind_last, row_same}
use Rattle.scr_plan.proofs.RememberedPlanLaws.{agrees_itself}
use Rattle.scr_plan.proofs.PlaceLaws.{at_place, erases_line, first_step, goes_by, one_run, plain, resets_run, then_runs}
use Rattle.scr_plan.proofs.PartLaws.{among_row, is_among, is_here, part_joined, row_inside, row_more}
use Rattle.scr_plan.proofs.PlainLaws.{both, filter_inside, look_same, nothing_shows, pen_same, same_is_shown}
use Rattle.scr_plan.proofs.ScratchLaws.{IsRight, Rights, cleared_run, covered, each_painted, fewer_right, painted_shows, then_rights}
use Rattle.scr_plan.specs.Code.Joinings.{joined_at}
use Rattle.scr_plan.specs.Code.Painters.{part_places}
use Rattle.scr_memory.specs.Memories.{Agrees, MemoryView, is_placed}
use Rattle.scr_memory.specs.MemoryRuns.{KnownMemories}
use Rattle.scr_plan.specs.Repaints.{JoinedShows, begins_place, blank_column, brief_place, cleared, differing, differing_from, differs, erased_column, erased_if_worth, is_blank_from, is_idle, is_none_left, joined_places, joins_left, look_eq, state_after, without_idle}
use Rattle.scr_plan.specs.Scratch.{Fits, PlaceIsPainted, RunsToShow, goes, look_at, paints_place, places, places_cursor, renders, resets, row_places}

-- ---- where the rest of a line is erased

-- a column from which on a row is seen blank, and where it differs
pub record IsErasable (profile : ProfileView) (picture : PictureView) (memory : MemoryView) (r e : ℕ) : Type 0 where
  pub inside : e < picture.columns
  pub differs_there : differs profile picture memory (r, e) ≡ true
  pub blanks : (c : ℕ) → e ≤ c → c < picture.columns → look_at profile picture (r, c) ≡ blank
  pub has_it : has profile EraseLine ≡ true

pub all_in_range : (p : ℕ → Bool) (a n : ℕ) → list_all p (range_with_len a n) ≡ true → (k : ℕ) → a ≤ k → k < a + n → p k ≡ true
all_in_range p a zero all k low high = absurd (omega (arith, low, high))
all_in_range p a (suc n) all k low high = grind (arith, all_in_range p (a + 1) n)

pub blank_from : (profile : ProfileView) (picture : PictureView) (r e : ℕ) → is_blank_from profile picture r e ≡ true → (c : ℕ) → e ≤ c → c < picture.columns → look_at profile picture (r, c) ≡ blank
blank_from profile picture r e all c low wide =
    let here = all_in_range (λ c. not (leb e c) || look_eq (look_at profile picture (r, c)) blank) 0 picture.columns all c (omega arith) (omega arith) in
    look_same (look_at profile picture (r, c)) blank (grind (arith, here))

pub record IsFound (profile : ProfileView) (picture : PictureView) (memory : MemoryView) (r a n e : ℕ) : Type 0 where
  pub low : a ≤ e
  pub high : e < a + n
  pub differs_there : differs profile picture memory (r, e) ≡ true
  pub blanks : is_blank_from profile picture r e ≡ true

pub some_is : {A : Type 0} (a b : A) → Some a ≡ Some b → a ≡ b
some_is a b e = (cc)

pub none_is_not : {A R : Type 0} (x : A) → None ≡ Some x → R
none_is_not x e = (cc)

blank_found : (profile : ProfileView) (picture : PictureView) (memory : MemoryView) (r a n e : ℕ) → blank_column profile picture memory r (range_with_len a n) ≡ Some e → IsFound profile picture memory r a n e
blank_found profile picture memory r a zero e found = none_is_not e found
blank_found profile picture memory r a (suc n) e found = by (differs profile picture memory (r, a) && is_blank_from profile picture r a) refl (blank_found profile picture memory r (a + 1) n e) found
  where
    by : (b : Bool) → (differs profile picture memory (r, a) && is_blank_from profile picture r a) ≡ b
        → (blank_column profile picture memory r (range_with_len (a + 1) n) ≡ Some e → IsFound profile picture memory r (a + 1) n e)
        → (if b then Some a else blank_column profile picture memory r (range_with_len (a + 1) n)) ≡ Some e → IsFound profile picture memory r a (suc n) e
    by b h rest f = grind arith

-- what is worth it
pub erased_is : (profile : ProfileView) (picture : PictureView) (memory : MemoryView) (r e : ℕ) (found : Option ℕ) → erased_if_worth profile picture memory r found ≡ Some e
    → (found ≡ Some e) × (has profile EraseLine ≡ true) × (length (bytes_of profile EraseLine) ≤ differing_from profile picture memory r e)
erased_is profile picture memory r e found worth = grind arith

pub erasable : (profile : ProfileView) (picture : PictureView) (memory : MemoryView) (r e : ℕ) → erased_column profile picture memory r ≡ Some e → IsErasable profile picture memory r e
erasable profile picture memory r e worth =
    let had = erased_is profile picture memory r e (blank_column profile picture memory r (range_with_len 0 picture.columns)) worth in
    let is = blank_found profile picture memory r 0 picture.columns e had.0 in
    record { inside = omega (arith, is.high); differs_there = is.differs_there; blanks = blank_from profile picture r e is.blanks; has_it = had.1 }

-- ---- the operations of a row

-- the same of each place of a part, and nothing of each
pub part_alike : (f g : ℕ × ℕ → List Op) (d : ℕ × ℕ → Bool) (r a n : ℕ) → ((c : ℕ) → a ≤ c → c < a + n → f (r, c) ≡ g (r, c)) → flat_map f (filter d (part_places a n r)) ≡ flat_map g (filter d (part_places a n r))
part_alike f g d r a zero same = refl
part_alike f g d r a (suc n) same = grind (arith, part_alike f g d r (a + 1) n)

part_nothing : (f : ℕ × ℕ → List Op) (d : ℕ × ℕ → Bool) (r a n : ℕ) → ((c : ℕ) → a ≤ c → c < a + n → f (r, c) ≡ []) → flat_map f (filter d (part_places a n r)) ≡ []
part_nothing f d r a zero none = refl
part_nothing f d r a (suc n) none = grind (arith, part_nothing f d r (a + 1) n)

-- a row that is not erased
pub row_unerased : (profile : ProfileView) (picture : PictureView) (memory : MemoryView) (r : ℕ) → erased_column profile picture memory r ≡ None
    → flat_map (joined_at profile picture memory) (filter (differs profile picture memory) (row_places picture.columns r))
    ≡ flat_map (brief_place profile picture memory) (filter (differs profile picture memory) (part_places 0 picture.columns r))
row_unerased profile picture memory r none = grind (arith, part_alike)

-- a row that is erased from a column on: the places before it, what leads there, and the erasure
pub row_erased : (profile : ProfileView) (picture : PictureView) (memory : MemoryView) (r e : ℕ) → erased_column profile picture memory r ≡ Some e → e < picture.columns → differs profile picture memory (r, e) ≡ true
    → flat_map (joined_at profile picture memory) (filter (differs profile picture memory) (row_places picture.columns r))
    ≡ flat_map (brief_place profile picture memory) (filter (differs profile picture memory) (part_places 0 e r)) ++ (begins_place profile picture memory r e ++ EraseLine ∷ [])
row_erased profile picture memory r e at inside here =
    let f = joined_at profile picture memory in
    let g = brief_place profile picture memory in
    let d = differs profile picture memory in
    let n = picture.columns - (e + 1) in
    let whole : picture.columns ≡ e + suc n = omega (arith, inside) in
    let zero_more : 0 + e ≡ e = omega arith in
    let before : flat_map f (filter d (part_places 0 e r)) ≡ flat_map g (filter d (part_places 0 e r)) = part_alike f g d r 0 e (λ c low high. rw at (grind (arith, nat_tests, high))) in
    let behind : flat_map f (filter d (part_places (e + 1) n r)) ≡ [] = part_nothing f d r (e + 1) n (λ c low high. rw at (grind (arith, low))) in
    let there : filter d (part_places e (suc n) r) ≡ (r, e) ∷ filter d (part_places (e + 1) n r) = ap (λ b. if b then (r, e) ∷ filter d (part_places (e + 1) n r) else filter d (part_places (e + 1) n r)) here in
    let own : f (r, e) ≡ begins_place profile picture memory r e ++ EraseLine ∷ [] = rw at (grind arith) in
    ap (λ k. flat_map f (filter d (part_places 0 k r))) whole
    ∙ rw (part_joined 0 e (suc n) r, filter-append, flat_map-append, zero_more, before, there) (ap (λ ops. flat_map g (filter d (part_places 0 e r)) ++ (f (r, e) ++ ops)) behind ∙ ap (λ ops. flat_map g (filter d (part_places 0 e r)) ++ ops) (append-nil (f (r, e)) ∙ own))

-- ---- what a row shows then

covers_waits : (waits some more : Bool) → (waits && not some) ≡ false → (some ≡ true → more ≡ true) → (waits && not more) ≡ false
covers_waits waits some more e within = grind arith

-- places of a part that are painted one by one
part_right : RunLaws → PlaceIsPainted → GridLaws LookView → (profile : ProfileView) → IsProfile profile → (picture : PictureView) → IsPicture picture → (d : ℕ × ℕ → Bool) (row n : ℕ) → row < profile.rows → n ≤ profile.columns
    → (waits : ℕ × ℕ → Bool) (old : TerminalState) → IsRight profile picture waits old
    → Rights profile picture (λ place. waits place && not (place.0 == row && ltb place.1 n && d place)) old (flat_map (paints_place profile picture) (filter d (part_places 0 n row)))
part_right laws place_law grids profile p picture k d row n high wide waits old before =
    let list : List (ℕ × ℕ) = filter d (part_places 0 n row) in
    let inside = filter_inside (IsPlace profile.rows profile.columns) d (part_places 0 n row) (row_inside profile.rows profile.columns row n 0 high (omega (arith, wide))) in
    fewer_right profile picture _ _ old (flat_map (paints_place profile picture) list) (λ r c _ _ e. covers_waits (waits (r, c)) _ (is_among r c list) e (among d row n r c)) (each_painted laws place_law grids profile p picture k list inside waits old before)
  where
    here_same : (d : ℕ × ℕ → Bool) (r c : ℕ) (place : ℕ × ℕ) → is_here r c place ≡ true → d place ≡ d (r, c)
    here_same d r c place e = grind arith

    among : (d : ℕ × ℕ → Bool) (row n r c : ℕ) → (r == row && ltb c n && d (r, c)) ≡ true → is_among r c (filter d (part_places 0 n row)) ≡ true
    among d row n r c e = any-filter_same (is_here r c) d (d (r, c)) (here_same d r c) (part_places 0 n row) ∙ grind (arith, among_row row c n 0)

-- the cursor is at a place with a plain pen, and the cells are as they were
pub record IsAt (old new : TerminalState) (r c : ℕ) : Type 0 where
  pub grid : new.grid ≡ old.grid
  pub spot : new.spot ≡ At r c
  pub pen : new.pen ≡ plain_pen

-- the rest of a line is erased there
erased_right : GridLaws LookView → (profile : ProfileView) → IsProfile profile → RunLaws → (picture : PictureView) → Fits profile picture → (memory : MemoryView) (row e : ℕ) → IsErasable profile picture memory row e
    → (waits : ℕ × ℕ → Bool) (old at : TerminalState) → IsRight profile picture waits old → IsState (abilities profile) at → IsAt old at row e
    → Rights profile picture (λ place. waits place && not (place.0 == row && leb e place.1)) at (EraseLine ∷ [])
erased_right grids profile p laws picture fits memory row e can waits old at before state is =
    let new : TerminalState = erased profile.rows profile.columns (is_in_run row e profile.columns) at in
    let run : runs profile at (EraseLine ∷ []) ≡ Some new = one_run profile at new EraseLine can.has_it (erases_line profile at row e is.spot (ap is_plain_pen is.pen)) in
    record {
      new = new;
      run = run;
      is = record {
        state = laws.kept profile p at new state (EraseLine ∷ []) run;
        right = λ r c h w left.
            grids.formula blank profile.rows profile.columns (λ r c. if is_in_run row e profile.columns r c then blank else grid_at blank at.grid r c) r c h w
            ∙ covered (is_in_run row e profile.columns r c) (waits (r, c)) (r == row && leb e c) blank _ _ left (λ free. ap (λ g. grid_at blank g r c) is.grid ∙ before.right r c h w free) (inside row r c w) (shown r c w);
      };
    }
  where
    inside : (row r c : ℕ) → c < profile.columns → (r == row && leb e c) ≡ true → is_in_run row e profile.columns r c ≡ true
    inside row r c wide here = grind arith

    shown : (r c : ℕ) → c < profile.columns → is_in_run row e profile.columns r c ≡ true → blank ≡ look_at profile picture (r, c)
    shown r c wide here = grind (arith, can.blanks c, fits.columns)

-- what leads to a place that is seen blank
begun_at : RunLaws → ProfilesHave → PlaceIsPainted → (profile : ProfileView) → IsProfile profile → (picture : PictureView) → IsPicture picture → Fits profile picture → (memory : MemoryView) (row e : ℕ) → row < profile.rows
    → IsErasable profile picture memory row e → (old next : TerminalState) → IsState (abilities profile) old → IsState (abilities profile) next
    → runs profile old (flat_map (paints_place profile picture) (filter (differs profile picture memory) (part_places 0 e row))) ≡ Some next
    → (at : TerminalState) × (runs profile next (begins_place profile picture memory row e) ≡ Some at) × IsAt next at row e
begun_at laws have place_law profile p picture k fits memory row e high can old next state after run = by (joins_left profile picture memory row e) refl
  where
    wide : e < profile.columns
    wide = omega (arith, can.inside, fits.columns)

    look : look_at profile picture (row, e) ≡ blank
    look = can.blanks e (omega arith) can.inside

    left : (e' : ℕ) → e ≡ e' → joins_left profile picture memory row e' ≡ true → IsAt next next row e
    left zero at e = (cc)
    left (suc m) at joins =
        let parts = both (differs profile picture memory (row, m)) (pen_eq (look_at profile picture (row, m)).pen (look_at profile picture (row, suc m)).pen) joins in
        let last = behind_last laws place_law profile p picture k (differs profile picture memory) row m high (omega (arith, wide, at)) parts.0 old next state
        (ap (λ n. runs profile old (flat_map (paints_place profile picture) (filter (differs profile picture memory) (part_places 0 n row)))) (sym at) ∙ run) in
        record {
          grid = refl;
          spot = last.0 ∙ grind (arith, nat_tests, wide, at);
          pen = last.1 ∙ pen_same (look_at profile picture (row, m)).pen (look_at profile picture (row, suc m)).pen parts.1 ∙ ap (λ c. (look_at profile picture (row, c)).pen) (sym at) ∙ ap (λ l. l.pen) look;
        }

    by : (b : Bool) → joins_left profile picture memory row e ≡ b
        → (at : TerminalState) × (runs profile next (if b then [] else goes profile (row, e) ++ renders (look_at profile picture (row, e)).pen) ≡ Some at) × IsAt next at row e
    by true joins = (next, refl, left e refl joins)
    by false joins =
        let gone = goes_by laws profile (have profile p) next after.pen (row, e) (high, wide) profile.msgr refl in
        (plain (at_place next (row, e)), ap (λ look. runs profile next (goes profile (row, e) ++ renders look.pen)) look ∙ ap (runs profile next) (append-nil (goes profile (row, e))) ∙ gone, record { grid = refl; spot = refl; pen = refl })

-- a row of the joined repaint
pub row_right : RunLaws → ProfilesHave → PlaceIsPainted → GridLaws LookView → (profile : ProfileView) → IsProfile profile → (picture : PictureView) → IsPicture picture → Fits profile picture → (memory : MemoryView) (row : ℕ) → row < profile.rows
    → (waits : ℕ × ℕ → Bool) (old : TerminalState) → IsRight profile picture waits old
    → Rights profile picture (λ place. waits place && not (place.0 == row && differs profile picture memory place)) old (flat_map (joined_at profile picture memory) (filter (differs profile picture memory) (row_places picture.columns row)))
row_right laws have place_law grids profile p picture k fits memory row high waits old before = by (erased_column profile picture memory row) refl
  where
    d : ℕ × ℕ → Bool
    d = differs profile picture memory

    all : List Op
    all = flat_map (joined_at profile picture memory) (filter d (row_places picture.columns row))

    in_row : (waits d : Bool) (r c n : ℕ) → c < n → (waits && not (r == row && d)) ≡ false → (waits && not (r == row && ltb c n && d)) ≡ false
    in_row waits d r c n wide e = grind arith

    in_either : (waits d : Bool) (r c e : ℕ) → (waits && not (r == row && d)) ≡ false → ((waits && not (r == row && ltb c e && d)) && not (r == row && leb e c)) ≡ false
    in_either waits d r c e free = grind arith

    by : (e : Option ℕ) → erased_column profile picture memory row ≡ e → Rights profile picture (λ place. waits place && not (place.0 == row && d place)) old all
    by None at =
        let painted = part_right laws place_law grids profile p picture k d row picture.columns high (omega (arith, fits.columns)) waits old before in
        fewer_right profile picture _ _ old all (λ r c h w e. in_row (waits (r, c)) (d (r, c)) r c picture.columns (omega (arith, w, fits.columns)) e) (record {
          new = painted.new;
          run = ap (runs profile old) (row_unerased profile picture memory row at) ∙ row_same laws have place_law profile p picture k memory row picture.columns high (omega (arith, fits.columns)) old before.state ∙ painted.run;
          is = painted.is;
        })
    by (Some e) at =
        let can = erasable profile picture memory row e at in
        let prefix = part_right laws place_law grids profile p picture k d row e high (omega (arith, can.inside, fits.columns)) waits old before in
        let begun = begun_at laws have place_law profile p picture k fits memory row e high can old prefix.new before.state prefix.is.state prefix.run in
        let last = erased_right grids profile p laws picture fits memory row e can _ prefix.new begun.0 prefix.is (laws.kept profile p prefix.new begun.0 prefix.is.state _ begun.1) begun.2 in
        let brief = flat_map (brief_place profile picture memory) (filter d (part_places 0 e row)) in
        let first : runs profile old brief ≡ Some prefix.new = row_same laws have place_law profile p picture k memory row e high (omega (arith, can.inside, fits.columns)) old before.state ∙ prefix.run in
        fewer_right profile picture _ _ old all (λ r c h w free. in_either (waits (r, c)) (d (r, c)) r c e free) (subst (Rights profile picture _ old) (sym (row_erased profile picture memory row e at can.inside can.differs_there))
        (then_rights laws profile picture _ old prefix.new brief _ first (then_rights laws profile picture _ prefix.new begun.0 (begins_place profile picture memory row e) (EraseLine ∷ []) begun.1 last)))

-- ---- all rows

rows_right : RunLaws → ProfilesHave → PlaceIsPainted → GridLaws LookView → (profile : ProfileView) → IsProfile profile → (picture : PictureView) → IsPicture picture → Fits profile picture → (memory : MemoryView) (n : ℕ) → n ≤ profile.rows
    → (waits : ℕ × ℕ → Bool) (old : TerminalState) → IsRight profile picture waits old
    → Rights profile picture (λ place. waits place && not (ltb place.0 n && differs profile picture memory place)) old (flat_map (joined_at profile picture memory) (filter (differs profile picture memory) (places n picture.columns)))
rows_right laws have place_law grids profile p picture k fits memory zero high waits old before = record { new = old; run = refl; is = record { state = before.state; right = λ r c h w e. before.right r c h w (grind (arith, e)) } }
rows_right laws have place_law grids profile p picture k fits memory (suc n) high waits old before =
    let f = joined_at profile picture memory in
    let d = differs profile picture memory in
    let next : suc n ≡ n + 1 = omega arith in
    let first = rows_right laws have place_law grids profile p picture k fits memory n (omega (arith, high)) waits old before in
    let row = row_right laws have place_law grids profile p picture k fits memory n (omega (arith, high)) _ first.new first.is in
    let ops : flat_map f (filter d (places (suc n) picture.columns)) ≡ flat_map f (filter d (places n picture.columns)) ++ flat_map f (filter d (row_places picture.columns n)) =
    ap (λ m. flat_map f (filter d (places m picture.columns))) next ∙ row_more f d n picture.columns in
    fewer_right profile picture _ _ old _ (λ r c h w e. in_either (waits (r, c)) (d (r, c)) r e) (subst (Rights profile picture _ old) (sym ops) (then_rights laws profile picture _ old first.new _ _ first.run row))
  where
    in_either : (waits d : Bool) (r : ℕ) → (waits && not (ltb r (suc n) && d)) ≡ false → ((waits && not (ltb r n && d)) && not (r == n && d)) ≡ false
    in_either waits d r e = grind arith

-- ---- steps that change nothing

pub plain_is : (pen : PenView) → is_plain_pen pen ≡ true → pen ≡ plain_pen
plain_is pen e = grind arith

pub idle_same : (profile : ProfileView) (s next : TerminalState) (op : Op) → is_idle s op ≡ true → step profile s op ≡ Some next → next ≡ s
idle_same profile s next Reset idle e = grind (arith, plain_is)
idle_same profile s next (Move r c) idle e = grind arith
idle_same profile s next _ idle e = (cc)

-- a step that is defined, without it where it is idle
pub without_step : (profile : ProfileView) (old next : TerminalState) (op : Op) (ops : List Op) → step profile old op ≡ Some next → without_idle profile old (op ∷ ops) ≡ (if is_idle old op then [] else op ∷ []) ++ without_idle profile next ops
without_step profile old next op ops there = by (is_idle old op) refl
  where
    by : (b : Bool) → is_idle old op ≡ b → (if b then without_idle profile old ops else op ∷ without_idle profile (state_after profile old op) ops) ≡ (if b then [] else op ∷ []) ++ without_idle profile next ops
    by true idle = ap (λ s. without_idle profile s ops) (sym (idle_same profile old next op idle there))
    by false idle = ap (λ s. op ∷ without_idle profile (unwrap_or s old) ops) there

-- a run without its idle steps leads where it leads
pub idle_run : (profile : ProfileView) (old new : TerminalState) (ops : List Op) → runs profile old ops ≡ Some new → runs profile old (without_idle profile old ops) ≡ Some new
idle_run profile old new [] run = run
idle_run profile old new (op ∷ ops) run =
    let first = first_step profile old new op ops run in
    ap (runs profile old) (without_step profile old first.0 op ops first.1) ∙ by (is_idle old op) refl first.0 first.1 (idle_run profile first.0 new ops first.2)
  where
    by : (b : Bool) → is_idle old op ≡ b → (next : TerminalState) → step profile old op ≡ Some next → runs profile next (without_idle profile next ops) ≡ Some new → runs profile old ((if b then [] else op ∷ []) ++ without_idle profile next ops) ≡ Some new
    by true idle next there rest = ap (λ s. runs profile s (without_idle profile next ops)) (sym (idle_same profile old next op idle there)) ∙ rest
    by false idle next there rest = ap (option_and_then (λ s. runs profile s (without_idle profile next ops))) there ∙ rest

-- ---- all of it

-- from a state that shows what does not differ
rest_shows : RunLaws → ProfilesHave → PlaceIsPainted → GridLaws LookView → (profile : ProfileView) → IsProfile profile → (picture : PictureView) → IsPicture picture → Fits profile picture → (memory : MemoryView) (old : TerminalState)
    → IsRight profile picture (differs profile picture memory) old → RunsToShow profile old (joined_places profile picture memory ++ resets profile ++ places_cursor picture.wish) picture
rest_shows laws have place_law grids profile p picture k fits memory old before =
    painted_shows laws grids profile p (have profile p) picture k fits old before.state (joined_places profile picture memory)
    (fewer_right profile picture _ (λ _. false) old (joined_places profile picture memory) (λ r c h w e. all_of (differs profile picture memory (r, c)) r (omega (arith, h, fits.rows)))
    (rows_right laws have place_law grids profile p picture k fits memory picture.rows (omega (arith, fits.rows)) (differs profile picture memory) old before))
  where
    all_of : (d : Bool) (r : ℕ) → r < picture.rows → (d && not (ltb r picture.rows && d)) ≡ false
    all_of d r high = grind arith

-- a row of runs, put together in another way
pub joined_assoc : {A : Type 0} (a b c d : List A) → ((a ++ b) ++ c) ++ d ≡ a ++ ((b ++ c) ++ d)
joined_assoc a b c d = append_assoc (a ++ b) c d ∙ append_assoc a b (c ++ d) ∙ ap (λ l. a ++ l) (sym (append_assoc b c d))

-- where something is to be done
changed_shows : RunLaws → ProfilesHave → PlaceIsPainted → GridLaws LookView → (profile : ProfileView) → IsProfile profile → (picture : PictureView) → IsPicture picture → Fits profile picture → (memory : MemoryView) (old : TerminalState)
    → Agrees (abilities profile) memory old → RunsToShow profile old (without_idle profile old (resets profile ++ joined_places profile picture memory ++ resets profile ++ places_cursor picture.wish)) picture
changed_shows laws have place_law grids profile p picture k fits memory old agrees =
    let first : List Op = resets profile in
    let rest : List Op = joined_places profile picture memory ++ first ++ places_cursor picture.wish in
    let begun : runs profile old first ≡ Some (plain old) = resets_run profile (have profile p) old agrees.is_state.pen in
    let is : IsState (abilities profile) (plain old) = laws.kept profile p old (plain old) agrees.is_state first begun in
    let shows = rest_shows laws have place_law grids profile p picture k fits memory (plain old) (record { state = is; right = λ r c h w same. same_is_shown profile picture memory old agrees r c h same }) in
    let run : runs profile old (first ++ joined_places profile picture memory ++ first ++ places_cursor picture.wish) ≡ Some shows.new =
    ap (runs profile old) (joined_assoc first (joined_places profile picture memory) first (places_cursor picture.wish)) ∙ then_runs laws profile old (plain old) shows.new first rest begun shows.run in
    record { new = shows.new; run = idle_run profile old shows.new _ run; shows = shows.shows; state = shows.state }

-- what is remembered of a cleared screen is so on a blank one
cleared_agrees : (profile : ProfileView) (picture : PictureView) → Fits profile picture → IsState (abilities profile) (blank_state profile.rows profile.columns) → Agrees (abilities profile) (cleared picture) (blank_state profile.rows profile.columns)
cleared_agrees profile picture fits state = grind (arith, agrees_itself, length-replicate)

pub joined_shows : RunLaws → BlankLaws → ProfilesHave → PlaceIsPainted → GridLaws LookView → KnownMemories → JoinedShows
joined_shows laws blanks have place_law grids remembers = record {
  joined = λ profile p picture k fits memory whole old agrees known.
      by profile p picture k fits memory old agrees (remembers.state (abilities profile) memory whole old agrees known) (is_none_left (differing profile picture memory)) (is_placed memory picture.wish) refl refl;
  anew = λ profile p picture k fits old state.
      let cleared_run : runs profile old (resets profile ++ Clear ∷ []) ≡ Some (blank_state profile.rows profile.columns) = cleared_run laws profile (have profile p) old state.pen in
      let agrees = cleared_agrees profile picture fits (blanks.state profile p) in
      let shows = rest_shows laws have place_law grids profile p picture k fits (cleared picture) (blank_state profile.rows profile.columns)
      (record { state = blanks.state profile p; right = λ r c h w same. same_is_shown profile picture (cleared picture) (blank_state profile.rows profile.columns) agrees r c h same }) in
      record {
        new = shows.new;
        run = then_runs laws profile old (blank_state profile.rows profile.columns) shows.new (resets profile ++ Clear ∷ []) _ cleared_run (idle_run profile (blank_state profile.rows profile.columns) shows.new _ shows.run);
        shows = shows.shows;
        state = shows.state;
      };
}
  where
    by : (profile : ProfileView) → IsProfile profile → (picture : PictureView) → IsPicture picture → Fits profile picture → (memory : MemoryView) (old : TerminalState) → Agrees (abilities profile) memory old → memory.state ≡ old
        → (none placed : Bool) → is_none_left (differing profile picture memory) ≡ none → is_placed memory picture.wish ≡ placed
        → RunsToShow profile old (if none && placed then [] else without_idle profile memory.state (resets profile ++ joined_places profile picture memory ++ resets profile ++ places_cursor picture.wish)) picture
    by profile p picture k fits memory old agrees same true true none placed = nothing_shows grids profile picture k fits memory old agrees none placed
    by profile p picture k fits memory old agrees same true false none placed =
        subst (λ s. RunsToShow profile old (without_idle profile s (resets profile ++ joined_places profile picture memory ++ resets profile ++ places_cursor picture.wish)) picture) (sym same)
        (changed_shows laws have place_law grids profile p picture k fits memory old agrees)
    by profile p picture k fits memory old agrees same false placed none e =
        subst (λ s. RunsToShow profile old (without_idle profile s (resets profile ++ joined_places profile picture memory ++ resets profile ++ places_cursor picture.wish)) picture) (sym same)
        (changed_shows laws have place_law grids profile p picture k fits memory old agrees)
