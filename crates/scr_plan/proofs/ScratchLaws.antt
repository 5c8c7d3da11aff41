-- Scratch shows the picture from every state, has few operations, and takes only those that the profile has.
use Rattle.std.proofs.Common.{◌≡◌, ℕ, ◌+◌, ◌<◌, ◌&&◌, ◌||◌, not, Bool, true, false, refl, sym, ◌∙◌, ap, arith, List, [], ◌∷◌, ◌++◌, get_or, length, Option, Some, None, IfSome, map, zero, suc, if◌then◌else◌, ◌*◌, ◌≤◌, subst}
use Rattle.std.specs.List.{AllByRecursion, flat_map, range_with_len, All}
use Rattle.std.proofs.Math.Bool.{or-true}
use Rattle.std.proofs.Math.ListN.{get_or-map}
use Rattle.std.proofs.lemmas.List.{length-map, length-append}
use Rattle.scr_cells.specs.CellViews.{CellView, blank_cell}
use Rattle.scr_cells.specs.Grids.{GridLaws, IsGrid, grid_at, grid_of, grid_row, grid_with, is_in_run}
use Rattle.scr_cells.specs.LookViews.{LookView, blank}
use Rattle.scr_cells.specs.PictureViews.{PictureView, IsPicture, IsPlace}
use Rattle.scr_term.specs.declared.operations.operation.Op.{Op}
use Rattle.scr_term.specs.declared.operations.operation.Op.TheVariants.{Clear, Reset}
use Rattle.scr_term.specs.declared.operations.operation.Spot.TheVariants.{At}
use Rattle.scr_term.specs.Operations.Ecma48.{Ecma48Laws}
use Rattle.scr_term.specs.Operations.Laws.{BytesActAsTheirOperations, HasLaws, ProfilesHave, RunLaws, BlankLaws}
use Rattle.scr_term.specs.Operations.Painted.{painted, seen_on}
use Rattle.scr_term.specs.Operations.Profiles.{ProfileView, IsProfile, abilities, is_there}
use Rattle.scr_term.specs.Operations.States.{TerminalState, IsShownPen, IsState, blank_state, spot_after}
use Rattle.scr_term.specs.Operations.Steps.{runs}
use Rattle.scr_plan.proofs.PlaceLaws.{at_place, move_run, plain, resets_run, then_runs}
use Rattle.scr_plan.proofs.PartLaws.{among_places, is_among, is_here, places_inside}
use Rattle.scr_plan.specs.Scratch.{Fits, RunsToShow, look_at, paints_place, paints_places, places, places_cursor, resets, PlaceIsPainted, ScratchBytesShow, ScratchShows, ScratchIsBounded, enter, goes, renders, row_places, sets_background, sets_foreground, scratch_of}
use Rattle.std.proofs.lemmas.List.FromFn.{length-range_with_len}
use Rattle.std.proofs.Math.Nat.{mul-le-mul_right}
use Rattle.scr_cells.specs.Attributes.{attributes_of}
use Rattle.scr_cells.specs.PenViews.{PenView}
use Rattle.scr_term.specs.declared.operations.capability.Capability.TheVariants.{Sgr0}
use Rattle.scr_term.specs.Operations.Texts.{has, put_of}

-- ---- places that show what is seen of the picture

-- every place that does not wait does
pub record IsRight (profile : ProfileView) (picture : PictureView) (waits : ℕ × ℕ → Bool) (now : TerminalState) : Type 0 where
  pub state : IsState (abilities profile) now
  pub right : (r c : ℕ) → r < profile.rows → c < profile.columns → waits (r, c) ≡ false → grid_at blank now.grid r c ≡ look_at profile picture (r, c)

-- operations lead to such a state
pub record Rights (profile : ProfileView) (picture : PictureView) (waits : ℕ × ℕ → Bool) (old : TerminalState) (ops : List Op) : Type 0 where
  pub new : TerminalState
  pub run : runs profile old ops ≡ Some new
  pub is : IsRight profile picture waits new

-- one run and then another
pub then_rights : RunLaws → (profile : ProfileView) (picture : PictureView) (waits : ℕ × ℕ → Bool) (old next : TerminalState) (xs ys : List Op) → runs profile old xs ≡ Some next → Rights profile picture waits next ys → Rights profile picture waits old (xs ++ ys)
then_rights laws profile picture waits old next xs ys run rest = record { new = rest.new; run = then_runs laws profile old next rest.new xs ys run rest.run; is = rest.is }

-- places that do not wait are among those that did not
pub fewer_right : (profile : ProfileView) (picture : PictureView) (waits less : ℕ × ℕ → Bool) (old : TerminalState) (ops : List Op) → ((r c : ℕ) → r < profile.rows → c < profile.columns → less (r, c) ≡ false → waits (r, c) ≡ false) → Rights profile picture waits old ops → Rights profile picture less old ops
fewer_right profile picture waits less old ops fewer rights = record { new = rights.new; run = rights.run; is = record { state = rights.is.state; right = λ r c high wide e. rights.is.right r c high wide (fewer r c high wide e) } }

-- a place that waits no more, since what covers it is painted
pub covered : (here waits covers : Bool) (new old look : LookView) → (waits && not covers) ≡ false → (waits ≡ false → old ≡ look) → (covers ≡ true → here ≡ true) → (here ≡ true → new ≡ look) → (if here then new else old) ≡ look
covered here waits covers new old look e was inside shown = grind arith

-- ---- places are painted

-- one place of a grid is changed
pub place_changed : GridLaws LookView → (rows columns : ℕ) (grid : List (List LookView)) → IsGrid rows columns grid → (place : ℕ × ℕ) → IsPlace rows columns place → (look : LookView)
    → (r c : ℕ) → r < rows → c < columns
    → grid_at blank (grid_with grid place.0 place.1 look) r c ≡ (if is_here r c place then look else grid_at blank grid r c)
place_changed grids rows columns grid is place inside look r c high wide =
    let same : is_in_run place.0 place.1 (place.1 + 1) r c ≡ is_here r c place = grind arith in
    ap (λ g. grid_at blank g r c) (grids.place blank rows columns grid place.0 place.1 look is inside.0 inside.1)
    ∙ grids.formula blank rows columns (λ r c. if is_in_run place.0 place.1 (place.1 + 1) r c then look else grid_at blank grid r c) r c high wide
    ∙ ap (λ here. if here then look else grid_at blank grid r c) same

pub own_look : (profile : ProfileView) (picture : PictureView) (place : ℕ × ℕ) (r c : ℕ) → is_here r c place ≡ true → look_at profile picture place ≡ look_at profile picture (r, c)
own_look profile picture place r c here = grind arith

neither : (waits first others : Bool) → (waits && not (first || others)) ≡ false → ((waits && not first) && not others) ≡ false
neither waits first others e = grind arith

pub each_painted : RunLaws → PlaceIsPainted → GridLaws LookView → (profile : ProfileView) → IsProfile profile → (picture : PictureView) → IsPicture picture
    → (list : List (ℕ × ℕ)) → AllByRecursion (IsPlace profile.rows profile.columns) list → (waits : ℕ × ℕ → Bool) (old : TerminalState) → IsRight profile picture waits old
    → Rights profile picture (λ place. waits place && not (is_among place.0 place.1 list)) old (flat_map (paints_place profile picture) list)
each_painted laws place_law grids profile p picture k [] inside waits old before = record { new = old; run = refl; is = record { state = before.state; right = λ r c high wide e. before.right r c high wide (grind arith) } }
each_painted laws place_law grids profile p picture k (place ∷ list) inside waits old before =
    let look : LookView = look_at profile picture place in
    let next : TerminalState = record { grid = grid_with old.grid place.0 place.1 look; spot = spot_after profile.columns place.0 place.1; pen = look.pen } in
    let run : runs profile old (paints_place profile picture place) ≡ Some next = place_law profile p picture k place inside.0 old before.state in
    let now : IsRight profile picture (λ other. waits other && not (is_here other.0 other.1 place)) next = record {
      state = laws.kept profile p old next before.state (paints_place profile picture place) run;
      right = λ r c high wide e.
          place_changed grids profile.rows profile.columns old.grid before.state.whole place inside.0 look r c high wide
          ∙ covered (is_here r c place) (waits (r, c)) (is_here r c place) look _ _ e (before.right r c high wide) (λ here. here) (own_look profile picture place r c);
    } in
    fewer_right profile picture _ (λ other. waits other && not (is_among other.0 other.1 (place ∷ list))) old (paints_place profile picture place ++ flat_map (paints_place profile picture) list) (λ r c high wide e. neither (waits (r, c)) (is_here r c place) (is_among r c list) e)
    (then_rights laws profile picture _ old next (paints_place profile picture place) (flat_map (paints_place profile picture) list) run (each_painted laws place_law grids profile p picture k list inside.1 _ next now))

-- ---- the grid is then the painted picture

pub map_same : {A : Type 0} (f g : ℕ → A) (n a : ℕ) → ((k : ℕ) → k < a + n → f k ≡ g k) → map f (range_with_len a n) ≡ map g (range_with_len a n)
map_same f g zero a same = refl
map_same f g (suc n) a same = λ i. same a (omega arith) i ∷ map_same f g n (a + 1) (λ k below. same k (omega (arith, below))) i

pub grid_same : (rows columns : ℕ) (f g : ℕ → ℕ → LookView) → ((r c : ℕ) → r < rows → c < columns → f r c ≡ g r c) → grid_of rows columns f ≡ grid_of rows columns g
grid_same rows columns f g same = grind (arith, map_same)

pub map_grid_at : (f : CellView → LookView) (lines : List (List CellView)) (r c : ℕ) → grid_at (f blank_cell) (map (map f) lines) r c ≡ f (grid_at blank_cell lines r c)
map_grid_at f lines r c = ap (λ line. get_or line c (f blank_cell)) (get_or-map (map f) lines r []) ∙ get_or-map f (grid_row lines r) c blank_cell

pub map_is_grid : (f : CellView → LookView) (rows columns : ℕ) (lines : List (List CellView)) → IsGrid rows columns lines → IsGrid rows columns (map (map f) lines)
map_is_grid f rows columns lines is = record {
  high = length-map lines (map f) ∙ is.high;
  wide = λ r h. ap length (get_or-map (map f) lines r []) ∙ length-map (grid_row lines r) f ∙ is.wide r h;
}

pub grid_is_painted : GridLaws LookView → (profile : ProfileView) (picture : PictureView) → IsGrid profile.rows profile.columns picture.lines
    → (grid : List (List LookView)) → IsGrid profile.rows profile.columns grid
    → ((r c : ℕ) → r < profile.rows → c < profile.columns → grid_at blank grid r c ≡ look_at profile picture (r, c))
    → grid ≡ painted (abilities profile) picture
grid_is_painted grids profile picture lines grid is shows =
    let f : CellView → LookView = seen_on (abilities profile) picture.pairs in
    let others : List (List LookView) = painted (abilities profile) picture in
    grids.places blank profile.rows profile.columns grid is
    ∙ grid_same profile.rows profile.columns (grid_at blank grid) (grid_at (f blank_cell) others) (λ r c high wide. shows r c high wide ∙ sym (map_grid_at f picture.lines r c))
    ∙ sym (grids.places (f blank_cell) profile.rows profile.columns others (map_is_grid f profile.rows profile.columns picture.lines lines))

-- ---- from every state

-- at the end the cursor is where it is wished
pub cursor_placed : (profile : ProfileView) → HasLaws profile → (wish : Option (ℕ × ℕ)) → IfSome wish (IsPlace profile.rows profile.columns) → (old : TerminalState)
    → (new : TerminalState) × (runs profile (plain old) (places_cursor wish) ≡ Some new) × (new.grid ≡ old.grid) × IfSome wish (λ place. new.spot ≡ At place.0 place.1)
cursor_placed profile can None inside old = (plain old, refl, refl, tt)
cursor_placed profile can (Some place) inside old =
    (at_place (plain old) place, move_run profile can (plain old) place inside (or-true profile.msgr), refl, refl)

-- what follows operations after which every place is right
pub painted_shows : RunLaws → GridLaws LookView → (profile : ProfileView) → IsProfile profile → HasLaws profile → (picture : PictureView) → IsPicture picture → Fits profile picture
    → (old : TerminalState) → IsState (abilities profile) old → (ops : List Op) → Rights profile picture (λ _. false) old ops → RunsToShow profile old (ops ++ resets profile ++ places_cursor picture.wish) picture
painted_shows laws grids profile p can picture k fits old state ops painted =
    let lines : IsGrid profile.rows profile.columns picture.lines = rw (← fits.rows, ← fits.columns) k.grid in
    let last = cursor_placed profile can picture.wish (rw (← fits.rows, ← fits.columns) k.wish) painted.new in
    let run : runs profile old (ops ++ resets profile ++ places_cursor picture.wish) ≡ Some last.0 =
    then_runs laws profile old (plain painted.new) last.0 (ops ++ resets profile) (places_cursor picture.wish)
    (then_runs laws profile old painted.new (plain painted.new) ops (resets profile) painted.run (resets_run profile can painted.new painted.is.state.pen)) last.1 in
    record {
      new = last.0;
      run = run;
      shows = record { grid = last.2 ∙ grid_is_painted grids profile picture lines painted.new.grid painted.is.state.whole (λ r c high wide. painted.is.right r c high wide refl); spot = last.3 };
      state = laws.kept profile p old last.0 state (ops ++ resets profile ++ places_cursor picture.wish) run;
    }

-- no attribute and default colours, and then a blank screen
pub cleared_run : RunLaws → (profile : ProfileView) → HasLaws profile → (old : TerminalState) → IsShownPen (abilities profile) old.pen
    → runs profile old (resets profile ++ Clear ∷ []) ≡ Some (blank_state profile.rows profile.columns)
cleared_run laws profile can old shown = grind arith

pub all_inside : (profile : ProfileView) (picture : PictureView) → Fits profile picture → AllByRecursion (IsPlace profile.rows profile.columns) (places picture.rows picture.columns)
all_inside profile picture fits = rw (fits.rows, fits.columns) (places_inside profile.rows profile.columns)

pub scratch_shows : RunLaws → ProfilesHave → PlaceIsPainted → GridLaws LookView → ScratchShows
scratch_shows laws have place_law grids profile p picture k fits old s =
    let blanks : TerminalState = blank_state profile.rows profile.columns in
    let begins : List Op = resets profile ++ Clear ∷ [] in
    let begun = cleared_run laws profile (have profile p) old s.pen in
    let before : IsRight profile picture (λ _. true) blanks = record { state = laws.kept profile p old blanks s begins begun; right = λ r c high wide e. (cc) } in
    let each = each_painted laws place_law grids profile p picture k (places picture.rows picture.columns) (all_inside profile picture fits) (λ _. true) blanks before in
    painted_shows laws grids profile p (have profile p) picture k fits old s (begins ++ paints_places profile picture)
    (fewer_right profile picture _ (λ _. false) old (begins ++ paints_places profile picture) (λ r c high wide e. ap not (among_places picture.rows picture.columns r c (omega (arith, high, fits.rows)) (omega (arith, wide, fits.columns))))
    (then_rights laws profile picture _ old blanks begins (paints_places profile picture) begun each))

-- the bytes of scratch, by the law of the operations and that of their bytes
pub scratch_bytes_show : ScratchShows → Ecma48Laws → BytesActAsTheirOperations → ScratchBytesShow
scratch_bytes_show law bundled bytes_law profile e picture k fits old s = grind arith

one_or_none : {A : Type 0} → (b : Bool) (x : A) → length (if b then x ∷ [] else []) ≤ 1
one_or_none b x = grind arith

resets_few : (profile : ProfileView) → length (resets profile) ≤ 1
resets_few profile = one_or_none (is_there profile Sgr0) Reset

foreground_few : (colour : Option ℕ) → length (sets_foreground colour) ≤ 1
foreground_few colour = grind arith

background_few : (colour : Option ℕ) → length (sets_background colour) ≤ 1
background_few colour = grind arith

cursor_few : (wish : Option (ℕ × ℕ)) → length (places_cursor wish) ≤ 1
cursor_few wish = grind arith

entered_few : (set : ℕ) → length (map enter (attributes_of set)) ≤ 7
entered_few set = grind arith

renders_few : (pen : PenView) → length (renders pen) ≤ 9
renders_few pen = grind (arith, entered_few, foreground_few, background_few, length-append)

goes_few : (profile : ProfileView) (place : ℕ × ℕ) → length (goes profile place) ≤ 2
goes_few profile place = grind arith

place_few : (profile : ProfileView) (picture : PictureView) (place : ℕ × ℕ) → length (paints_place profile picture place) ≤ 12
place_few profile picture place =
    let look : LookView = look_at profile picture place in
    let put : List Op = put_of look.character ∷ [] in
    omega (arith, goes_few profile place, renders_few look.pen, length-append (goes profile place ++ renders look.pen) put, length-append (goes profile place) (renders look.pen))

-- so many for each
each_few : {A B : Type 0} → (f : A → List B) (k : ℕ) (xs : List A) → ((x : A) → length (f x) ≤ k) → length (flat_map f xs) ≤ length xs * k
each_few f k [] h = omega arith
each_few f k (x ∷ xs) h = grind (arith, each_few f k xs h, length-append)

row_length : (columns r : ℕ) → length (row_places columns r) ≡ columns
row_length columns r = length-map (range_with_len 0 columns) (λ c. (r, c)) ∙ length-range_with_len 0 columns

places_few : (rows columns : ℕ) → length (places rows columns) ≤ rows * columns
places_few rows columns =
    let all : length (places rows columns) ≤ length (range_with_len 0 rows) * columns = each_few (row_places columns) columns (range_with_len 0 rows) (λ r. omega (arith, row_length columns r)) in
    subst (λ n. length (places rows columns) ≤ n * columns) (length-range_with_len 0 rows) all

pub bounded : ScratchIsBounded
bounded profile picture =
    let all : List (ℕ × ℕ) = places picture.rows picture.columns in
    let painted : length (paints_places profile picture) ≤ length all * 12 = each_few (paints_place profile picture) 12 all (place_few profile picture) in
    let few : length all * 12 ≤ picture.rows * picture.columns * 12 = mul-le-mul_right 12 (places_few picture.rows picture.columns) in
    let start : List Op = resets profile ++ Clear ∷ [] in
    let middle : List Op = start ++ paints_places profile picture in
    let behind : List Op = middle ++ resets profile in
    omega (
      arith,
      painted,
      few,
      resets_few profile,
      cursor_few picture.wish,
      length-append (resets profile) (Clear ∷ []),
      length-append start (paints_places profile picture),
      length-append middle (resets profile),
      length-append behind (places_cursor picture.wish),
    )

pub scratch_had : ScratchShows → RunLaws → BlankLaws → (profile : ProfileView) → IsProfile profile → (picture : PictureView) → IsPicture picture → Fits profile picture
    → All (λ op. has profile op ≡ true) (scratch_of profile picture)
scratch_had scratch_law runs blanks profile is picture p fits =
    let blank : TerminalState = blank_state profile.rows profile.columns in
    let shows = scratch_law profile is picture p fits blank (blanks.state profile is) in
    runs.had profile blank shows.new (scratch_of profile picture) shows.run
