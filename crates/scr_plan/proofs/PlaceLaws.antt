-- One place is painted from every state of a profile.
use Rattle.std.proofs.Common.{◌≡◌, ℕ, ◌<◌, ◌==◌, ◌||◌, Bool, true, All, cond, refl, ◌∙◌, ap, arith, eqb, List, [], ◌∷◌, ◌++◌, Option, Some, None, IfSome, bit_and, bit_or, get_or, map, filter, zero, suc, option_and_then, if◌then◌else◌, nat_lt, false}
use Rattle.std.specs.List.{AllByRecursion}
use Rattle.std.specs.Int.{bit_at}
use Rattle.std.proofs.lemmas.Bool.{agree_below_at, eqb-true}
use Rattle.std.proofs.lemmas.Bool.Decides.{nat_tests}
use Rattle.std.proofs.lemmas.List.Elements.{recursion_from_All}
use Rattle.std.proofs.lemmas.Nat.{and_le_l}
use Rattle.std.proofs.lemmas.Nat.Bits.{same_from_bits, bit_at_and}
use Rattle.scr_cells.specs.Attributes.{all_attributes, attributes_of}
use Rattle.scr_cells.specs.CellViews.{CellView, IsCell, blank_cell}
use Rattle.scr_cells.specs.Characters.{IsCharacter, seen_character}
use Rattle.scr_cells.specs.Grids.{grid_at, is_in_run}
use Rattle.scr_cells.specs.LookViews.{LookView}
use Rattle.scr_cells.specs.PenViews.{is_plain_pen, pair_colours, plain_pen}
use Rattle.scr_cells.specs.PictureViews.{PictureView, IsPicture, IsPlace}
use Rattle.scr_term.specs.declared.operations.capability.Capability.TheVariants.{Sgr0}
use Rattle.scr_term.specs.declared.operations.operation.Op.{Op}
use Rattle.scr_term.specs.declared.operations.operation.Op.TheVariants.{EraseLine, Move, Put, Reset, Write}
use Rattle.scr_term.specs.declared.operations.operation.Spot.TheVariants.{At}
use Rattle.scr_term.specs.Operations.Laws.{HasLaws, ProfilesHave, RunLaws, WritesSeen}
use Rattle.scr_term.specs.Operations.Profiles.{ProfileView, IsProfile, abilities, has_colours, is_there, shown_set}
use Rattle.scr_term.specs.Operations.States.{TerminalState, IsShownPen, erased, from_place, rest_of_line_erased}
use Rattle.scr_term.specs.Operations.Steps.{act, runs, step}
use Rattle.scr_term.specs.Operations.Texts.{has, is_attribute, put_of}
use Rattle.scr_plan.specs.Scratch.{enter, look_at, renders, resets, sets_background, sets_foreground, PlaceIsPainted}

-- ---- runs

-- operations after others
pub then_runs : RunLaws → (profile : ProfileView) (old next new : TerminalState) (xs ys : List Op) → runs profile old xs ≡ Some next → runs profile next ys ≡ Some new
    → runs profile old (xs ++ ys) ≡ Some new
then_runs laws profile old next new xs ys first second = laws.joined profile old next xs ys first ∙ second

-- a step that leads to a state, and one that goes on from there
pub goes_on : {A : Type 0} (first : Option A) (f : A → Option A) (new : A) → option_and_then f first ≡ Some new → (next : A) × (first ≡ Some next) × (f next ≡ Some new)
goes_on None f new e = (cc)
goes_on (Some next) f new e = (next, refl, e)

-- the first operation of a run
pub first_step : (profile : ProfileView) (old new : TerminalState) (op : Op) (ops : List Op) → runs profile old (op ∷ ops) ≡ Some new → (next : TerminalState) × (step profile old op ≡ Some next) × (runs profile next ops ≡ Some new)
first_step profile old new op ops run = goes_on (step profile old op) (λ s. runs profile s ops) new run

-- one operation that the profile has
pub one_run : (profile : ProfileView) (old new : TerminalState) (op : Op) → has profile op ≡ true → act profile old op ≡ Some new → runs profile old (op ∷ []) ≡ Some new
one_run profile old new op had acts = grind arith

-- what erases with a plain pen: the rest of the line, and all lines from the cursor's on
pub erases_line : (profile : ProfileView) (state : TerminalState) (r c : ℕ) → state.spot ≡ At r c → is_plain_pen state.pen ≡ true → act profile state EraseLine ≡ Some (erased profile.rows profile.columns (is_in_run r c profile.columns) state)
erases_line profile state r c here plain =
    ap (λ b. if b then rest_of_line_erased profile.rows profile.columns state else None) plain ∙ ap (λ spot. from_place spot (λ r c. Some (erased profile.rows profile.columns (is_in_run r c profile.columns) state))) here

-- ---- the cursor goes to a place

-- the state with a plain pen, and with the cursor elsewhere
abbrev pub plain : TerminalState → TerminalState
plain state = record { grid = state.grid; spot = state.spot; pen = plain_pen }

abbrev pub at_place : TerminalState → ℕ × ℕ → TerminalState
at_place state place = record { grid = state.grid; spot = At place.0 place.1; pen = state.pen }

resets_by : (profile : ProfileView) → HasLaws profile → (old : TerminalState) → IsShownPen (abilities profile) old.pen → (b : Bool) → is_there profile Sgr0 ≡ b
    → runs profile old (if b then Reset ∷ [] else []) ≡ Some (plain old)
resets_by profile can old shown b there = grind arith

pub resets_run : (profile : ProfileView) → HasLaws profile → (old : TerminalState) → IsShownPen (abilities profile) old.pen → runs profile old (resets profile) ≡ Some (plain old)
resets_run profile can old shown = resets_by profile can old shown (is_there profile Sgr0) refl

pub move_run : (profile : ProfileView) → HasLaws profile → (old : TerminalState) (place : ℕ × ℕ) → IsPlace profile.rows profile.columns place
    → (profile.msgr || is_plain_pen old.pen) ≡ true → runs profile old (Move place.0 place.1 ∷ []) ≡ Some (at_place old place)
move_run profile can old place inside free = grind arith

pub goes_by : RunLaws → (profile : ProfileView) → HasLaws profile → (old : TerminalState) → IsShownPen (abilities profile) old.pen → (place : ℕ × ℕ) → IsPlace profile.rows profile.columns place
    → (b : Bool) → profile.msgr ≡ b
    → runs profile old (if b then Move place.0 place.1 ∷ resets profile else resets profile ++ Move place.0 place.1 ∷ []) ≡ Some (plain (at_place old place))
goes_by laws profile can old shown place inside b free = grind (arith, nat_tests)

-- ---- attributes and colours

-- a set and these attributes
abbrev with_each : ℕ → List ℕ → ℕ
with_each set [] = set
with_each set (a ∷ rest) = with_each (bit_or set a) rest

-- the attributes of a set make up the set
all_of_set : (set : ℕ) → set < 128 → with_each 0 (attributes_of set) ≡ set
all_of_set set small = eqb-true (with_each 0 (attributes_of set)) set (agree_below_at (λ s. eqb (with_each 0 (attributes_of s)) s) (λ _. true) 128 set refl small)

-- an attribute of what is shown of a set is shown
shown_member : (shown set a : ℕ) → bit_and (bit_and shown set) a ≡ a → bit_and shown a ≡ a
shown_member shown set a h = same_from_bits _ _ (λ i.
    let e : bit_at (bit_and (bit_and shown set) a) i ≡ bit_at a i = ap (λ n. bit_at n i) h in
    rw (bit_at_and shown a i) (omega (arith, bit_at_and (bit_and shown set) a i, bit_at_and shown set i)))

-- the attributes of a list that are seen of a set
abbrev seen_of : ℕ → ℕ → List ℕ → List ℕ
seen_of shown set attributes = filter (λ a. bit_and (bit_and shown set) a == a) attributes

-- these operations turn these attributes on, from any state
abbrev Enters : ProfileView → List ℕ → Type 0
Enters profile attributes =
    (old : TerminalState) → runs profile old (map enter attributes) ≡ Some (record { grid = old.grid; spot = old.spot; pen = record old.pen { attrs = with_each old.pen.attrs attributes } })

enters_more : RunLaws → (profile : ProfileView) → HasLaws profile → (set a : ℕ) (rest : List ℕ) → is_attribute a ≡ true → Enters profile rest
    → (b : Bool) → (bit_and (bit_and (shown_set profile) set) a == a) ≡ b → Enters profile (cond b (a ∷ rest) rest)
enters_more laws profile can set a rest one h b e = grind (arith, then_runs, one_run, shown_member, eqb-true)

enters : RunLaws → (profile : ProfileView) → HasLaws profile → (set : ℕ) (attributes : List ℕ) → AllByRecursion (λ a. is_attribute a ≡ true) attributes
    → Enters profile (seen_of (shown_set profile) set attributes)
enters laws profile can set [] each = λ old. refl
enters laws profile can set (a ∷ rest) each = grind (arith, enters laws profile can set rest each.1, enters_more)

-- a colour that the terminal shows
abbrev IsSeen : ProfileView → ℕ → Type 0
IsSeen profile n = (n < 8) × (has_colours profile ≡ true)

-- a state at a place, with this pen
abbrev with_pen : TerminalState → ℕ × ℕ → ℕ → Option ℕ → Option ℕ → TerminalState
with_pen state place attrs foreground background =
    record { grid = state.grid; spot = At place.0 place.1; pen = record { attrs = attrs; foreground = foreground; background = background } }

foreground_set : (profile : ProfileView) → HasLaws profile → (old : TerminalState) (place : ℕ × ℕ) (attrs : ℕ) (f : Option ℕ) → IfSome f (IsSeen profile)
    → runs profile (with_pen old place attrs None None) (sets_foreground f) ≡ Some (with_pen old place attrs f None)
foreground_set profile can old place attrs f seen = grind arith

background_set : (profile : ProfileView) → HasLaws profile → (old : TerminalState) (place : ℕ × ℕ) (attrs : ℕ) (f b : Option ℕ) → IfSome b (IsSeen profile)
    → runs profile (with_pen old place attrs f None) (sets_background b) ≡ Some (with_pen old place attrs f b)
background_set profile can old place attrs f b seen = grind arith

-- what holds of both operations that write a character holds of what writes one
pub put_by : (P : Op → Type 0) (code : ℕ) → P (Put code) → P (Write code) → P (put_of code)
unfolding put_of
put_by P code put write = by (nat_lt code 128)
  where
    by : (t : Bool) → P (cond t (Put code) (Write code))
    by true = put
    by false = write

pub put_other : (code : ℕ) → nat_lt code 128 ≡ false → put_of code ≡ Write code
unfolding put_of
put_other code many = ap (λ t. cond t (Put code) (Write code)) many

-- what is seen of a character can be written
pub seen_had : (profile : ProfileView) → HasLaws profile → (code : ℕ) → IsCharacter code → has profile (put_of (seen_character profile.charset code)) ≡ true
unfolding WritesSeen
seen_had profile can code is = can.seen code is

-- ---- what is seen of a cell

pub blank_is_cell : IsCell blank_cell
blank_is_cell = record { character = refl; attributes = omega arith; pair = omega arith }

pub cell_of_row : (cells : List CellView) (c : ℕ) → AllByRecursion IsCell cells → IsCell (get_or cells c blank_cell)
cell_of_row [] c each = blank_is_cell
cell_of_row (cell ∷ cells) zero each = each.0
cell_of_row (cell ∷ cells) (suc c) each = cell_of_row cells c each.1

-- in every place of a picture there is a cell, and a blank outside
pub cell_of : (lines : List (List CellView)) (r c : ℕ) → AllByRecursion (All IsCell) lines → IsCell (grid_at blank_cell lines r c)
cell_of [] r c each = blank_is_cell
cell_of (line ∷ lines) zero c each = cell_of_row line c (recursion_from_All IsCell line each.0)
cell_of (line ∷ lines) (suc r) c each = cell_of lines r c each.1

colours_seen : (profile : ProfileView) (picture : PictureView) → IsPicture picture → (pair : ℕ) → pair < 64 → (b : Bool) → has_colours profile ≡ b
    → IfSome (if b then (pair_colours picture.pairs pair).0 else None) (IsSeen profile) × IfSome (if b then (pair_colours picture.pairs pair).1 else None) (IsSeen profile)
colours_seen profile picture k pair small b shown = grind arith

-- ---- a place

-- the state at a place, with the pen of what is seen there
abbrev pub begun : TerminalState → PictureView → ProfileView → ℕ × ℕ → TerminalState
begun state picture profile place = record { grid = state.grid; spot = At place.0 place.1; pen = (look_at profile picture place).pen }

-- its attributes and colours are set there
pub begun_run : RunLaws → ProfilesHave → (profile : ProfileView) → IsProfile profile → (picture : PictureView) → IsPicture picture → (place : ℕ × ℕ) → (old : TerminalState)
    → runs profile (plain (at_place old place)) (renders (look_at profile picture place).pen) ≡ Some (begun old picture profile place)
begun_run laws have profile p picture k place old =
    let can = have profile p in
    let cell : CellView = grid_at blank_cell picture.lines place.0 place.1 in
    let is : IsCell cell = cell_of picture.lines place.0 place.1 (recursion_from_All (All IsCell) picture.lines k.cells) in
    let look : LookView = look_at profile picture place in
    let attrs : ℕ = look.pen.attrs in
    let small : attrs < 128 = omega (arith, can.can_show.shown, and_le_l (shown_set profile) cell.attrs, and_le_l 127 (shown_set profile)) in
    let seen = colours_seen profile picture k cell.pair is.pair (has_colours profile) refl in
    let there : TerminalState = with_pen old place 0 None None in
    let lit : TerminalState = with_pen old place attrs None None in
    let fore : TerminalState = with_pen old place attrs look.pen.foreground None in
    let coloured : TerminalState = with_pen old place attrs look.pen.foreground look.pen.background in
    let entered : runs profile there (map enter (attributes_of attrs)) ≡ Some lit =
    enters laws profile can cell.attrs all_attributes (refl, (refl, (refl, (refl, (refl, (refl, (refl, tt))))))) there
    ∙ ap (λ set. Some (with_pen old place set None None)) (all_of_set attrs small) in
    then_runs laws profile there fore coloured (map enter (attributes_of attrs) ++ sets_foreground look.pen.foreground) (sets_background look.pen.background)
    (then_runs laws profile there lit fore (map enter (attributes_of attrs)) (sets_foreground look.pen.foreground) entered
    (foreground_set profile can old place attrs look.pen.foreground seen.0))
    (background_set profile can old place attrs look.pen.foreground look.pen.background seen.1)

pub place_is_painted : RunLaws → ProfilesHave → PlaceIsPainted
place_is_painted laws have profile p picture k place inside old s =
    let cell : IsCell (grid_at blank_cell picture.lines place.0 place.1) = cell_of picture.lines place.0 place.1 (recursion_from_All (All IsCell) picture.lines k.cells) in
    let had : has profile (put_of (look_at profile picture place).character) ≡ true = seen_had profile (have profile p) _ cell.character in
    grind (arith, then_runs, goes_by, begun_run, one_run, (have profile p).put_acts)
