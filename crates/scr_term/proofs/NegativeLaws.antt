-- What a motion or an erasure does to the negative of a state is the negative of what it does to the state.
use Rattle.std.proofs.Common.{◌≡◌, ℕ, ◌+◌, ◌-◌, ◌==◌, Bool, true, false, cond, refl, sym, ◌∙◌, ap, List, [], Option, Some, None, option_map, map, nat_le, nat_lt, slice_index_or, ◌&&◌}
use Rattle.std.specs.List.{range_with_len}
use Rattle.std.proofs.Math.ListN.{get_or-map}
use Rattle.std.proofs.lemmas.Simd.{map-map}
use Rattle.scr_cells.specs.Grids.{grid_at, grid_filled, grid_of, grid_row, is_in_run}
use Rattle.scr_cells.specs.LookViews.{LookView, blank, negative, negative_grid}
use Rattle.scr_term.specs.declared.operations.operation.Spot.{Spot}
use Rattle.scr_term.specs.declared.operations.operation.Spot.TheVariants.{At, Margin}
use Rattle.scr_term.specs.Operations.States.{TerminalState, characters_erased, erased, from_place, is_from_place, moved_down, moved_left, moved_right, moved_to, moved_to_column, moved_to_row, moved_up, negative_state, rest_of_line_erased}
use Rattle.scr_term.specs.Operations.Steps.{lines_below_erased}

-- what is said of a state and of its negative
abbrev pub AreNegative : Option TerminalState → Option TerminalState → Type 0
AreNegative new old = new ≡ option_map negative_state old

pub where_true : (b : Bool) (new old : Option TerminalState) → AreNegative new old → AreNegative (cond b new None) (cond b old None)
where_true true new old h = h
where_true false new old h = refl

in_place : (spot : Spot) (f g : ℕ → ℕ → Option TerminalState) → ((r c : ℕ) → AreNegative (f r c) (g r c)) → AreNegative (from_place spot f) (from_place spot g)
in_place (At r c) f g h = h r c
in_place (Margin r) f g h = refl

pub to_negative : (rows columns : ℕ) (state : TerminalState) (r c : ℕ) → AreNegative (moved_to rows columns (negative_state state) r c) (moved_to rows columns state r c)
to_negative rows columns state r c = where_true (nat_lt r rows && nat_lt c columns) (Some (negative_state (record state { spot = At r c }))) (Some (record state { spot = At r c })) refl

pub up_negative : (rows columns : ℕ) (state : TerminalState) (n : ℕ) → AreNegative (moved_up rows columns (negative_state state) n) (moved_up rows columns state n)
up_negative rows columns state n = in_place state.spot _ _ (λ r c. where_true (nat_le n r) (moved_to rows columns (negative_state state) (r - n) c) (moved_to rows columns state (r - n) c) (to_negative rows columns state (r - n) c))

pub down_negative : (rows columns : ℕ) (state : TerminalState) (n : ℕ) → AreNegative (moved_down rows columns (negative_state state) n) (moved_down rows columns state n)
down_negative rows columns state n = in_place state.spot _ _ (λ r c. to_negative rows columns state (r + n) c)

pub right_negative : (rows columns : ℕ) (state : TerminalState) (n : ℕ) → AreNegative (moved_right rows columns (negative_state state) n) (moved_right rows columns state n)
right_negative rows columns state n = in_place state.spot _ _ (λ r c. to_negative rows columns state r (c + n))

pub left_negative : (rows columns : ℕ) (state : TerminalState) (n : ℕ) → AreNegative (moved_left rows columns (negative_state state) n) (moved_left rows columns state n)
left_negative rows columns state n = in_place state.spot _ _ (λ r c. where_true (nat_le n c) (moved_to rows columns (negative_state state) r (c - n)) (moved_to rows columns state r (c - n)) (to_negative rows columns state r (c - n)))

pub column_negative : (rows columns : ℕ) (state : TerminalState) (n : ℕ) → AreNegative (moved_to_column rows columns (negative_state state) n) (moved_to_column rows columns state n)
column_negative rows columns state n = in_place state.spot _ _ (λ r c. to_negative rows columns state r n)

pub row_negative : (rows columns : ℕ) (state : TerminalState) (n : ℕ) → AreNegative (moved_to_row rows columns (negative_state state) n) (moved_to_row rows columns state n)
row_negative rows columns state n = in_place state.spot _ _ (λ r c. to_negative rows columns state n c)

-- the negative of a grid, place by place
at_negative : (grid : List (List LookView)) (r c : ℕ) → grid_at blank (negative_grid grid) r c ≡ negative (grid_at blank grid r c)
at_negative grid r c =
    ap (λ (row : List LookView). slice_index_or row c blank) (get_or-map (map negative) grid r [])
    ∙ get_or-map negative (grid_row grid r) c blank

negative_of : (rows columns : ℕ) (f : ℕ → ℕ → LookView) → negative_grid (grid_of rows columns f) ≡ grid_of rows columns (λ r c. negative (f r c))
negative_of rows columns f =
    map-map (map negative) (λ r. map (f r) (range_with_len 0 columns)) (range_with_len 0 rows)
    ∙ ap (λ rows_of. map rows_of (range_with_len 0 rows)) (λ i r. map-map negative (f r) (range_with_len 0 columns) i)

blank_or : (b : Bool) (x y : LookView) → x ≡ negative y → cond b blank x ≡ negative (cond b blank y)
blank_or true x y h = refl
blank_or false x y h = h

erased_negative : (rows columns : ℕ) (inside : ℕ → ℕ → Bool) (state : TerminalState) → erased rows columns inside (negative_state state) ≡ negative_state (erased rows columns inside state)
erased_negative rows columns inside state =
    let places : (r c : ℕ) → cond (inside r c) blank (grid_at blank (negative_grid state.grid) r c) ≡ negative (cond (inside r c) blank (grid_at blank state.grid r c)) =
    λ r c. blank_or (inside r c) (grid_at blank (negative_grid state.grid) r c) (grid_at blank state.grid r c) (at_negative state.grid r c) in
    let grids : grid_filled rows columns inside (λ _ _. blank) (grid_at blank (negative_grid state.grid)) ≡ negative_grid (grid_filled rows columns inside (λ _ _. blank) (grid_at blank state.grid)) =
    ap (grid_of rows columns) (λ i r c. places r c i) ∙ sym (negative_of rows columns (λ r c. cond (inside r c) blank (grid_at blank state.grid r c))) in
    ap (λ g. record (negative_state state) { grid = g }) grids

pub line_negative : (rows columns : ℕ) (state : TerminalState) → AreNegative (rest_of_line_erased rows columns (negative_state state)) (rest_of_line_erased rows columns state)
line_negative rows columns state = in_place state.spot _ _ (λ r c. ap Some (erased_negative rows columns (is_in_run r c columns) state))

-- from the first column, erasing to the end of the screen erases the line and those below it
pub below_negative : (rows columns : ℕ) (state : TerminalState) → AreNegative (lines_below_erased rows columns (negative_state state)) (lines_below_erased rows columns state)
below_negative rows columns state = in_place state.spot _ _ (λ r c. where_true (c == 0) (Some (erased rows columns (is_from_place r c) (negative_state state))) (Some (erased rows columns (is_from_place r c) state)) (ap Some (erased_negative rows columns (is_from_place r c) state)))

pub characters_negative : (rows columns : ℕ) (state : TerminalState) (n : ℕ) → AreNegative (characters_erased rows columns (negative_state state) n) (characters_erased rows columns state n)
characters_negative rows columns state n = in_place state.spot _ _ (λ r c. where_true (nat_le (c + n) columns) (Some (erased rows columns (is_in_run r c (c + n)) (negative_state state))) (Some (erased rows columns (is_in_run r c (c + n)) state)) (ap Some (erased_negative rows columns (is_in_run r c (c + n)) state)))

-- where erasing lines below is defined, erasing to the end of the screen is the same
pub below_is : (rows columns : ℕ) (state : TerminalState) (new : TerminalState) → lines_below_erased rows columns state ≡ Some new
    → from_place state.spot (λ r c. Some (erased rows columns (is_from_place r c) state)) ≡ Some new
below_is rows columns state new = by state.spot (λ r c. Some (erased rows columns (is_from_place r c) state))
  where
    choose : (b : Bool) (x : Option TerminalState) → cond b x None ≡ Some new → x ≡ Some new
    choose true x h = h
    choose false x h = (cc)

    by : (spot : Spot) (f : ℕ → ℕ → Option TerminalState) → from_place spot (λ r c. cond (c == 0) (f r c) None) ≡ Some new → from_place spot f ≡ Some new
    by (At r c) f h = choose (c == 0) (f r c) h
    by (Margin r) f h = (cc)
