-- What an operation makes of the spot, of the pen and of the grid, where it is defined.
use Rattle.std.proofs.Common.{◌≡◌, ℕ, ◌+◌, ◌-◌, ◌<◌, ◌==◌, ◌&&◌, ◌||◌, leb, ltb, nat_le, nat_lt, Bool, true, false, refl, sym, ◌∙◌, ap, subst, arith, List, [], get_or, length, replicate, slice_set, Option, Some, None, map, if◌then◌else◌}
use Rattle.std.specs.List.{range_with_len}
use Rattle.std.proofs.lemmas.Bool.Decides.{nat_tests}
use Rattle.std.proofs.lemmas.List.{get_or-set_other}
use Rattle.std.proofs.lemmas.List.FromFn.{get_or-map-range_with_len}
use Rattle.std.proofs.lemmas.Grind.{get_or-set_at}
use Rattle.scr_cells.specs.Grids.{IsGrid, grid_at, grid_filled, grid_of, grid_row, grid_with, grid_with_run, is_in_run, line_with_run, places_left, places_right, rows_down, rows_up}
use Rattle.scr_cells.specs.LookViews.{LookView, blank, blank_grid}
use Rattle.scr_cells.specs.PenViews.{PenView, is_plain_pen, plain_pen, with_attribute}
use Rattle.scr_term.specs.declared.operations.operation.Op.{Op}
use Rattle.scr_term.specs.declared.operations.operation.Op.TheVariants.{Home, Move, Column, Line, Up, Down, Left, Right, UpBy, DownBy, LeftBy, RightBy, Return, Clear, EraseLine, EraseBelow, EraseChars, InsertLines, DeleteLines, InsertChars, DeleteChars, ScrollUp, ScrollDown, Reset, ExitAttributes, Enter, Set, Fore, Back, Put, Write, Repeat}
use Rattle.scr_term.specs.declared.operations.operation.Spot.{Spot}
use Rattle.scr_term.specs.declared.operations.operation.Spot.TheVariants.{At, Margin}
use Rattle.scr_term.specs.Operations.Profiles.{ProfileView}
use Rattle.scr_term.specs.Operations.States.{TerminalState, is_from_place, spot_after}
use Rattle.scr_term.specs.Operations.Steps.{act}
use Rattle.scr_memory.specs.Memories.{moves_rows}

-- ---- the parts of a state

abbrev pub whole : List (List LookView) → Spot → PenView → TerminalState
whole grid spot pen = record { grid = grid; spot = spot; pen = pen }

-- where the cursor is then
abbrev pub spot_by : ℕ → Op → Spot → Spot
spot_by columns Home spot = At 0 0
spot_by columns (Move r c) spot = At r c
spot_by columns Clear spot = At 0 0
spot_by columns (Column column) (At r c) = At r column
spot_by columns (Line row) (At r c) = At row c
spot_by columns (Up n) (At r c) = At (r - n) c
spot_by columns (Down n) (At r c) = At (r + n) c
spot_by columns (Left n) (At r c) = At r (c - n)
spot_by columns (Right n) (At r c) = At r (c + n)
spot_by columns (UpBy n) (At r c) = At (r - n) c
spot_by columns (DownBy n) (At r c) = At (r + n) c
spot_by columns (LeftBy n) (At r c) = At r (c - n)
spot_by columns (RightBy n) (At r c) = At r (c + n)
spot_by columns Return (At r c) = At r 0
spot_by columns (Put byte) (At r c) = spot_after columns r c
spot_by columns (Write code) (At r c) = spot_after columns r c
spot_by columns (Repeat byte n) (At r c) = At r (c + n)
spot_by columns op spot = spot

-- what is written with then
abbrev pub pen_by : Op → PenView → PenView
pen_by Reset pen = plain_pen
pen_by ExitAttributes pen = plain_pen
pen_by (Set attrs) pen = record plain_pen { attrs = attrs.0 }
pen_by (Enter attribute) pen = with_attribute pen attribute.0
pen_by (Fore colour) pen = record pen { foreground = Some colour }
pen_by (Back colour) pen = record pen { background = Some colour }
pen_by op pen = pen

-- some places are blank then
abbrev pub erased_grid : ProfileView → (ℕ → ℕ → Bool) → List (List LookView) → List (List LookView)
erased_grid profile inside grid = grid_filled profile.rows profile.columns inside (λ _ _. blank) (grid_at blank grid)

-- what is shown then
abbrev pub grid_by : ProfileView → Op → Spot → PenView → List (List LookView) → List (List LookView)
grid_by profile Clear spot pen grid = blank_grid profile.rows profile.columns
grid_by profile EraseLine (At r c) pen grid = erased_grid profile (is_in_run r c profile.columns) grid
grid_by profile EraseBelow (At r c) pen grid = erased_grid profile (is_from_place r c) grid
grid_by profile (EraseChars n) (At r c) pen grid = erased_grid profile (is_in_run r c (c + n)) grid
grid_by profile (InsertLines n) (At r c) pen grid = grid_of profile.rows profile.columns (rows_down r profile.rows n blank (grid_at blank grid))
grid_by profile (DeleteLines n) (At r c) pen grid = grid_of profile.rows profile.columns (rows_up r profile.rows n blank (grid_at blank grid))
grid_by profile (InsertChars n) (At r c) pen grid = grid_of profile.rows profile.columns (places_right r c profile.columns n blank (grid_at blank grid))
grid_by profile (DeleteChars n) (At r c) pen grid = grid_of profile.rows profile.columns (places_left r c profile.columns n blank (grid_at blank grid))
grid_by profile (ScrollUp n) (At r c) pen grid = grid_of profile.rows profile.columns (rows_up 0 profile.rows n blank (grid_at blank grid))
grid_by profile (ScrollDown n) (At r c) pen grid = grid_of profile.rows profile.columns (rows_down 0 profile.rows n blank (grid_at blank grid))
grid_by profile (Repeat byte n) (At r c) pen grid = grid_with_run grid r c (replicate n (record { character = byte; pen = pen }))
grid_by profile (Put byte) (At r c) pen grid = grid_with grid r c (record { character = byte; pen = pen })
grid_by profile (Write code) (At r c) pen grid = grid_with grid r c (record { character = code; pen = pen })
grid_by profile op spot pen grid = grid

-- ---- an operation acts on each of them

pub record Acts (profile : ProfileView) (op : Op) (grid : List (List LookView)) (spot : Spot) (pen : PenView) (new : TerminalState) : Type 0 where
  pub spot_is : new.spot ≡ spot_by profile.columns op spot
  pub pen_is : new.pen ≡ pen_by op pen
  pub grid_is : new.grid ≡ grid_by profile op spot pen grid

when : {A : Type 0} (b : Bool) (o : Option A) (x : A) → (if b then o else None) ≡ Some x → o ≡ Some x
when true o x e = e
when false o x e = (cc)

when_all : {A : Type 0} (a b c : Bool) (y x : A) → (if a then (if b then (if c then Some y else None) else None) else None) ≡ Some x → Some y ≡ Some x
when_all true true true y x e = e
when_all true true false y x e = (cc)
when_all true false c y x e = (cc)
when_all false b c y x e = (cc)

nothing : {A R : Type 0} (b : Bool) (x : A) → (if b then None else None) ≡ Some x → R
nothing true x e = (cc)
nothing false x e = (cc)

some_same : {A : Type 0} (a b : A) → Some a ≡ Some b → a ≡ b
some_same a b e = (cc)

led : (profile : ProfileView) (op : Op) (grid : List (List LookView)) (spot : Spot) (pen : PenView) (new next : TerminalState)
    → next.spot ≡ spot_by profile.columns op spot → next.pen ≡ pen_by op pen → next.grid ≡ grid_by profile op spot pen grid → Some next ≡ Some new → Acts profile op grid spot pen new
led profile op grid spot pen new next s p g e =
    subst (λ t. Acts profile op grid spot pen t) (some_same next new e) (record { spot_is = s; pen_is = p; grid_is = g })

pub acts : (profile : ProfileView) (op : Op) (grid : List (List LookView)) (spot : Spot) (pen : PenView) (new : TerminalState)
    → act profile (whole grid spot pen) op ≡ Some new → Acts profile op grid spot pen new
acts profile Home grid spot pen new e = led profile Home grid spot pen new (whole grid (At 0 0) pen) refl refl refl (when _ _ new (when _ _ new e))
acts profile (Move r c) grid spot pen new e = led profile (Move r c) grid spot pen new (whole grid (At r c) pen) refl refl refl (when _ _ new (when _ _ new e))
acts profile (Column k) grid (At r c) pen new e = led profile (Column k) grid (At r c) pen new (whole grid (At r k) pen) refl refl refl (when _ _ new (when _ _ new e))
acts profile (Column k) grid (Margin r) pen new e = nothing _ new e
acts profile (Line k) grid (At r c) pen new e = led profile (Line k) grid (At r c) pen new (whole grid (At k c) pen) refl refl refl (when _ _ new (when _ _ new e))
acts profile (Line k) grid (Margin r) pen new e = nothing _ new e
acts profile (Up n) grid (At r c) pen new e =
    led profile (Up n) grid (At r c) pen new (whole grid (At (r - n) c) pen) refl refl refl
    (when_all (profile.msgr || is_plain_pen pen) (nat_le n r) (nat_lt (r - n) profile.rows && nat_lt c profile.columns) (whole grid (At (r - n) c) pen) new e)
acts profile (Up n) grid (Margin r) pen new e = nothing _ new e
acts profile (Down n) grid (At r c) pen new e = led profile (Down n) grid (At r c) pen new (whole grid (At (r + n) c) pen) refl refl refl (when _ _ new (when _ _ new e))
acts profile (Down n) grid (Margin r) pen new e = nothing _ new e
acts profile (Left n) grid (At r c) pen new e =
    led profile (Left n) grid (At r c) pen new (whole grid (At r (c - n)) pen) refl refl refl
    (when_all (profile.msgr || is_plain_pen pen) (nat_le n c) (nat_lt r profile.rows && nat_lt (c - n) profile.columns) (whole grid (At r (c - n)) pen) new e)
acts profile (Left n) grid (Margin r) pen new e = nothing _ new e
acts profile (Right n) grid (At r c) pen new e = led profile (Right n) grid (At r c) pen new (whole grid (At r (c + n)) pen) refl refl refl (when _ _ new (when _ _ new e))
acts profile (Right n) grid (Margin r) pen new e = nothing _ new e
acts profile (UpBy n) grid (At r c) pen new e =
    led profile (UpBy n) grid (At r c) pen new (whole grid (At (r - n) c) pen) refl refl refl
    (when_all (profile.msgr || is_plain_pen pen) (nat_le n r) (nat_lt (r - n) profile.rows && nat_lt c profile.columns) (whole grid (At (r - n) c) pen) new e)
acts profile (UpBy n) grid (Margin r) pen new e = nothing _ new e
acts profile (DownBy n) grid (At r c) pen new e = led profile (DownBy n) grid (At r c) pen new (whole grid (At (r + n) c) pen) refl refl refl (when _ _ new (when _ _ new e))
acts profile (DownBy n) grid (Margin r) pen new e = nothing _ new e
acts profile (LeftBy n) grid (At r c) pen new e =
    led profile (LeftBy n) grid (At r c) pen new (whole grid (At r (c - n)) pen) refl refl refl
    (when_all (profile.msgr || is_plain_pen pen) (nat_le n c) (nat_lt r profile.rows && nat_lt (c - n) profile.columns) (whole grid (At r (c - n)) pen) new e)
acts profile (LeftBy n) grid (Margin r) pen new e = nothing _ new e
acts profile (RightBy n) grid (At r c) pen new e = led profile (RightBy n) grid (At r c) pen new (whole grid (At r (c + n)) pen) refl refl refl (when _ _ new (when _ _ new e))
acts profile (RightBy n) grid (Margin r) pen new e = nothing _ new e
acts profile Return grid (At r c) pen new e = led profile Return grid (At r c) pen new (whole grid (At r 0) pen) refl refl refl (when _ _ new (when _ _ new e))
acts profile Return grid (Margin r) pen new e = nothing _ new e
acts profile Clear grid spot pen new e = led profile Clear grid spot pen new (whole (blank_grid profile.rows profile.columns) (At 0 0) pen) refl refl refl (when _ _ new e)
acts profile EraseLine grid (At r c) pen new e =
    led profile EraseLine grid (At r c) pen new (whole (erased_grid profile (is_in_run r c profile.columns) grid) (At r c) pen) refl refl refl (when _ _ new e)
acts profile EraseLine grid (Margin r) pen new e = nothing _ new e
acts profile EraseBelow grid (At r c) pen new e =
    led profile EraseBelow grid (At r c) pen new (whole (erased_grid profile (is_from_place r c) grid) (At r c) pen) refl refl refl (when _ _ new (when _ _ new e))
acts profile EraseBelow grid (Margin r) pen new e = nothing _ new e
acts profile (EraseChars k) grid (At r c) pen new e =
    led profile (EraseChars k) grid (At r c) pen new (whole (erased_grid profile (is_in_run r c (c + k)) grid) (At r c) pen) refl refl refl (when _ _ new (when _ _ new e))
acts profile (EraseChars k) grid (Margin r) pen new e = nothing _ new e
acts profile (InsertLines k) grid (At r c) pen new e =
    led profile (InsertLines k) grid (At r c) pen new (whole (grid_of profile.rows profile.columns (rows_down r profile.rows k blank (grid_at blank grid))) (At r c) pen) refl refl refl (when _ _ new (when _ _ new e))
acts profile (InsertLines k) grid (Margin r) pen new e = nothing _ new e
acts profile (DeleteLines k) grid (At r c) pen new e =
    led profile (DeleteLines k) grid (At r c) pen new (whole (grid_of profile.rows profile.columns (rows_up r profile.rows k blank (grid_at blank grid))) (At r c) pen) refl refl refl (when _ _ new (when _ _ new e))
acts profile (DeleteLines k) grid (Margin r) pen new e = nothing _ new e
acts profile (InsertChars k) grid (At r c) pen new e =
    led profile (InsertChars k) grid (At r c) pen new (whole (grid_of profile.rows profile.columns (places_right r c profile.columns k blank (grid_at blank grid))) (At r c) pen) refl refl refl (when _ _ new (when _ _ new e))
acts profile (InsertChars k) grid (Margin r) pen new e = nothing _ new e
acts profile (DeleteChars k) grid (At r c) pen new e =
    led profile (DeleteChars k) grid (At r c) pen new (whole (grid_of profile.rows profile.columns (places_left r c profile.columns k blank (grid_at blank grid))) (At r c) pen) refl refl refl (when _ _ new (when _ _ new e))
acts profile (DeleteChars k) grid (Margin r) pen new e = nothing _ new e
acts profile (ScrollUp k) grid (At r c) pen new e =
    led profile (ScrollUp k) grid (At r c) pen new (whole (grid_of profile.rows profile.columns (rows_up 0 profile.rows k blank (grid_at blank grid))) (At r c) pen) refl refl refl (when _ _ new (when _ _ new e))
acts profile (ScrollUp k) grid (Margin r) pen new e = nothing _ new e
acts profile (ScrollDown k) grid (At r c) pen new e =
    led profile (ScrollDown k) grid (At r c) pen new (whole (grid_of profile.rows profile.columns (rows_down 0 profile.rows k blank (grid_at blank grid))) (At r c) pen) refl refl refl (when _ _ new (when _ _ new e))
acts profile (ScrollDown k) grid (Margin r) pen new e = nothing _ new e
acts profile Reset grid spot pen new e = led profile Reset grid spot pen new (whole grid spot plain_pen) refl refl refl e
acts profile ExitAttributes grid spot pen new e = led profile ExitAttributes grid spot pen new (whole grid spot plain_pen) refl refl refl (when _ _ new e)
acts profile (Enter a) grid spot pen new e = led profile (Enter a) grid spot pen new (whole grid spot (with_attribute pen a.0)) refl refl refl e
acts profile (Set a) grid spot pen new e = led profile (Set a) grid spot pen new (whole grid spot (record plain_pen { attrs = a.0 })) refl refl refl e
acts profile (Fore k) grid (At r c) pen new e = led profile (Fore k) grid (At r c) pen new (whole grid (At r c) (record pen { foreground = Some k })) refl refl refl e
acts profile (Fore k) grid (Margin r) pen new e = (cc)
acts profile (Back k) grid (At r c) pen new e = led profile (Back k) grid (At r c) pen new (whole grid (At r c) (record pen { background = Some k })) refl refl refl e
acts profile (Back k) grid (Margin r) pen new e = (cc)
acts profile (Put byte) grid (At r c) pen new e =
    led profile (Put byte) grid (At r c) pen new (whole (grid_with grid r c (record { character = byte; pen = pen })) (spot_after profile.columns r c) pen) refl refl refl e
acts profile (Write code) grid (At r c) pen new e =
    led profile (Write code) grid (At r c) pen new (whole (grid_with grid r c (record { character = code; pen = pen })) (spot_after profile.columns r c) pen) refl refl refl e
acts profile (Put byte) grid (Margin r) pen new e = (cc)
acts profile (Write code) grid (Margin r) pen new e = (cc)
acts profile (Repeat byte n) grid (At r c) pen new e =
    led profile (Repeat byte n) grid (At r c) pen new (whole (grid_with_run grid r c (replicate n (record { character = byte; pen = pen }))) (At r (c + n)) pen) refl refl refl (when _ _ new e)
acts profile (Repeat byte n) grid (Margin r) pen new e = (cc)

-- ---- rows that were the same are the same then

erased_same : (profile : ProfileView) (inside : ℕ → ℕ → Bool) (a b : List (List LookView)) (r : ℕ) → r < profile.rows → grid_row a r ≡ grid_row b r
    → grid_row (erased_grid profile inside a) r ≡ grid_row (erased_grid profile inside b) r
erased_same profile inside a b r high same =
    let at : 0 + r ≡ r = omega arith in
    get_or-map-range_with_len (λ r. map (λ c. if inside r c then blank else grid_at blank a r c) (range_with_len 0 profile.columns)) 0 profile.rows r r [] high at
    ∙ ap (λ line. map (λ c. if inside r c then blank else get_or line c blank) (range_with_len 0 profile.columns)) same
    ∙ sym (get_or-map-range_with_len (λ r. map (λ c. if inside r c then blank else grid_at blank b r c) (range_with_len 0 profile.columns)) 0 profile.rows r r [] high at)

-- places of a row that move within it
right_same : (profile : ProfileView) (row column n : ℕ) (a b : List (List LookView)) (r : ℕ) → r < profile.rows → grid_row a r ≡ grid_row b r
    → grid_row (grid_of profile.rows profile.columns (places_right row column profile.columns n blank (grid_at blank a))) r ≡ grid_row (grid_of profile.rows profile.columns (places_right row column profile.columns n blank (grid_at blank b))) r
right_same profile row column n a b r high same =
    let at : 0 + r ≡ r = omega arith in
    get_or-map-range_with_len (λ r. map (places_right row column profile.columns n blank (grid_at blank a) r) (range_with_len 0 profile.columns)) 0 profile.rows r r [] high at
    ∙ ap (λ line. map (λ c. if is_in_run row column profile.columns r c then (if leb (column + n) c then get_or line (c - n) blank else blank) else get_or line c blank) (range_with_len 0 profile.columns)) same
    ∙ sym (get_or-map-range_with_len (λ r. map (places_right row column profile.columns n blank (grid_at blank b) r) (range_with_len 0 profile.columns)) 0 profile.rows r r [] high at)

left_same : (profile : ProfileView) (row column n : ℕ) (a b : List (List LookView)) (r : ℕ) → r < profile.rows → grid_row a r ≡ grid_row b r
    → grid_row (grid_of profile.rows profile.columns (places_left row column profile.columns n blank (grid_at blank a))) r ≡ grid_row (grid_of profile.rows profile.columns (places_left row column profile.columns n blank (grid_at blank b))) r
left_same profile row column n a b r high same =
    let at : 0 + r ≡ r = omega arith in
    get_or-map-range_with_len (λ r. map (places_left row column profile.columns n blank (grid_at blank a) r) (range_with_len 0 profile.columns)) 0 profile.rows r r [] high at
    ∙ ap (λ line. map (λ c. if is_in_run row column profile.columns r c then (if ltb (c + n) profile.columns then get_or line (c + n) blank else blank) else get_or line c blank) (range_with_len 0 profile.columns)) same
    ∙ sym (get_or-map-range_with_len (λ r. map (places_left row column profile.columns n blank (grid_at blank b) r) (range_with_len 0 profile.columns)) 0 profile.rows r r [] high at)

true_is_not_false : true ≡ false → ⊥
true_is_not_false e = (cc)

-- one row that is changed
changed_same : (f : List LookView → List LookView) (a b : List (List LookView)) (row r : ℕ) → r < length a → r < length b → grid_row a r ≡ grid_row b r → (here : Bool) → (r == row) ≡ here
    → grid_row (slice_set a row (f (grid_row a row))) r ≡ grid_row (slice_set b row (f (grid_row b row))) r
changed_same f a b row r first second same true e =
    let at : r ≡ row = grind (arith, nat_tests) in
    let rows : grid_row a row ≡ grid_row b row = ap (grid_row a) (sym at) ∙ same ∙ ap (grid_row b) at in
    get_or-set_at a row r _ [] at (omega (arith, first, at))
    ∙ ap f rows
    ∙ sym (get_or-set_at b row r _ [] at (omega (arith, second, at)))
changed_same f a b row r first second same false e =
    get_or-set_other a row r _ [] other ∙ same ∙ sym (get_or-set_other b row r _ [] other)
  where
    other : r ≡ row → ⊥
    other at =
        let self : (r == r) ≡ true = grind (arith, nat_tests) in
        let both : (r == row) ≡ true = ap (λ k. r == k) (sym at) ∙ self in
        true_is_not_false (sym both ∙ e)

pub rows_same : (profile : ProfileView) (op : Op) (spot : Spot) (pen : PenView) (a b : List (List LookView)) → IsGrid profile.rows profile.columns a → IsGrid profile.rows profile.columns b
    → (r : ℕ) → r < profile.rows → moves_rows op ≡ false → grid_row a r ≡ grid_row b r → grid_row (grid_by profile op spot pen a) r ≡ grid_row (grid_by profile op spot pen b) r
rows_same profile Clear spot pen a b first second r high still same = refl
rows_same profile EraseLine (At row column) pen a b first second r high still same = erased_same profile (is_in_run row column profile.columns) a b r high same
rows_same profile EraseLine (Margin row) pen a b first second r high still same = same
rows_same profile EraseBelow (At row column) pen a b first second r high still same = erased_same profile (is_from_place row column) a b r high same
rows_same profile EraseBelow (Margin row) pen a b first second r high still same = same
rows_same profile (EraseChars n) (At row column) pen a b first second r high still same = erased_same profile (is_in_run row column (column + n)) a b r high same
rows_same profile (EraseChars n) (Margin row) pen a b first second r high still same = same
rows_same profile (InsertLines n) spot pen a b first second r high still same = absurd (true_is_not_false still)
rows_same profile (DeleteLines n) spot pen a b first second r high still same = absurd (true_is_not_false still)
rows_same profile (ScrollUp n) spot pen a b first second r high still same = absurd (true_is_not_false still)
rows_same profile (ScrollDown n) spot pen a b first second r high still same = absurd (true_is_not_false still)
rows_same profile (InsertChars n) (At row column) pen a b first second r high still same = right_same profile row column n a b r high same
rows_same profile (InsertChars n) (Margin row) pen a b first second r high still same = same
rows_same profile (DeleteChars n) (At row column) pen a b first second r high still same = left_same profile row column n a b r high same
rows_same profile (DeleteChars n) (Margin row) pen a b first second r high still same = same
rows_same profile (Put byte) (At row column) pen a b first second r high still same =
    changed_same (λ line. slice_set line column (record { character = byte; pen = pen })) a b row r (omega (arith, high, first.high)) (omega (arith, high, second.high)) same (r == row) refl
rows_same profile (Write code) (At row column) pen a b first second r high still same =
    changed_same (λ line. slice_set line column (record { character = code; pen = pen })) a b row r (omega (arith, high, first.high)) (omega (arith, high, second.high)) same (r == row) refl
rows_same profile (Put byte) (Margin row) pen a b first second r high still same = same
rows_same profile (Write code) (Margin row) pen a b first second r high still same = same
rows_same profile (Repeat byte n) (At row column) pen a b first second r high still same =
    changed_same (λ line. line_with_run line column (replicate n (record { character = byte; pen = pen }))) a b row r (omega (arith, high, first.high)) (omega (arith, high, second.high)) same (r == row) refl
rows_same profile (Repeat byte n) (Margin row) pen a b first second r high still same = same
rows_same profile Home spot pen a b first second r high still same = same
rows_same profile (Move row column) spot pen a b first second r high still same = same
rows_same profile (Column column) spot pen a b first second r high still same = same
rows_same profile (Line row) spot pen a b first second r high still same = same
rows_same profile (Up n) spot pen a b first second r high still same = same
rows_same profile (Down n) spot pen a b first second r high still same = same
rows_same profile (Left n) spot pen a b first second r high still same = same
rows_same profile (Right n) spot pen a b first second r high still same = same
rows_same profile (UpBy n) spot pen a b first second r high still same = same
rows_same profile (DownBy n) spot pen a b first second r high still same = same
rows_same profile (LeftBy n) spot pen a b first second r high still same = same
rows_same profile (RightBy n) spot pen a b first second r high still same = same
rows_same profile Return spot pen a b first second r high still same = same
rows_same profile Reset spot pen a b first second r high still same = same
rows_same profile ExitAttributes spot pen a b first second r high still same = same
rows_same profile (Enter attribute) spot pen a b first second r high still same = same
rows_same profile (Set attrs) spot pen a b first second r high still same = same
rows_same profile (Fore colour) spot pen a b first second r high still same = same
rows_same profile (Back colour) spot pen a b first second r high still same = same
