-- Characters that are written into a row in one go: what is left is a terminal, and it is what steps one after another lead to.
use Rattle.std.proofs.Common.{◌≡◌, ◌∙◌, ℕ, zero, suc, replicate, ◌+◌, ◌-◌, ◌<◌, ◌≤◌, ◌⊎◌, inl, inr, ◌&&◌, ◌||◌, Bool, true, false, All, List, [], ◌∷◌, ◌++◌, length, set, take, drop, Option, Some, None, cond, is_some, nat_le, option_and_then, sym, subst, ap, refl, arith, nat_lt}
use Rattle.std.specs.List.{list_all}
use Rattle.std.proofs.lemmas.Bool.Decides.{nat_tests}
use Rattle.std.proofs.lemmas.List.{append-nil, append_assoc, drop-set-lt, get_or-set_same, length-replicate, length-take, set-get_or, set-set, take-append-drop, take-take, take_more_set}
use Rattle.std.proofs.lemmas.List.Elements.{All-append, All-cons, All-drop, All-get_or, All-nil, All-set, All-take}
use Rattle.scr_cells.specs.Characters.{IsAscii, IsCharacter, is_ascii, is_beyond_ascii, is_utf8}
use Rattle.scr_cells.specs.Grids.{GridView, GridLaws, IsGrid, grid_row, grid_with, grid_with_run, line_with_run}
use Rattle.scr_cells.specs.LookViews.{LookView, IsLook, blank}
use Rattle.scr_cells.specs.MadeRuns.{before, made_while}
use Rattle.scr_cells.specs.PenViews.{PenView, IsPen}
use Rattle.scr_term.specs.declared.operations.operation.Op.{Op}
use Rattle.scr_term.specs.declared.operations.operation.Op.TheVariants.{Put, Write, Repeat}
use Rattle.scr_term.specs.declared.operations.operation.Spot.{Spot}
use Rattle.scr_term.specs.declared.operations.operation.Spot.TheVariants.{At, Margin}
use Rattle.scr_terminal.specs.Code.Writing.{look_of, looks_ahead, looks_written, spot_after}
use Rattle.scr_terminal.specs.Terminals.{TerminalView, IsTerminal, gone_on}
use Rattle.scr_terminal.specs.Characters.{RepeatsAreCharacters, characters_ahead, characters_first, is_character_op, places_ahead}
use Rattle.scr_term.specs.Operations.Laws.{LookGridLaws}
use Rattle.scr_term.specs.Operations.Profiles.{ProfileView}
use Rattle.scr_term.specs.Operations.States.{TerminalState, IsSpot, from_place, written_at}
use Rattle.scr_term.specs.Operations.Steps.{act, runs, step}
use Rattle.scr_term.specs.Operations.Texts.{has, is_repetition}

-- ---- a terminal

-- at most as many as there is room for
pub made_fits : (pen : PenView) (n : ℕ) (ops : List Op) → length (made_while (look_of pen) (take n ops)) ≤ n
made_fits pen n ops =
    let few = each (take n ops) in
    let short = length-take n ops in
    omega (arith, few, short)
  where
    by : (o : Option LookView) (looks : List LookView) (n : ℕ) → length looks ≤ n → length (before o looks) ≤ suc n
    by None looks n h = omega arith
    by (Some look) looks n h = omega (arith, h)

    each : (xs : List Op) → length (made_while (look_of pen) xs) ≤ length xs
    each [] = omega arith
    each (x ∷ xs) = by (look_of pen x) (made_while (look_of pen) xs) (length xs) (each xs)

look_is : (pen : PenView) (op : Op) (look : LookView) → IsPen pen → look_of pen op ≡ Some look → IsLook look
look_is pen (Put byte) look is made = by (is_ascii byte) refl made
  where
    by : (t : Bool) → is_ascii byte ≡ t → cond t (Some (record { character = byte; pen = pen })) None ≡ Some look → IsLook look
    by true e made = let same : record { character = byte; pen = pen } ≡ look = cc in subst IsLook same (record { character = ap (λ t. t || is_beyond_ascii byte) e; pen = is })
    by false e made = (cc)
look_is pen op look is made = (cc)

-- what is made are looks
pub made_are_looks : (pen : PenView) (ops : List Op) → IsPen pen → All IsLook (made_while (look_of pen) ops)
made_are_looks pen [] is = All-nil IsLook
made_are_looks pen (op ∷ ops) is = by (look_of pen op) (λ look. look_is pen op look is) (made_while (look_of pen) ops) (made_are_looks pen ops is)
  where
    by : (o : Option LookView) → ((look : LookView) → o ≡ Some look → IsLook look) → (looks : List LookView) → All IsLook looks → All IsLook (before o looks)
    by None one looks each = All-nil IsLook
    by (Some look) one looks each = All-cons IsLook look looks (one look refl) each

run_all : (rows columns : ℕ) (lines : List (List LookView)) (r c : ℕ) (run : List LookView) → IsGrid rows columns lines → r < rows → All IsLook run → All (All IsLook) lines
    → All (All IsLook) (grid_with_run lines r c run)
run_all rows columns lines r c run is row_in new each =
    let line = grid_row lines r in
    let old : All IsLook line = All-get_or (All IsLook) lines r [] (omega (arith, is.high)) each in
    All-set (All IsLook) lines r (line_with_run line c run)
    (All-append IsLook (take c line ++ run) (drop (c + length run) line) (All-append IsLook (take c line) run (All-take IsLook c line old) new) (All-drop IsLook (c + length run) line old)) each

-- one with a run of looks written
pub run_is_terminal : GridLaws LookView → (old : TerminalView) (grid : GridView LookView) (r c : ℕ) (run : List LookView) (spot : Spot) → IsTerminal old → r < old.rows
    → c + length run ≤ old.columns → All IsLook run
    → grid ≡ record { rows = old.rows; columns = old.columns; lines = grid_with_run old.state.grid r c run } → IsSpot old.rows old.columns spot
    → IsTerminal (record { rows = grid.rows; columns = grid.columns; state = record { grid = grid.lines; spot = spot; pen = old.state.pen } })
run_is_terminal laws old grid r c run spot is row_in fits new put inside =
    let P : GridView LookView → Type 0 = λ g. IsTerminal (record { rows = g.rows; columns = g.columns; state = record { grid = g.lines; spot = spot; pen = old.state.pen } }) in
    subst P (sym put) (record {
      size = is.size;
      state = record {
        whole = subst (IsGrid old.rows old.columns) (sym (laws.run blank old.rows old.columns old.state.grid r c run is.state.whole row_in fits)) (laws.sized old.rows old.columns _);
        looks = run_all old.rows old.columns old.state.grid r c run is.state.whole row_in new is.state.looks;
        spot = inside;
        pen = is.state.pen;
      };
    })

pub after_is_spot : (rows columns r c : ℕ) → r < rows → IsSpot rows columns (spot_after columns r c)
after_is_spot rows columns r c row_in = by (nat_lt c columns) refl
  where
    by : (t : Bool) → nat_lt c columns ≡ t → IsSpot rows columns (cond t (At r c) (Margin r))
    by true e = (row_in, grind (arith, nat_tests, e))
    by false e = row_in

-- ---- steps

-- an empty run changes nothing
no_run : (lines : List (List LookView)) (r c : ℕ) → grid_with_run lines r c [] ≡ lines
no_run lines r c =
    let line : List LookView = grid_row lines r in
    let none : c + 0 ≡ c = omega arith in
    let same : line_with_run line c [] ≡ line = ap (λ xs. xs ++ drop (c + 0) line) (append-nil (take c line)) ∙ ap (λ n. take c line ++ drop n line) none ∙ take-append-drop c line in
    ap (set lines r) same ∙ set-get_or lines r []

-- a look, and then a run after it
run_after : (lines : List (List LookView)) (r c : ℕ) (look : LookView) (run : List LookView) → r < length lines → c < length (grid_row lines r)
    → grid_with_run (grid_with lines r c look) r (c + 1) run ≡ grid_with_run lines r c (look ∷ run)
run_after lines r c look run row_in column_in =
    let line : List LookView = grid_row lines r in
    let put : List LookView = set line c look in
    let ends : c + 1 + length run ≡ c + length (look ∷ run) = omega arith in
    let joined : line_with_run put (c + 1) run ≡ line_with_run line c (look ∷ run) =
    ap (λ xs. (xs ++ run) ++ drop (c + 1 + length run) put) (take_more_set line c look column_in)
    ∙ ap (λ xs. xs ++ drop (c + 1 + length run) put) (append_assoc (take c line) (look ∷ []) run)
    ∙ ap (λ xs. (take c line ++ look ∷ run) ++ xs) (drop-set-lt (c + 1 + length run) line c look (omega arith) ∙ ap (λ n. drop n line) ends) in
    ap (λ l. set (set lines r put) r (line_with_run l (c + 1) run)) (get_or-set_same lines r put [] row_in)
    ∙ set-set lines r put (line_with_run put (c + 1) run)
    ∙ ap (set lines r) joined

put_is_made : (profile : ProfileView) (state : TerminalState) (byte r c : ℕ) → is_ascii byte ≡ true → state.spot ≡ At r c
    → step profile state (Put byte) ≡ Some (record state { grid = grid_with state.grid r c (record { character = byte; pen = state.pen }); spot = spot_after profile.columns r (c + 1) })
unfolding has
put_is_made profile state byte r c is at = ap (λ t. cond (t && true) (written_at profile.columns state byte state.spot) None) is ∙ ap (written_at profile.columns state byte) at

nothing_written : (columns : ℕ) (state : TerminalState) (r c : ℕ) → state.spot ≡ spot_after columns r c → state ≡ looks_written columns state [] (At r c)
nothing_written columns state r c at =
    let none : c ≡ c + 0 = omega arith in
    λ i. record state { grid = sym (no_run state.grid r c) i; spot = (at ∙ ap (spot_after columns r) none) i }

-- an operation writes a character, or nothing is made of it
kinds : (pen : PenView) (op : Op) → ((is_character_op op ≡ false) × (look_of pen op ≡ None)) ⊎ ((byte : ℕ) × (op ≡ Put byte) × (is_ascii byte ≡ true))
kinds pen (Put byte) = by (is_ascii byte) refl
  where
    by : (t : Bool) → is_ascii byte ≡ t → ((is_ascii byte ≡ false) × (look_of pen (Put byte) ≡ None)) ⊎ ((b : ℕ) × (Put byte ≡ Put b) × (is_ascii b ≡ true))
    by true e = inr (byte, refl, e)
    by false e = inl (e, ap (λ t. cond {A = Option LookView} t (Some (record { character = byte; pen = pen })) None) e)
kinds pen op = inl (refl, refl)

-- what steps one after another lead to
abbrev Leads : ProfileView → TerminalState → ℕ → ℕ → List Op → Type 0
Leads profile state r c ops = runs profile state (take (characters_first ops) ops) ≡ Some (looks_written profile.columns state (made_while (look_of state.pen) ops) (At r c))

one_and_more : LookGridLaws → (profile : ProfileView) (rows : ℕ) (state : TerminalState) (r c byte : ℕ) (ops : List Op) → IsGrid rows profile.columns state.grid → r < rows → c < profile.columns
    → state.spot ≡ spot_after profile.columns r c → is_ascii byte ≡ true
    → ((next : TerminalState) → IsGrid rows profile.columns next.grid → next.spot ≡ spot_after profile.columns r (c + 1) → Leads profile next r (c + 1) ops)
    → Leads profile state r c (Put byte ∷ ops)
one_and_more looks profile rows state r c byte ops is row_in column_in at one more =
    let n : ℕ = characters_first ops in
    let look : LookView = record { character = byte; pen = state.pen } in
    let run : List LookView = made_while (look_of state.pen) ops in
    let next : TerminalState = record state { grid = grid_with state.grid r c look; spot = spot_after profile.columns r (c + 1) } in
    let there : nat_lt c profile.columns ≡ true = grind (arith, nat_tests) in
    let here : state.spot ≡ At r c = at ∙ ap (λ t. cond t (At r c) (Margin r)) there in
    let ends : c + 1 + length run ≡ c + length (look ∷ run) = omega arith in
    let wide = is.wide r row_in in
    let after = run_after state.grid r c look run (omega (arith, is.high)) (omega (arith, wide)) in
    let joined : looks_written profile.columns next run (At r (c + 1)) ≡ looks_written profile.columns state (look ∷ run) (At r c) =
    λ i. record state { grid = after i; spot = spot_after profile.columns r (ends i) } in
    ap (λ t. runs profile state (take (cond t (suc n) 0) (Put byte ∷ ops))) one
    ∙ ap (option_and_then (λ state. runs profile state (take n ops))) (put_is_made profile state byte r c one here)
    ∙ more next (looks.put_size rows profile.columns state.grid r c look is) refl
    ∙ ap Some joined
    ∙ sym (ap (λ t. Some (looks_written profile.columns state (before (cond t (Some look) None) run) (At r c))) one)

written_ahead : LookGridLaws → (profile : ProfileView) (rows : ℕ) (state : TerminalState) (r c : ℕ) (ops : List Op) → IsGrid rows profile.columns state.grid → r < rows
    → state.spot ≡ spot_after profile.columns r c → c + length ops ≤ profile.columns → Leads profile state r c ops
written_ahead looks profile rows state r c [] is row_in at fits = ap Some (nothing_written profile.columns state r c at)
written_ahead looks profile rows state r c (op ∷ ops) is row_in at fits = elim (kinds state.pen op) [
  | inl other ↦ ap (λ t. runs profile state (take (cond t (suc (characters_first ops)) 0) (op ∷ ops))) other.0
      ∙ ap Some (nothing_written profile.columns state r c at)
      ∙ sym (ap (λ o. Some (looks_written profile.columns state (before o (made_while (look_of state.pen) ops)) (At r c))) other.1)
  | inr put ↦ subst (λ o. Leads profile state r c (o ∷ ops)) (sym put.1)
      (one_and_more looks profile rows state r c put.0 ops is row_in (omega (arith, fits)) at put.2 (λ next whole spot. written_ahead looks profile rows next r (c + 1) ops whole row_in spot (omega (arith, fits))))
]

-- ---- how many

made_length : (pen : PenView) (ops : List Op) → length (made_while (look_of pen) ops) ≡ characters_first ops
made_length pen [] = refl
made_length pen (op ∷ ops) = elim (kinds pen op) [
  | inl other ↦ ap (λ o. length (before o (made_while (look_of pen) ops))) other.1 ∙ sym (ap (λ t. cond t (suc (characters_first ops)) 0) other.0)
  | inr put ↦ ap (λ o. length (made_while (look_of pen) (o ∷ ops))) put.1
      ∙ ap (λ t. length (before (cond {A = Option LookView} t (Some (record { character = put.0; pen = pen })) None) (made_while (look_of pen) ops))) put.2
      ∙ ap suc (made_length pen ops)
      ∙ sym (ap (λ o. characters_first (o ∷ ops)) put.1 ∙ ap (λ t. cond t (suc (characters_first ops)) 0) put.2)
]

pub first_fits : (ops : List Op) → characters_first ops ≤ length ops
first_fits [] = omega arith
first_fits (op ∷ ops) = by (is_character_op op) (characters_first ops) (length ops) (first_fits ops)
  where
    by : (t : Bool) (n m : ℕ) → n ≤ m → cond t (suc n) 0 ≤ suc m
    by true n m h = omega (arith, h)
    by false n m h = omega arith

pub first_are_characters : (ops : List Op) → list_all is_character_op (take (characters_first ops) ops) ≡ true
first_are_characters [] = refl
first_are_characters (op ∷ ops) = by (is_character_op op) refl (first_are_characters ops)
  where
    by : (t : Bool) → is_character_op op ≡ t → list_all is_character_op (take (characters_first ops) ops) ≡ true
        → list_all is_character_op (take (cond t (suc (characters_first ops)) 0) (op ∷ ops)) ≡ true
    by true e more = ap (λ t. t && list_all is_character_op (take (characters_first ops) ops)) e ∙ more
    by false e more = refl

-- ---- as far as the row goes

-- those that a row takes are the first of all
taken : (n : ℕ) (ops : List Op) → take (characters_first (take n ops)) ops ≡ take (characters_first (take n ops)) (take n ops)
taken n ops =
    let few = first_fits (take n ops) in
    let short = length-take n ops in
    sym (take-take (characters_first (take n ops)) n ops (omega (arith, few, short)))

pub ahead_count : (terminal : TerminalView) (ops : List Op) (n : ℕ) → n ≡ length (looks_ahead terminal.columns terminal.state ops) → n ≡ characters_ahead terminal.columns terminal.state.spot ops
ahead_count terminal ops n many = many ∙ made_length terminal.state.pen (take (places_ahead terminal.columns terminal.state.spot) ops)

pub ahead_fits : (columns : ℕ) (spot : Spot) (ops : List Op) (n : ℕ) → n ≡ characters_ahead columns spot ops → n ≤ length ops
ahead_fits columns spot ops n is =
    let few = first_fits (take (places_ahead columns spot) ops) in
    let short = length-take (places_ahead columns spot) ops in
    omega (arith, is, few, short)

pub ahead_are_characters : (columns : ℕ) (spot : Spot) (ops : List Op) (n : ℕ) → n ≡ characters_ahead columns spot ops → list_all is_character_op (take n ops) ≡ true
ahead_are_characters columns spot ops n is =
    ap (λ n. list_all is_character_op (take n ops)) is
    ∙ ap (list_all is_character_op) (taken (places_ahead columns spot) ops)
    ∙ first_are_characters (take (places_ahead columns spot) ops)

-- the looks that are written in one go are what the steps lead to
abbrev LeadsAhead : ProfileView → ℕ → TerminalState → List Op → Spot → Type 0
LeadsAhead profile columns state ops spot =
    runs profile state (take (characters_ahead columns spot ops) ops) ≡ Some (looks_written columns state (made_while (look_of state.pen) (take (places_ahead columns spot) ops)) spot)

leads_ahead : LookGridLaws → (profile : ProfileView) (rows : ℕ) (state : TerminalState) (ops : List Op) (spot : Spot) → IsGrid rows profile.columns state.grid → IsSpot rows profile.columns spot → state.spot ≡ spot
    → LeadsAhead profile profile.columns state ops spot
leads_ahead looks profile rows state ops (Margin r) is inside at = refl
leads_ahead looks profile rows state ops (At r c) is inside at =
    let n = profile.columns - c in
    let there : nat_lt c profile.columns ≡ true = grind (arith, nat_tests, inside.1) in
    let here : state.spot ≡ spot_after profile.columns r c = at ∙ sym (ap (λ t. cond t (At r c) (Margin r)) there) in
    let short = length-take n ops in
    ap (runs profile state) (taken n ops) ∙ written_ahead looks profile rows state r c (take n ops) is inside.0 here (omega (arith, inside.1, short))

runs_ahead : LookGridLaws → (profile : ProfileView) (old : TerminalView) (ops : List Op) (n : ℕ) → IsTerminal old → profile.columns ≡ old.columns → n ≡ characters_ahead old.columns old.state.spot ops
    → runs profile old.state (take n ops) ≡ Some (looks_written old.columns old.state (looks_ahead old.columns old.state ops) old.state.spot)
runs_ahead looks profile old ops n is wide many =
    let leads = subst (λ columns. IsGrid old.rows columns old.state.grid → IsSpot old.rows columns old.state.spot → LeadsAhead profile columns old.state ops old.state.spot) wide
    (λ whole inside. leads_ahead looks profile old.rows old.state ops old.state.spot whole inside refl) in
    ap (λ n. runs profile old.state (take n ops)) many ∙ leads is.state.whole is.state.spot

pub ahead_is_defined : LookGridLaws → (profile : ProfileView) (terminal : TerminalView) (ops : List Op) (n : ℕ) → IsTerminal terminal → profile.columns ≡ terminal.columns
    → n ≡ characters_ahead terminal.columns terminal.state.spot ops → is_some (runs profile terminal.state (take n ops)) ≡ true
ahead_is_defined looks profile terminal ops n is wide many = ap is_some (runs_ahead looks profile terminal ops n is wide many)

pub gone_ahead : LookGridLaws → (profile : ProfileView) (old new : TerminalView) (ops : List Op) (n : ℕ) → IsTerminal old → profile.columns ≡ old.columns → n ≡ characters_ahead old.columns old.state.spot ops
    → new ≡ record old { state = looks_written old.columns old.state (looks_ahead old.columns old.state ops) old.state.spot }
    → new ≡ gone_on old (runs profile old.state (take n ops))
gone_ahead looks profile old new ops n is wide many made = made ∙ sym (ap (gone_on old) (runs_ahead looks profile old ops n is wide many))

-- ---- a character that is repeated

many_first : (byte : ℕ) → is_ascii byte ≡ true → (n : ℕ) → characters_first (replicate n (Put byte)) ≡ n
many_first byte is zero = refl
many_first byte is (suc n) = ap (λ t. cond t (suc (characters_first (replicate n (Put byte)))) 0) is ∙ ap suc (many_first byte is n)

many_made : (pen : PenView) (byte : ℕ) → is_ascii byte ≡ true → (n : ℕ) → made_while (look_of pen) (replicate n (Put byte)) ≡ replicate n (record { character = byte; pen = pen })
many_made pen byte is zero = refl
many_made pen byte is (suc n) =
    ap (λ t. before (cond {A = Option LookView} t (Some (record { character = byte; pen = pen })) None) (made_while (look_of pen) (replicate n (Put byte)))) is
    ∙ ap (λ looks. record { character = byte; pen = pen } ∷ looks) (many_made pen byte is n)

pub many_looks : (n : ℕ) (look : LookView) → IsLook look → All IsLook (replicate n look)
many_looks zero look is = All-nil IsLook
many_looks (suc n) look is = All-cons IsLook look (replicate n look) is (many_looks n look is)

-- what a test chose, where the other way out is none
chosen : {A : Type 0} (b : Bool) (x : Option A) (y : A) → cond b x None ≡ Some y → (b ≡ true) × (x ≡ Some y)
chosen true x y h = (refl, h)
chosen false x y h = (cc, cc)

both_first : (a b : Bool) → (a && b) ≡ true → a ≡ true
both_first true b h = refl
both_first false b h = (cc)

no_state : (new : TerminalState) → None ≡ Some new → ⊥
no_state new h = (cc)

repeated_at : LookGridLaws → (profile : ProfileView) (rows : ℕ) (old new : TerminalState) (byte n : ℕ) → is_ascii byte ≡ true → IsGrid rows profile.columns old.grid
    → (spot : Spot) → old.spot ≡ spot → IsSpot rows profile.columns spot
    → from_place spot (λ r c. cond (nat_lt (c + n) profile.columns) (Some (record old { grid = grid_with_run old.grid r c (replicate n (record { character = byte; pen = old.pen })); spot = At r (c + n) })) None) ≡ Some new
    → runs profile old (replicate n (Put byte)) ≡ Some new
repeated_at looks profile rows old new byte n one is (Margin r) at inside h = absurd (no_state new h)
repeated_at looks profile rows old new byte n one is (At r c) at inside h =
    let look : LookView = record { character = byte; pen = old.pen } in
    let ops = replicate n (Put byte) in
    let there : nat_lt c profile.columns ≡ true = grind (arith, nat_tests, inside.1) in
    let here : old.spot ≡ spot_after profile.columns r c = at ∙ sym (ap (λ t. cond t (At r c) (Margin r)) there) in
    let got = chosen (nat_lt (c + n) profile.columns) _ new h in
    let fits : c + n < profile.columns = grind (arith, nat_tests, got.0) in
    let many = length-replicate n (Put byte) in
    let ends : c + length (replicate n look) ≡ c + n = ap (λ k. c + k) (length-replicate n look) in
    let whole : take (characters_first ops) ops ≡ ops = ap (λ k. take k ops) (many_first byte one n ∙ sym many) ∙ take_whole ops in
    ap (runs profile old) (sym whole)
    ∙ written_ahead looks profile rows old r c ops is inside.0 here (omega (arith, fits, many))
    ∙ ap (λ run. Some (looks_written profile.columns old run (At r c))) (many_made old.pen byte one n)
    ∙ ap (λ k. Some (record old { grid = grid_with_run old.grid r c (replicate n look); spot = spot_after profile.columns r k })) ends
    ∙ ap (λ t. Some (record old { grid = grid_with_run old.grid r c (replicate n look); spot = cond t (At r (c + n)) (Margin r) })) got.0
    ∙ got.1
  where
    take_whole : (xs : List Op) → take (length xs) xs ≡ xs
    take_whole [] = refl
    take_whole (x ∷ xs) = ap (λ rest. x ∷ rest) (take_whole xs)

pub repeats_are_characters : LookGridLaws → RepeatsAreCharacters
unfolding has
repeats_are_characters looks profile old new s byte n h =
    let got = chosen (has profile (Repeat byte n)) (act profile old (Repeat byte n)) new h in
    let one : is_ascii byte ≡ true = both_first _ _ (both_first _ _ got.0) in
    repeated_at looks profile profile.rows old new byte n one s.whole old.spot refl s.spot got.1

-- ---- what an operation writes that a profile has

either : (a b : Bool) → b ≡ true → (a || b) ≡ true
either true b h = refl
either false b h = h

pub put_is_character : (profile : ProfileView) (byte : ℕ) → has profile (Put byte) ≡ true → IsCharacter byte
unfolding has
put_is_character profile byte had = ap (λ t. t || is_beyond_ascii byte) (both_first (is_ascii byte) true had)

both_last : (a b : Bool) → (a && b) ≡ true → b ≡ true
both_last true b h = h
both_last false b h = (cc)

-- a character of ASCII, and few of it
pub repeat_is_ascii : (profile : ProfileView) (byte n : ℕ) → has profile (Repeat byte n) ≡ true → IsAscii byte
unfolding has
repeat_is_ascii profile byte n had =
    let is : is_ascii byte ≡ true = both_first (is_ascii byte) (is_repetition n) (both_first (is_ascii byte && is_repetition n) _ had) in
    (grind (arith, nat_tests, is), grind (arith, nat_tests, is))

pub repeat_is_few : (profile : ProfileView) (byte n : ℕ) → has profile (Repeat byte n) ≡ true → n ≤ 500
unfolding has
repeat_is_few profile byte n had =
    let few = both_last (nat_le 2 n) (nat_le n 500) (both_last (is_ascii byte) (is_repetition n) (both_first (is_ascii byte && is_repetition n) _ had)) in
    grind (arith, nat_tests, few)

pub write_is_character : (profile : ProfileView) (code : ℕ) → has profile (Write code) ≡ true → IsCharacter code
unfolding has
write_is_character profile code had =
    let written : (is_utf8 profile.charset && is_beyond_ascii code) ≡ true = both_first (is_utf8 profile.charset && is_beyond_ascii code) (is_utf8 profile.charset) had in
    either (is_ascii code) (is_beyond_ascii code) (both_last (is_utf8 profile.charset) (is_beyond_ascii code) written)
