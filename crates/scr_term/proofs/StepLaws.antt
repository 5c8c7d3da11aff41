-- What steps and runs keep.
use Rattle.std.proofs.Common.{◌≡◌, ℕ, replicate, ◌+◌, ◌-◌, ◌<◌, ◌≤◌, ◌&&◌, ◌||◌, ◌==◌, Bool, true, false, cond, refl, sym, ◌∙◌, ap, subst, arith, List, [], ◌∷◌, ◌++◌, Option, Some, None, option_and_then, bit_and, nat_le, nat_lt, is_none}
use Rattle.std.specs.List.{AllByRecursion}
use Rattle.std.proofs.lemmas.List.Concat.{flat_map-append}
use Rattle.std.proofs.lemmas.List.Elements.{All-from_recursion}
use Rattle.std.proofs.lemmas.Bool.{eqb-true}
use Rattle.std.proofs.lemmas.Bool.Decides.{nat_tests}
use Rattle.scr_cells.specs.Characters.{CharacterLaws, IsCharacter, is_ascii, is_beyond_ascii, is_utf8}
use Rattle.scr_cells.specs.Grids.{grid_at, grid_with, grid_with_run, is_in_run, places_left, places_right, rows_down, rows_up}
use Rattle.scr_cells.specs.LookViews.{LookView, IsLook, blank}
use Rattle.scr_cells.specs.PenViews.{PenView, is_plain_pen, plain_pen}
use Rattle.scr_term.specs.declared.operations.operation.Op.{Op}
use Rattle.scr_term.specs.declared.operations.operation.Op.TheVariants.{Home, Move, Column, Line, Up, Down, Left, Right, UpBy, DownBy, LeftBy, RightBy, Return, Clear, EraseLine, EraseBelow, EraseChars, InsertLines, DeleteLines, InsertChars, DeleteChars, ScrollUp, ScrollDown, Reset, ExitAttributes, Enter, Set, Fore, Back, Put, Write, Repeat}
use Rattle.scr_term.specs.declared.operations.operation.Spot.{Spot}
use Rattle.scr_term.specs.declared.operations.operation.Spot.TheVariants.{At, Margin}
use Rattle.scr_term.specs.Operations.Abilities.{Abilities, AreAbilities}
use Rattle.scr_term.specs.Operations.Profiles.{ProfileView, IsProfile, abilities, shown_set}
use Rattle.scr_term.specs.Operations.States.{TerminalState, AreShownColours, IsShownPen, IsSpot, IsState, blank_state, erased, from_place, is_from_place, moved_to, shifted, spot_after, written_at}
use Rattle.scr_term.specs.Operations.Steps.{act, erasure_made, motion_made, step, runs}
use Rattle.scr_term.specs.Operations.Texts.{bytes_of, has, is_repetition}
use Rattle.scr_term.specs.Operations.Laws.{BlankLaws, RunLaws, StepsKeepStates}
use Rattle.scr_term.proofs.CharacterLaws.{ascii_is_character, beyond_is_character}
use Rattle.scr_term.proofs.ChoiceLaws.{both_true, chosen, no_some, same_some, then_some}
use Rattle.scr_term.proofs.LookGridLaws.{all_blank, down_is_look, filled_all, filled_is_grid, formed_all, formed_is_grid, is_blank, left_is_look, negative_blank, put_all, put_is_grid, right_is_look, run_all, run_is_grid, up_is_look}
use Rattle.scr_term.proofs.ProfileLaws.{abilities_are, entered_is_shown, is_had, seen_some}
use Rattle.scr_term.proofs.ShownPenLaws.{more_is_shown, plain_is_shown, set_is_shown, shown_is_pen}

-- ---- states with another spot, another pen, or some places erased

moved : (a : Abilities) (old : TerminalState) (spot : Spot) → IsState a old → IsSpot a.rows a.columns spot → IsState a (record old { spot = spot })
moved a old spot s inside = record { whole = s.whole; looks = s.looks; spot = inside; pen = s.pen }

rendered : (a : Abilities) (old : TerminalState) (pen : PenView) → IsState a old → IsShownPen a pen → IsState a (record old { pen = pen })
rendered a old pen s shown = record { whole = s.whole; looks = s.looks; spot = s.spot; pen = shown }

erased_keeps : (a : Abilities) (old : TerminalState) (inside : ℕ → ℕ → Bool) → IsState a old → IsState a (erased a.rows a.columns inside old)
erased_keeps a old inside s = record {
  whole = filled_is_grid a.rows a.columns inside _;
  looks = filled_all a.rows a.columns inside old.grid s.looks;
  spot = s.spot;
  pen = s.pen;
}

shifted_keeps : (a : Abilities) (old : TerminalState) (move : LookView → (ℕ → ℕ → LookView) → ℕ → ℕ → LookView) → IsState a old
    → ((r c : ℕ) → IsLook (move blank (grid_at blank old.grid) r c)) → IsState a (shifted a.rows a.columns move old)
shifted_keeps a old move s each = record {
  whole = formed_is_grid a.rows a.columns (move blank (grid_at blank old.grid));
  looks = formed_all a.rows a.columns (move blank (grid_at blank old.grid)) each;
  spot = s.spot;
  pen = s.pen;
}

blank_keeps : (a : Abilities) → AreAbilities a → (pen : PenView) → IsShownPen a pen → IsState a (record (blank_state a.rows a.columns) { pen = pen })
blank_keeps a are pen shown = record {
  whole = is_blank a.rows a.columns;
  looks = all_blank a.rows a.columns;
  spot = (are.size.some_rows, are.size.some_columns);
  pen = shown;
}

-- ---- what leads to a state of the terminal, wherever it leads

abbrev Keeps : Abilities → Option TerminalState → Type 0
Keeps a next = (new : TerminalState) → next ≡ Some new → IsState a new

some_keeps : (a : Abilities) (state : TerminalState) → IsState a state → Keeps a (Some state)
some_keeps a state s new h = subst (IsState a) (same_some state new h) s

none_keeps : (a : Abilities) → Keeps a None
none_keeps a new h = absurd (no_some new h)

tested_keeps : (a : Abilities) (test : Bool) (next : Option TerminalState) → (test ≡ true → Keeps a next) → Keeps a (cond test next None)
tested_keeps a true next keeps = keeps refl
tested_keeps a false next keeps = none_keeps a

place_keeps : (a : Abilities) (spot : Spot) (f : ℕ → ℕ → Option TerminalState) → IsSpot a.rows a.columns spot
    → ((r c : ℕ) → r < a.rows → c < a.columns → Keeps a (f r c)) → Keeps a (from_place spot f)
place_keeps a (At r c) f inside keeps = keeps r c inside.0 inside.1
place_keeps a (Margin r) f inside keeps = none_keeps a

to_keeps : (a : Abilities) (old : TerminalState) (r c : ℕ) → IsState a old → Keeps a (moved_to a.rows a.columns old r c)
to_keeps a old r c s =
    tested_keeps a (nat_lt r a.rows && nat_lt c a.columns) _
    (λ test. some_keeps a _ (moved a old (At r c) s (grind (arith, nat_tests, test), grind (arith, nat_tests, test))))

put_keeps : (a : Abilities) → AreAbilities a → (old : TerminalState) → IsState a old
    → (code : ℕ) (spot : Spot) → IsSpot a.rows a.columns spot → IsCharacter code
    → Keeps a (written_at a.columns old code spot)
put_keeps a are old s code (Margin r) inside is = none_keeps a
put_keeps a are old s code (At r c) inside is =
    let look : LookView = record { character = code; pen = old.pen } in
    some_keeps a (record { grid = grid_with old.grid r c look; spot = spot_after a.columns r c; pen = old.pen }) (record {
      whole = put_is_grid a.rows a.columns old.grid r c look s.whole;
      looks = put_all a.rows a.columns old.grid r c look s.whole inside.0 (record { character = is; pen = shown_is_pen a are.shown old.pen s.pen }) s.looks;
      spot = next_spot (nat_lt (c + 1) a.columns) refl;
      pen = s.pen;
    })
  where
    next_spot : (b : Bool) → nat_lt (c + 1) a.columns ≡ b → IsSpot a.rows a.columns (cond b (At r (c + 1)) (Margin r))
    next_spot true e = (inside.0, grind (arith, nat_tests))
    next_spot false e = inside.0

repeat_keeps : (a : Abilities) → AreAbilities a → (old : TerminalState) → IsState a old → (byte n r c : ℕ) → 32 ≤ byte → byte ≤ 126 → r < a.rows → c + n < a.columns
    → IsState a (record old { grid = grid_with_run old.grid r c (replicate n (record { character = byte; pen = old.pen })); spot = At r (c + n) })
repeat_keeps a are old s byte n r c low high row_in fits =
    let look : LookView = record { character = byte; pen = old.pen } in
    let is : IsLook look = record { character = ascii_is_character byte low high; pen = shown_is_pen a are.shown old.pen s.pen } in
    record {
      whole = run_is_grid a.rows a.columns old.grid r c n look s.whole row_in (omega (arith, fits));
      looks = run_all a.rows a.columns old.grid r c n look s.whole row_in is s.looks;
      spot = (row_in, fits);
      pen = s.pen;
    }

-- ---- each operation

fore_is_shown : (a : Abilities) (pen : PenView) (n : ℕ) → IsShownPen a pen → n < 8 → a.colours ≡ true → IsShownPen a (record pen { foreground = Some n })
fore_is_shown a pen n is few shows = record {
  attrs = is.attrs;
  colours = subst (λ t. AreShownColours t (Some n) pen.background) (sym shows) (few, (subst (λ t. AreShownColours t pen.foreground pen.background) shows is.colours).1);
}

back_is_shown : (a : Abilities) (pen : PenView) (n : ℕ) → IsShownPen a pen → n < 8 → a.colours ≡ true → IsShownPen a (record pen { background = Some n })
back_is_shown a pen n is few shows = record {
  attrs = is.attrs;
  colours = subst (λ t. AreShownColours t pen.foreground (Some n)) (sym shows) ((subst (λ t. AreShownColours t pen.foreground pen.background) shows is.colours).0, few);
}

motion : (profile : ProfileView) (old : TerminalState) (next : Option TerminalState) → Keeps (abilities profile) next → Keeps (abilities profile) (motion_made profile old next)
motion profile old next keep = tested_keeps (abilities profile) (profile.msgr || is_plain_pen old.pen) next (λ t. keep)

erasure : (profile : ProfileView) (old : TerminalState) (next : Option TerminalState) → Keeps (abilities profile) next → Keeps (abilities profile) (erasure_made old next)
erasure profile old next keep = tested_keeps (abilities profile) (is_plain_pen old.pen) next (λ t. keep)

keeps : (profile : ProfileView) → IsProfile profile → (old : TerminalState) → IsState (abilities profile) old
    → (op : Op) → has profile op ≡ true → Keeps (abilities profile) (act profile old op)
keeps profile p old s Home had = motion profile old _ (to_keeps (abilities profile) old 0 0 s)
keeps profile p old s (Move r c) had = motion profile old _ (to_keeps (abilities profile) old r c s)
keeps profile p old s (Column n) had = motion profile old _ (place_keeps (abilities profile) old.spot _ s.spot (λ r c row_in column_in. to_keeps (abilities profile) old r n s))
keeps profile p old s (Line n) had = motion profile old _ (place_keeps (abilities profile) old.spot _ s.spot (λ r c row_in column_in. to_keeps (abilities profile) old n c s))
keeps profile p old s (Up n) had =
    motion profile old _ (place_keeps (abilities profile) old.spot _ s.spot (λ r c row_in column_in. tested_keeps (abilities profile) (nat_le n r) _ (λ t. to_keeps (abilities profile) old (r - n) c s)))
keeps profile p old s (Down n) had = motion profile old _ (place_keeps (abilities profile) old.spot _ s.spot (λ r c row_in column_in. to_keeps (abilities profile) old (r + n) c s))
keeps profile p old s (Left n) had =
    motion profile old _ (place_keeps (abilities profile) old.spot _ s.spot (λ r c row_in column_in. tested_keeps (abilities profile) (nat_le n c) _ (λ t. to_keeps (abilities profile) old r (c - n) s)))
keeps profile p old s (Right n) had = motion profile old _ (place_keeps (abilities profile) old.spot _ s.spot (λ r c row_in column_in. to_keeps (abilities profile) old r (c + n) s))
keeps profile p old s (UpBy n) had =
    motion profile old _ (place_keeps (abilities profile) old.spot _ s.spot (λ r c row_in column_in. tested_keeps (abilities profile) (nat_le n r) _ (λ t. to_keeps (abilities profile) old (r - n) c s)))
keeps profile p old s (DownBy n) had = motion profile old _ (place_keeps (abilities profile) old.spot _ s.spot (λ r c row_in column_in. to_keeps (abilities profile) old (r + n) c s))
keeps profile p old s (LeftBy n) had =
    motion profile old _ (place_keeps (abilities profile) old.spot _ s.spot (λ r c row_in column_in. tested_keeps (abilities profile) (nat_le n c) _ (λ t. to_keeps (abilities profile) old r (c - n) s)))
keeps profile p old s (RightBy n) had = motion profile old _ (place_keeps (abilities profile) old.spot _ s.spot (λ r c row_in column_in. to_keeps (abilities profile) old r (c + n) s))
keeps profile p old s Return had = motion profile old _ (place_keeps (abilities profile) old.spot _ s.spot (λ r c row_in column_in. to_keeps (abilities profile) old r 0 s))
keeps profile p old s Clear had = erasure profile old _ (some_keeps (abilities profile) _ (blank_keeps (abilities profile) (abilities_are profile p) old.pen s.pen))
keeps profile p old s EraseLine had =
    erasure profile old _ (place_keeps (abilities profile) old.spot _ s.spot (λ r c row_in column_in. some_keeps (abilities profile) _ (erased_keeps (abilities profile) old (is_in_run r c profile.columns) s)))
keeps profile p old s EraseBelow had =
    erasure profile old _ (place_keeps (abilities profile) old.spot _ s.spot (λ r c row_in column_in. tested_keeps (abilities profile) (c == 0) _
    (λ t. some_keeps (abilities profile) _ (erased_keeps (abilities profile) old (is_from_place r c) s))))
keeps profile p old s (EraseChars n) had =
    erasure profile old _ (place_keeps (abilities profile) old.spot _ s.spot (λ r c row_in column_in. tested_keeps (abilities profile) (nat_le (c + n) profile.columns) _
    (λ t. some_keeps (abilities profile) _ (erased_keeps (abilities profile) old (is_in_run r c (c + n)) s))))
keeps profile p old s (InsertLines n) had =
    erasure profile old _ (place_keeps (abilities profile) old.spot _ s.spot (λ r c row_in column_in. tested_keeps (abilities profile) (c == 0 && nat_le (r + n) profile.rows) _
    (λ t. some_keeps (abilities profile) _ (shifted_keeps (abilities profile) old (rows_down r profile.rows n) s (down_is_look r profile.rows n old.grid s.looks)))))
keeps profile p old s (DeleteLines n) had =
    erasure profile old _ (place_keeps (abilities profile) old.spot _ s.spot (λ r c row_in column_in. tested_keeps (abilities profile) (c == 0 && nat_le (r + n) profile.rows) _
    (λ t. some_keeps (abilities profile) _ (shifted_keeps (abilities profile) old (rows_up r profile.rows n) s (up_is_look r profile.rows n old.grid s.looks)))))
keeps profile p old s (InsertChars n) had =
    erasure profile old _ (place_keeps (abilities profile) old.spot _ s.spot (λ r c row_in column_in. tested_keeps (abilities profile) (nat_le (c + n) profile.columns) _
    (λ t. some_keeps (abilities profile) _ (shifted_keeps (abilities profile) old (places_right r c profile.columns n) s (right_is_look r c profile.columns n old.grid s.looks)))))
keeps profile p old s (DeleteChars n) had =
    erasure profile old _ (place_keeps (abilities profile) old.spot _ s.spot (λ r c row_in column_in. tested_keeps (abilities profile) (nat_le (c + n) profile.columns) _
    (λ t. some_keeps (abilities profile) _ (shifted_keeps (abilities profile) old (places_left r c profile.columns n) s (left_is_look r c profile.columns n old.grid s.looks)))))
keeps profile p old s (ScrollUp n) had =
    erasure profile old _ (place_keeps (abilities profile) old.spot _ s.spot (λ r c row_in column_in. tested_keeps (abilities profile) (c == 0 && r + 1 == profile.rows && nat_le n profile.rows) _
    (λ t. some_keeps (abilities profile) _ (shifted_keeps (abilities profile) old (rows_up 0 profile.rows n) s (up_is_look 0 profile.rows n old.grid s.looks)))))
keeps profile p old s (ScrollDown n) had =
    erasure profile old _ (place_keeps (abilities profile) old.spot _ s.spot (λ r c row_in column_in. tested_keeps (abilities profile) (c == 0 && r == 0 && nat_le n profile.rows) _
    (λ t. some_keeps (abilities profile) _ (shifted_keeps (abilities profile) old (rows_down 0 profile.rows n) s (down_is_look 0 profile.rows n old.grid s.looks)))))
keeps profile p old s Reset had = some_keeps (abilities profile) _ (rendered (abilities profile) old plain_pen s (plain_is_shown (abilities profile)))
keeps profile p old s ExitAttributes had =
    tested_keeps (abilities profile) (is_none old.pen.foreground && is_none old.pen.background) _ (λ t. some_keeps (abilities profile) _ (rendered (abilities profile) old plain_pen s (plain_is_shown (abilities profile))))
keeps profile p old s (Enter a) had =
    some_keeps (abilities profile) _ (rendered (abilities profile) old _ s (more_is_shown (abilities profile) old.pen a.0 s.pen (entered_is_shown profile a had)))
keeps profile p old s (Set a) had =
    let shown : bit_and (shown_set profile) a.0 ≡ a.0 = eqb-true _ _ ((is_had profile (Set a) had).0) in
    some_keeps (abilities profile) _ (rendered (abilities profile) old _ s (set_is_shown (abilities profile) a.0 shown))
keeps profile p old s (Fore n) had =
    let within = both_true (nat_lt n 8) _ ((is_had profile (Fore n) had).0) in
    place_keeps (abilities profile) old.spot _ s.spot (λ r c row_in column_in. some_keeps (abilities profile) _
    (rendered (abilities profile) old _ s (fore_is_shown (abilities profile) old.pen n s.pen (grind (arith, nat_tests, within.0)) within.1)))
keeps profile p old s (Back n) had =
    let within = both_true (nat_lt n 8) _ ((is_had profile (Back n) had).0) in
    place_keeps (abilities profile) old.spot _ s.spot (λ r c row_in column_in. some_keeps (abilities profile) _
    (rendered (abilities profile) old _ s (back_is_shown (abilities profile) old.pen n s.pen (grind (arith, nat_tests, within.0)) within.1)))
keeps profile p old s (Put byte) had =
    let within = (is_had profile (Put byte) had).0 in
    let low : 32 ≤ byte = grind (arith, nat_tests, within) in
    let high : byte ≤ 126 = grind (arith, nat_tests, within) in
    put_keeps (abilities profile) (abilities_are profile p) old s byte old.spot s.spot (ascii_is_character byte low high)
keeps profile p old s (Write code) had =
    let both = both_true (is_utf8 profile.charset) (is_beyond_ascii code) (is_had profile (Write code) had).0 in
    put_keeps (abilities profile) (abilities_are profile p) old s code old.spot s.spot (beyond_is_character code both.1)
keeps profile p old s (Repeat byte n) had =
    let is : is_ascii byte ≡ true = (both_true (is_ascii byte) (is_repetition n) (is_had profile (Repeat byte n) had).0).0 in
    let low : 32 ≤ byte = grind (arith, nat_tests, is) in
    let high : byte ≤ 126 = grind (arith, nat_tests, is) in
    place_keeps (abilities profile) old.spot _ s.spot (λ r c row_in column_in. tested_keeps (abilities profile) (nat_lt (c + n) profile.columns) _
    (λ t. some_keeps (abilities profile) _ (repeat_keeps (abilities profile) (abilities_are profile p) old s byte n r c low high row_in (grind (arith, nat_tests, t)))))

pub steps_keep_states : StepsKeepStates
steps_keep_states profile p old new s op h =
    let c = chosen (has profile op) (act profile old op) new h in
    keeps profile p old s op c.0 new c.1

-- ---- runs

pub runs-append : (profile : ProfileView) (old next : TerminalState) (xs ys : List Op) → runs profile old xs ≡ Some next
    → runs profile old (xs ++ ys) ≡ runs profile next ys
runs-append profile old next [] ys h = ap (λ s. runs profile s ys) (same_some old next h)
runs-append profile old next (op ∷ ops) ys h =
    let first = then_some (step profile old op) (λ s. runs profile s ops) next h in
    ap (option_and_then (λ s. runs profile s (ops ++ ys))) first.1 ∙ runs-append profile first.0 next ops ys first.2

pub runs_keep : (profile : ProfileView) → IsProfile profile → (old new : TerminalState) → IsState (abilities profile) old
    → (ops : List Op) → runs profile old ops ≡ Some new → IsState (abilities profile) new
runs_keep profile p old new s [] h = subst (λ z. IsState (abilities profile) z) (same_some old new h) s
runs_keep profile p old new s (op ∷ ops) h =
    let first = then_some (step profile old op) (λ next. runs profile next ops) new h in
    runs_keep profile p first.0 new (steps_keep_states profile p old first.0 s op first.1) ops first.2

-- a run that is defined has only operations that the profile has
each_had : (profile : ProfileView) (old new : TerminalState) (ops : List Op) → runs profile old ops ≡ Some new → AllByRecursion (λ op. has profile op ≡ true) ops
each_had profile old new [] h = tt
each_had profile old new (op ∷ ops) h =
    let first = then_some (step profile old op) (λ next. runs profile next ops) new h in
    ((chosen (has profile op) (act profile old op) first.0 first.1).0, each_had profile first.0 new ops first.2)

-- a step, and then operations and others: the run of the others goes on from where the first led, if they led anywhere
after_step : (profile : ProfileView) (ops more : List Op) (first : Option TerminalState)
    → ((next : TerminalState) → runs profile next (ops ++ more) ≡ option_and_then (λ n. runs profile n more) (runs profile next ops))
    → option_and_then (λ next. runs profile next (ops ++ more)) first ≡ option_and_then (λ n. runs profile n more) (option_and_then (λ next. runs profile next ops) first)
after_step profile ops more None go = refl
after_step profile ops more (Some next) go = go next

runs-after : (profile : ProfileView) (ops more : List Op) (old : TerminalState) → runs profile old (ops ++ more) ≡ option_and_then (λ n. runs profile n more) (runs profile old ops)
runs-after profile [] more old = refl
runs-after profile (op ∷ ops) more old = after_step profile ops more (step profile old op) (runs-after profile ops more)

pub run_laws_hold : CharacterLaws → RunLaws
run_laws_hold characters = record {
  after = λ profile old ops more. runs-after profile ops more old;
  joined = runs-append;
  bytes = λ profile ops more. flat_map-append (bytes_of profile) ops more;
  kept = runs_keep;
  had = λ profile old new ops h. All-from_recursion (λ op. has profile op ≡ true) ops (each_had profile old new ops h);
  some = seen_some characters;
}

pub blank_laws_hold : BlankLaws
blank_laws_hold = record {
  state = λ profile p. blank_keeps (abilities profile) (abilities_are profile p) plain_pen (plain_is_shown (abilities profile));
  negative = λ rows columns. ap (λ g. record { grid = g; spot = At 0 0; pen = plain_pen }) (negative_blank rows columns);
}
