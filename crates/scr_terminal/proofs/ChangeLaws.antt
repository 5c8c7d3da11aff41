-- What a motion changes, from what its change makes of a state; and that the pen after an operation is shown.
use Rattle.std.proofs.Common.{◌≡◌, ◌||◌, ℕ, Bool, true, false, Option, None, option_map, if◌then◌else◌, refl}
use Rattle.scr_cells.specs.declared.charsets.Charset.TheVariants.{Utf8}
use Rattle.scr_cells.specs.PenViews.{PenView, is_plain_pen}
use Rattle.scr_term.specs.Operations.Abilities.{full_abilities}
use Rattle.scr_term.specs.Operations.Laws.{ShownPenLaws}
use Rattle.scr_term.specs.Operations.Texts.{has}
use Rattle.scr_term.specs.declared.operations.operation.Op.{Op}
use Rattle.scr_term.specs.declared.operations.operation.Op.TheVariants.{Home, Move, Column, Line, Up, Down, Left, Right, UpBy, DownBy, LeftBy, RightBy, Return, Clear, EraseLine, EraseBelow, EraseChars, InsertLines, DeleteLines, InsertChars, DeleteChars, ScrollUp, ScrollDown, Reset, ExitAttributes, Enter, Set, Fore, Back, Put, Write, Repeat}
use Rattle.scr_term.specs.Operations.Profiles.{ProfileView}
use Rattle.scr_term.specs.Operations.States.{IsShownPen, TerminalState}
use Rattle.scr_term.specs.Operations.Steps.{motion_made}
use Rattle.scr_terminal.specs.Code.Changes.{MakesAt, MakesWith, changed, next_pen}
use Rattle.scr_term.specs.declared.operations.operation.Spot.{Spot}
use Rattle.scr_terminal.specs.declared.changes.Change.{Change}

-- a change that is made where the pen and the terminal allow it is a motion
pub motion_makes : (profile : ProfileView) (rows columns : ℕ) (spot : Spot) (pen : PenView) (change result : Option Change) (f : ℕ → ℕ → TerminalState → Option TerminalState) → rows ≡ profile.rows → columns ≡ profile.columns → MakesAt rows columns spot change (f rows columns) → result ≡ (if profile.msgr || is_plain_pen pen then change else None) → MakesWith profile.rows profile.columns spot pen result (λ state. motion_made profile state (f profile.rows profile.columns state))
motion_makes profile rows columns spot pen change result f same-rows same-columns makes is state at with =
    rw (is, ← with) (by (profile.msgr || is_plain_pen state.pen))
  where
    made : MakesAt profile.rows profile.columns spot change (f profile.rows profile.columns)
    made = rw (← same-rows, ← same-columns) makes

    by : (t : Bool) → option_map (changed profile.rows profile.columns state) (if t then change else None) ≡ (if t then f profile.rows profile.columns state else None)
    by true = made state at
    by false = refl

-- the pen after an operation that a profile has is shown by full abilities
pub next_is_shown : ShownPenLaws → (profile : ProfileView) (pen : PenView) (op : Op) → has profile op ≡ true → IsShownPen (full_abilities Utf8 profile.rows profile.columns) pen → IsShownPen (full_abilities Utf8 profile.rows profile.columns) (next_pen pen op)
next_is_shown pens profile pen Reset had is = pens.plain (full_abilities Utf8 profile.rows profile.columns)
next_is_shown pens profile pen (Enter a) had is = pens.more (full_abilities Utf8 profile.rows profile.columns) pen a.0 is (pens.entered profile a had)
next_is_shown pens profile pen (Set a) had is = pens.set (full_abilities Utf8 profile.rows profile.columns) a.0 (pens.chosen profile a had)
next_is_shown pens profile pen ExitAttributes had is = is
next_is_shown pens profile pen Home had is = is
next_is_shown pens profile pen (Move r k) had is = is
next_is_shown pens profile pen (Column k) had is = is
next_is_shown pens profile pen (Line r) had is = is
next_is_shown pens profile pen (Up n) had is = is
next_is_shown pens profile pen (Down n) had is = is
next_is_shown pens profile pen (Left n) had is = is
next_is_shown pens profile pen (Right n) had is = is
next_is_shown pens profile pen (UpBy n) had is = is
next_is_shown pens profile pen (DownBy n) had is = is
next_is_shown pens profile pen (LeftBy n) had is = is
next_is_shown pens profile pen (RightBy n) had is = is
next_is_shown pens profile pen Return had is = is
next_is_shown pens profile pen Clear had is = is
next_is_shown pens profile pen EraseLine had is = is
next_is_shown pens profile pen EraseBelow had is = is
next_is_shown pens profile pen (EraseChars n) had is = is
next_is_shown pens profile pen (InsertLines n) had is = is
next_is_shown pens profile pen (DeleteLines n) had is = is
next_is_shown pens profile pen (InsertChars n) had is = is
next_is_shown pens profile pen (DeleteChars n) had is = is
next_is_shown pens profile pen (ScrollUp n) had is = is
next_is_shown pens profile pen (ScrollDown n) had is = is
next_is_shown pens profile pen (Fore n) had is = is
next_is_shown pens profile pen (Back n) had is = is
next_is_shown pens profile pen (Put b) had is = is
next_is_shown pens profile pen (Write b) had is = is
next_is_shown pens profile pen (Repeat b n) had is = is
