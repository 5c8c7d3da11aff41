-- A screen that receives an ECMA-48 text in pieces.
use Rattle.std.specs.Prelude.{ℕ, ◌≡◌, ◌++◌, Bool, true, false, List, [], Some, None, ◌⊎◌}
use Rattle.scr_cells.specs.declared.charsets.Charset.{Charset}
use Rattle.scr_cells.specs.declared.charsets.Charset.TheVariants.{Utf8}
use Rattle.scr_cells.specs.PictureViews.{IsSize}
use Rattle.scr_term.specs.Operations.States.{TerminalState, IsState, blank_state}
use Rattle.scr_term.specs.Operations.Abilities.{full_abilities}
use Rattle.scr_term.specs.Ecma.Units.{EcmaUnit, IsUnit, IsDivision, IsWaiting, BeginsNoUnit, spelling}
use Rattle.scr_term.specs.Ecma.Meanings.{meaning, meanings}

-- A screen's size, and the charset of the text; its state after the last whole unit; the beginning of a unit received
-- since; and whether it received something undefined.
pub record ScreenView : Type 0 where
  pub rows : ℕ
  pub columns : ℕ
  pub charset : Charset
  pub state : TerminalState
  pub waiting : List ℕ
  pub undefined : Bool

-- What a screen may be: of a valid size, showing every attribute and colours. After something undefined it waits for
-- nothing.
pub record IsScreen (screen : ScreenView) : Type 0 where
  pub size : IsSize screen.rows screen.columns
  pub state : IsState (full_abilities Utf8 screen.rows screen.columns) screen.state
  pub waiting : (screen.waiting ≡ []) ⊎ IsWaiting screen.charset screen.waiting
  pub undefined : screen.undefined ≡ true → screen.waiting ≡ []

-- A new screen: blanks, the cursor in the first place, no attribute on, default colours, nothing received.
abbrev pub blank_screen : Charset → ℕ → ℕ → ScreenView
blank_screen charset rows columns = record {
  rows = rows;
  columns = columns;
  charset = charset;
  state = blank_state rows columns;
  waiting = [];
  undefined = false;
}

-- The text is whole units, all defined, followed by nothing or by the beginning of a unit.
pub record GoesOn (old : ScreenView) (text : List ℕ) (new : ScreenView) : Type 0 where
  pub units : List EcmaUnit
  pub division : IsDivision old.charset text units new.waiting
  pub meaning : meanings old.rows old.columns old.state units ≡ Some new.state
  pub waiting : (new.waiting ≡ []) ⊎ IsWaiting old.charset new.waiting
  pub defined : new.undefined ≡ false

-- What comes next is a unit that is undefined in this state, or no beginning of a unit.
abbrev pub IsUndefinedAt : ScreenView → List ℕ → Type 0
IsUndefinedAt screen rest =
    ((unit : EcmaUnit) × (more : List ℕ) × IsUnit screen.charset unit × (rest ≡ spelling unit ++ more)
    × (meaning screen.rows screen.columns screen.state unit ≡ None))
    ⊎ BeginsNoUnit screen.charset rest

-- The text is whole units, all defined, followed by something undefined. The screen stays as it was after the last good
-- unit.
pub record Stops (old : ScreenView) (text : List ℕ) (new : ScreenView) : Type 0 where
  pub units : List EcmaUnit
  pub rest : List ℕ
  pub division : IsDivision old.charset text units rest
  pub meaning : meanings old.rows old.columns old.state units ≡ Some new.state
  pub undefined_at : IsUndefinedAt (record old { state = new.state }) rest
  pub waiting : new.waiting ≡ []
  pub undefined : new.undefined ≡ true

-- What receiving a piece does: the text that counts is the waiting part followed by the piece. An undefined screen
-- stays as it is.
pub record IsFed (old : ScreenView) (piece : List ℕ) (new : ScreenView) : Type 0 where
  pub rows : new.rows ≡ old.rows
  pub columns : new.columns ≡ old.columns
  pub charset : new.charset ≡ old.charset
  pub stays : old.undefined ≡ true → new ≡ old
  pub acts : old.undefined ≡ false → GoesOn old (old.waiting ++ piece) new ⊎ Stops old (old.waiting ++ piece) new
