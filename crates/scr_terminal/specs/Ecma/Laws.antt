-- The laws of ECMA-48 texts and of the screens that receive them.
use Rattle.std.specs.Prelude.{ℕ, ◌≡◌, ◌++◌, false, List, [], ◌⊎◌}
use Rattle.scr_cells.specs.declared.charsets.Charset.{Charset}
use Rattle.scr_term.specs.Operations.States.{TerminalState}
use Rattle.scr_terminal.specs.Ecma.Screens.{ScreenView, IsScreen, IsFed}
use Rattle.scr_term.specs.Ecma.Units.{EcmaUnit, IsDivision, IsWaiting}
use Rattle.scr_term.specs.Ecma.Meanings.{Leads}

-- A text can be divided in at most one way into units and a rest that is empty or the beginning of a unit.
abbrev pub HasOneDivision : Type 0
HasOneDivision =
    (charset : Charset) (text : List ℕ) (units others : List EcmaUnit) (rest other : List ℕ)
    → IsDivision charset text units rest → (rest ≡ []) ⊎ IsWaiting charset rest
    → IsDivision charset text others other → (other ≡ []) ⊎ IsWaiting charset other
    → (units ≡ others) × (rest ≡ other)

-- What a screen is after a piece is determined by the piece, and does not depend on how a text was cut into pieces.
pub record PiecesDoNotMatter : Type 0 where
  pub one : (old new other : ScreenView) (piece : List ℕ) → IsScreen old → IsFed old piece new → IsFed old piece other → new ≡ other
  pub cut : (old between new : ScreenView) (piece next : List ℕ) → IsScreen old → IsFed old piece between → IsFed between next new → IsFed old (piece ++ next) new

-- If a text is whole units that lead from the screen's state to another, the screen is in that state after receiving
-- it.
abbrev pub ScreensFollowTexts : Type 0
ScreensFollowTexts =
    (old new : ScreenView) (text : List ℕ) (state : TerminalState)
    → IsScreen old → old.undefined ≡ false → old.waiting ≡ []
    → Leads old.charset old.rows old.columns old.state text state
    → IsFed old text new → new ≡ record old { state = state }
