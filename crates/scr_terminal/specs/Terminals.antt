-- An emulated terminal: its size and its state. terminfo(5), 'Basic Capabilities'.
use Rattle.std.specs.Prelude.{ℕ, Option, unwrap_or}
use Rattle.scr_cells.specs.declared.charsets.Charset.TheVariants.{Utf8}
use Rattle.scr_cells.specs.PictureViews.{IsSize}
use Rattle.scr_term.specs.Operations.Abilities.{full_abilities}
use Rattle.scr_term.specs.Operations.States.{TerminalState, IsState, blank_state}

-- The size of the emulated terminal's screen, and its state.
pub record TerminalView : Type 0 where
  pub rows : ℕ
  pub columns : ℕ
  pub state : TerminalState

-- The emulated terminal has a valid size and a state of that size; it shows every attribute, and colours.
pub record IsTerminal (terminal : TerminalView) : Type 0 where
  pub size : IsSize terminal.rows terminal.columns
  pub state : IsState (full_abilities Utf8 terminal.rows terminal.columns) terminal.state

-- Blanks everywhere, the cursor in the first place, no attribute on, default colours.
abbrev pub blank_terminal : ℕ → ℕ → TerminalView
blank_terminal rows columns = record { rows = rows; columns = columns; state = blank_state rows columns }

-- The emulated terminal in its next state, or unchanged if there is none.
abbrev pub gone_on : TerminalView → Option TerminalState → TerminalView
gone_on terminal next = record terminal { state = unwrap_or next terminal.state }
