-- Calls of a screen about its keyboard. X/Open Curses Issue 7, getch(), notimeout().
use Rattle.std.specs.Prelude.{◌≡◌}
use Rattle.scr_keys.specs.Readers.{ReaderView}
use Rattle.curses.specs.ScreenStates.{ScreenState}

-- The call does to the key reader what its definition says, gives that answer, and changes nothing else of the screen.
abbrev pub OnKeys : {A : Type 0} → ScreenState → ScreenState → A → ReaderView × A → Type 0
OnKeys old new answer call = (new ≡ record old { keys = call.0 }) × (answer ≡ call.1)
