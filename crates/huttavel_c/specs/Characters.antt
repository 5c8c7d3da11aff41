-- Calls on windows with characters that C gives by their codes.
use Rattle.std.specs.Prelude.{ℕ, ◌≡◌, List, [], ◌∷◌, Bool, true, Result, if◌then◌else◌}
use Rattle.scr_cells.specs.Characters.{is_character}
use Rattle.scr_windows.specs.Calls.Adding.{line_across_of_call, line_down_of_call}
use Rattle.scr_windows.specs.DeskViews.{DeskView}
use Rattle.scr_windows.specs.declared.faults.WinFault.{WinFault}
use Rattle.curses.specs.ScreenStates.{ScreenState}
use Rattle.huttavel_c.specs.declared.calls.characters.Border.{Border}
use Rattle.huttavel_c.specs.declared.sessions.Session.{Session}

-- A call on the screen, and how its answer is shown. Nothing else of the session changes.
abbrev pub Answers : {A B : Type 0} → (ScreenState → ScreenState × A) → (A → B) → Session → Session → B → Type 0
Answers call shown old new answer = (new ≡ record old { screen = (call old.screen).0 }) × (answer ≡ shown (call old.screen).1)

-- Both are the same character, or none.
pub record AreAlike (one other : ℕ) : Type 0 where
  pub both : is_character one ≡ is_character other
  pub same : is_character other ≡ true → one ≡ other

-- A line of a character, down or to the right.
abbrev pub line_of_call : Bool → DeskView → ℕ → ℕ → ℕ → DeskView × Result (Unit {0}) WinFault
line_of_call down desk window code n = if down then line_down_of_call desk window code n else line_across_of_call desk window code n

-- The eight characters of a border, in the order of border_set().
abbrev pub list_of : Border → List ℕ
list_of b = b.left ∷ b.right ∷ b.top ∷ b.bottom ∷ b.top_left ∷ b.top_right ∷ b.bottom_left ∷ b.bottom_right ∷ []
