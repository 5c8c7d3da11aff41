-- Calls that a screen passes on to its windows.
use Rattle.std.specs.Prelude.{Result, Err, IsOk, ◌≡◌, ◌⊎◌}
use Rattle.scr_windows.specs.declared.faults.WinFault.{WinFault}
use Rattle.scr_windows.specs.declared.faults.WinFault.TheVariants.{NoMemory}
use Rattle.scr_windows.specs.DeskViews.{DeskView}
use Rattle.curses.specs.ScreenStates.{ScreenState}

-- The call does to the windows what its definition says, gives that answer, and changes nothing else of the screen.
abbrev pub OnDesk : {A : Type 0} → ScreenState → ScreenState → A → DeskView × A → Type 0
OnDesk old new answer call = (new ≡ record old { desk = call.0 }) × (answer ≡ call.1)

-- The same; or memory ran out in a call that nothing else refuses, and the whole screen stays as it was.
abbrev pub OnDeskOrNoMemory : {A : Type 0} → ScreenState → ScreenState → Result A WinFault → DeskView × Result A WinFault → Type 0
OnDeskOrNoMemory old new answer call = OnDesk old new answer call ⊎ ((new ≡ old) × (answer ≡ Err NoMemory) × IsOk call.1)
