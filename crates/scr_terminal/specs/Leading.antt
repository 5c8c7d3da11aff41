-- Where an operation that changes no cell leads: to another position or another pen, whatever the screen shows.
-- terminfo(5), 'Cursor Motions', 'Highlighting' and 'Color Handling'.
use Rattle.std.specs.Prelude.{◌≡◌, Bool, true, false, None, Some}
use Rattle.scr_cells.specs.PenViews.{PenView}
use Rattle.scr_term.specs.Operations.Profiles.{ProfileView}
use Rattle.scr_term.specs.Operations.States.{TerminalState}
use Rattle.scr_term.specs.Operations.Steps.{step}
use Rattle.scr_term.specs.declared.operations.operation.Op.{Op}
use Rattle.scr_term.specs.declared.operations.operation.Op.TheVariants.{Home, Move, Column, Line, Up, Down, Left, Right, UpBy, DownBy, LeftBy, RightBy, Return, Reset, ExitAttributes, Enter, Set, Fore, Back}
use Rattle.scr_term.specs.declared.operations.operation.Spot.{Spot}

-- From every state with this position and pen, the operation is defined and changes only the position, to `next`.
abbrev pub GoesTo : ProfileView → Spot → PenView → Op → Spot → Type 0
GoesTo profile spot pen op next =
    (state : TerminalState) → state.spot ≡ spot → state.pen ≡ pen → step profile state op ≡ Some (record state { spot = next })

-- From every state with this position and pen, the operation is defined and changes only the pen, to `next`.
abbrev pub TurnsTo : ProfileView → Spot → PenView → Op → PenView → Type 0
TurnsTo profile spot pen op next =
    (state : TerminalState) → state.spot ≡ spot → state.pen ≡ pen → step profile state op ≡ Some (record state { pen = next })

-- The operation is a motion of the cursor.
abbrev pub is_motion : Op → Bool
is_motion Home = true
is_motion (Move r c) = true
is_motion (Column c) = true
is_motion (Line r) = true
is_motion (Up n) = true
is_motion (Down n) = true
is_motion (Left n) = true
is_motion (Right n) = true
is_motion (UpBy n) = true
is_motion (DownBy n) = true
is_motion (LeftBy n) = true
is_motion (RightBy n) = true
is_motion Return = true
is_motion op = false

-- The operation turns attributes on or off, or sets a colour.
abbrev pub is_turn : Op → Bool
is_turn Reset = true
is_turn ExitAttributes = true
is_turn (Enter a) = true
is_turn (Set a) = true
is_turn (Fore n) = true
is_turn (Back n) = true
is_turn op = false

-- From no state with this position and pen is the operation defined.
abbrev pub IsUndefinedAt : ProfileView → Spot → PenView → Op → Type 0
IsUndefinedAt profile spot pen op = (state : TerminalState) → state.spot ≡ spot → state.pen ≡ pen → step profile state op ≡ None
