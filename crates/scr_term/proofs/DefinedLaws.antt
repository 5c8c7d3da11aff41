-- Whether an operation is defined depends on the cursor's position and the pen alone.
use Rattle.std.proofs.Common.{◌≡◌, ℕ, ◌-◌, ◌&&◌, ◌||◌, nat_le, nat_lt, Bool, true, false, refl, ◌∙◌, List, Option, Some, None, if◌then◌else◌}
use Rattle.std.specs.Option.{is_some}
use Rattle.scr_cells.specs.LookViews.{LookView}
use Rattle.scr_cells.specs.PenViews.{PenView, is_plain_pen, plain_pen}
use Rattle.scr_term.specs.declared.operations.operation.Op.{Op}
use Rattle.scr_term.specs.declared.operations.operation.Op.TheVariants.{Home, Move, Column, Line, Up, Down, Left, Right, UpBy, DownBy, LeftBy, RightBy, Return, Clear, EraseLine, EraseBelow, EraseChars, InsertLines, DeleteLines, InsertChars, DeleteChars, ScrollUp, ScrollDown, Reset, ExitAttributes, Enter, Set, Fore, Back, Put, Write, Repeat}
use Rattle.scr_term.specs.declared.operations.operation.Spot.{Spot}
use Rattle.scr_term.specs.declared.operations.operation.Spot.TheVariants.{At, Margin}
use Rattle.scr_term.specs.Operations.Profiles.{ProfileView}
use Rattle.scr_term.specs.Operations.States.{TerminalState}
use Rattle.scr_term.specs.Operations.Steps.{act, step}
use Rattle.scr_term.specs.Operations.Texts.{has}
use Rattle.scr_term.specs.Operations.Defined.{DefinedLaws}

abbrev whole : List (List LookView) → Spot → PenView → TerminalState
whole grid spot pen = record { grid = grid; spot = spot; pen = pen }

-- both are something, or both are nothing
record AreAlike {A : Type 0} (o p : Option A) : Type 0 where
  same : is_some o ≡ is_some p

guard : {A : Type 0} (b : Bool) (o p : Option A) → AreAlike o p → AreAlike (if b then o else None) (if b then p else None)
guard true o p e = e
guard false o p e = record { same = refl }

some : {A : Type 0} (x y : A) → AreAlike (Some x) (Some y)
some x y = record { same = refl }

none : {A : Type 0} → AreAlike {A = A} None None
none = record { same = refl }

alike : (profile : ProfileView) (op : Op) (g h : List (List LookView)) (spot : Spot) (pen : PenView) → AreAlike (act profile (whole g spot pen) op) (act profile (whole h spot pen) op)
alike profile Home g h spot pen = guard _ _ _ (guard _ _ _ (some _ _))
alike profile (Move r c) g h spot pen = guard _ _ _ (guard _ _ _ (some _ _))
alike profile (Column k) g h (At r c) pen = guard _ _ _ (guard _ _ _ (some _ _))
alike profile (Line k) g h (At r c) pen = guard _ _ _ (guard _ _ _ (some _ _))
alike profile (Up n) g h (At r c) pen =
    guard (profile.msgr || is_plain_pen pen) _ _ (guard (nat_le n r) _ _ (guard (nat_lt (r - n) profile.rows && nat_lt c profile.columns) _ _ (some (whole g (At (r - n) c) pen) (whole h (At (r - n) c) pen))))
alike profile (Down n) g h (At r c) pen = guard _ _ _ (guard _ _ _ (some _ _))
alike profile (Left n) g h (At r c) pen =
    guard (profile.msgr || is_plain_pen pen) _ _ (guard (nat_le n c) _ _ (guard (nat_lt r profile.rows && nat_lt (c - n) profile.columns) _ _ (some (whole g (At r (c - n)) pen) (whole h (At r (c - n)) pen))))
alike profile (Right n) g h (At r c) pen = guard _ _ _ (guard _ _ _ (some _ _))
alike profile (UpBy n) g h (At r c) pen =
    guard (profile.msgr || is_plain_pen pen) _ _ (guard (nat_le n r) _ _ (guard (nat_lt (r - n) profile.rows && nat_lt c profile.columns) _ _ (some (whole g (At (r - n) c) pen) (whole h (At (r - n) c) pen))))
alike profile (DownBy n) g h (At r c) pen = guard _ _ _ (guard _ _ _ (some _ _))
alike profile (LeftBy n) g h (At r c) pen =
    guard (profile.msgr || is_plain_pen pen) _ _ (guard (nat_le n c) _ _ (guard (nat_lt r profile.rows && nat_lt (c - n) profile.columns) _ _ (some (whole g (At r (c - n)) pen) (whole h (At r (c - n)) pen))))
alike profile (RightBy n) g h (At r c) pen = guard _ _ _ (guard _ _ _ (some _ _))
alike profile Return g h (At r c) pen = guard _ _ _ (guard _ _ _ (some _ _))
alike profile Clear g h spot pen = guard _ _ _ (some _ _)
alike profile EraseLine g h (At r c) pen = guard _ _ _ (some _ _)
alike profile EraseBelow g h (At r c) pen = guard _ _ _ (guard _ _ _ (some _ _))
alike profile (EraseChars k) g h (At r c) pen = guard _ _ _ (guard _ _ _ (some _ _))
alike profile (InsertLines k) g h (At r c) pen = guard _ _ _ (guard _ _ _ (some _ _))
alike profile (DeleteLines k) g h (At r c) pen = guard _ _ _ (guard _ _ _ (some _ _))
alike profile (InsertChars k) g h (At r c) pen = guard _ _ _ (guard _ _ _ (some _ _))
alike profile (DeleteChars k) g h (At r c) pen = guard _ _ _ (guard _ _ _ (some _ _))
alike profile (ScrollUp k) g h (At r c) pen = guard _ _ _ (guard _ _ _ (some _ _))
alike profile (ScrollDown k) g h (At r c) pen = guard _ _ _ (guard _ _ _ (some _ _))
alike profile Reset g h spot pen = some _ _
alike profile ExitAttributes g h spot pen = guard _ _ _ (some _ _)
alike profile (Enter a) g h spot pen = some _ _
alike profile (Set a) g h spot pen = some _ _
alike profile (Fore k) g h (At r c) pen = some _ _
alike profile (Back k) g h (At r c) pen = some _ _
alike profile (Put byte) g h (At r c) pen = some _ _
alike profile (Write code) g h (At r c) pen = some _ _
alike profile (Repeat byte n) g h (At r c) pen = guard _ _ _ (some _ _)
alike profile (Column k) g h (Margin r) pen = guard _ _ _ none
alike profile (Line k) g h (Margin r) pen = guard _ _ _ none
alike profile (Up n) g h (Margin r) pen = guard _ _ _ none
alike profile (Down n) g h (Margin r) pen = guard _ _ _ none
alike profile (Left n) g h (Margin r) pen = guard _ _ _ none
alike profile (Right n) g h (Margin r) pen = guard _ _ _ none
alike profile (UpBy n) g h (Margin r) pen = guard _ _ _ none
alike profile (DownBy n) g h (Margin r) pen = guard _ _ _ none
alike profile (LeftBy n) g h (Margin r) pen = guard _ _ _ none
alike profile (RightBy n) g h (Margin r) pen = guard _ _ _ none
alike profile Return g h (Margin r) pen = guard _ _ _ none
alike profile EraseLine g h (Margin r) pen = guard _ _ _ none
alike profile EraseBelow g h (Margin r) pen = guard _ _ _ none
alike profile (EraseChars k) g h (Margin r) pen = guard _ _ _ none
alike profile (InsertLines k) g h (Margin r) pen = guard _ _ _ none
alike profile (DeleteLines k) g h (Margin r) pen = guard _ _ _ none
alike profile (InsertChars k) g h (Margin r) pen = guard _ _ _ none
alike profile (DeleteChars k) g h (Margin r) pen = guard _ _ _ none
alike profile (ScrollUp k) g h (Margin r) pen = guard _ _ _ none
alike profile (ScrollDown k) g h (Margin r) pen = guard _ _ _ none
alike profile (Fore k) g h (Margin r) pen = none
alike profile (Back k) g h (Margin r) pen = none
alike profile (Put byte) g h (Margin r) pen = none
alike profile (Write code) g h (Margin r) pen = none
alike profile (Repeat byte n) g h (Margin r) pen = none

step_alike : (profile : ProfileView) (op : Op) (a b : TerminalState) → a.spot ≡ b.spot → a.pen ≡ b.pen → is_some (step profile a op) ≡ is_some (step profile b op)
step_alike profile op a b spot pen =
    (guard (has profile op) (act profile a op) (act profile (whole b.grid a.spot a.pen) op) (alike profile op a.grid b.grid a.spot a.pen)).same
    ∙ (λ i. is_some (step profile (whole b.grid (spot i) (pen i)) op))

home_alike : (profile : ProfileView) (a b : TerminalState) → a.pen ≡ b.pen → is_some (step profile a Home) ≡ is_some (step profile b Home)
home_alike profile a b pen = step_alike profile Home a (record a { pen = b.pen }) refl pen ∙ (guard (has profile Home) _ _ (guard _ _ _ (guard _ _ _ (some _ _)))).same

move_alike : (profile : ProfileView) (r c : ℕ) (a b : TerminalState) → a.pen ≡ b.pen → is_some (step profile a (Move r c)) ≡ is_some (step profile b (Move r c))
move_alike profile r c a b pen = step_alike profile (Move r c) a (record a { pen = b.pen }) refl pen ∙ (guard (has profile (Move r c)) _ _ (guard _ _ _ (guard _ _ _ (some _ _)))).same

clear_alike : (profile : ProfileView) (a b : TerminalState) → a.pen ≡ b.pen → is_some (step profile a Clear) ≡ is_some (step profile b Clear)
clear_alike profile a b pen = step_alike profile Clear a (record a { pen = b.pen }) refl pen ∙ (guard (has profile Clear) _ _ (guard _ _ _ (some _ _))).same

reset_alike : (profile : ProfileView) (a b : TerminalState) → is_some (step profile a Reset) ≡ is_some (step profile b Reset)
reset_alike profile a b = (guard (has profile Reset) _ _ (some (record a { pen = plain_pen }) (record b { pen = plain_pen }))).same

pub defined_laws_hold : DefinedLaws
defined_laws_hold = record {
  alike = step_alike;
  home = home_alike;
  move = move_alike;
  clear = clear_alike;
  reset = reset_alike;
}
