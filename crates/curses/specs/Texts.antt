-- What a program sends to a terminal before its first update and after its last. terminfo(5), 'Cursor Motions'
-- (enter_ca_mode, exit_ca_mode) and 'Keypad and Function Keys' (keypad_xmit, keypad_local).
use Rattle.std.specs.Prelude.{◌≡◌, ◌||◌, true, ℕ, List, [], ◌∷◌, ◌++◌, Option, Some, None, if◌then◌else◌}
use Rattle.std.specs.Option.{is_none, is_some}
use Rattle.ti_caps.specs.Description.{Description, text_at}
use Rattle.ti_caps.specs.declared.slots.TheConstants.{RMCUP, RMKX, SMCUP, SMKX}
use Rattle.ti_caps.specs.declared.table.Kind.TheVariants.{Text}
use Rattle.ti_caps.specs.declared.table.Slot.{Slot}
use Rattle.scr_term.specs.declared.operations.profile_faults.ProfileFault.{ProfileFault}
use Rattle.scr_term.specs.declared.operations.profile_faults.ProfileFault.TheVariants.{LongString}
use Rattle.scr_term.specs.Operations.Admission.{bad_text, first_some, is_over_bound, program_at}
use Rattle.scr_term.specs.Operations.Texts.{nine, written}
use Rattle.curses.specs.declared.faults.OpenFault.{OpenFault}
use Rattle.curses.specs.declared.faults.OpenFault.TheVariants.{KeyTooLong, NoMemory, Profile}

-- What the text at a position sends when all parameters and variables are 0; nothing if it is absent.
abbrev pub bytes_at : Description → Slot → List ℕ
bytes_at entry slot = written (program_at entry slot) (nine [])

-- The text could send more than 1,024 bytes.
abbrev pub long_text : Description → Slot → Option ProfileFault
long_text entry slot = if is_over_bound (program_at entry slot) then Some (LongString (Text, slot)) else None

-- The first reason why two texts cannot be sent; none if both can.
abbrev pub texts_refusal : Description → Slot → Slot → Option ProfileFault
texts_refusal entry first second =
    first_some (bad_text entry first ∷ bad_text entry second ∷ long_text entry first ∷ long_text entry second ∷ [])

-- The bytes are the first text followed by the second, and neither is refused.
pub record AreTexts (entry : Description) (first second : Slot) (bytes : List ℕ) : Type 0 where
  pub good : texts_refusal entry first second ≡ None
  pub texts : bytes ≡ bytes_at entry first ++ bytes_at entry second

-- Why the two texts were not made: the first reason, or memory ran out.
abbrev pub AreRefused : Description → Slot → Slot → OpenFault → Type 0
AreRefused entry first second NoMemory = Unit {0}
AreRefused entry first second (Profile fault) = texts_refusal entry first second ≡ Some fault
AreRefused entry first second (KeyTooLong slot) = ⊥

-- The entry has one of the two texts: without one nothing is allocated.
abbrev pub HasEither : Description → Slot → Slot → Type 0
HasEither entry first second = (is_some (text_at entry first.0) || is_some (text_at entry second.0)) ≡ true

-- The opening text, which begins a program's use of the screen: `smcup`, then `smkx`.
abbrev pub IsOpeningText : Description → List ℕ → Type 0
IsOpeningText entry bytes = AreTexts entry SMCUP SMKX bytes

-- Why there is no opening text.
abbrev pub IsNoOpeningText : Description → OpenFault → Type 0
IsNoOpeningText entry fault = AreRefused entry SMCUP SMKX fault

-- The closing text, which ends it: `rmkx`, then `rmcup`.
abbrev pub IsClosingText : Description → List ℕ → Type 0
IsClosingText entry bytes = AreTexts entry RMKX RMCUP bytes

-- Why there is no closing text.
abbrev pub IsNoClosingText : Description → OpenFault → Type 0
IsNoClosingText entry fault = AreRefused entry RMKX RMCUP fault

-- ---- what a screen sends

-- The first text followed by the second, or nothing if either is refused.
abbrev pub texts_or_none : Description → Slot → Slot → List ℕ
texts_or_none entry first second = if is_none (texts_refusal entry first second) then bytes_at entry first ++ bytes_at entry second else []
