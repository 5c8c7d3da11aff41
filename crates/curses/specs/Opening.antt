-- Opening a screen on a terminal, and when that is refused. X/Open Curses Issue 7, newterm(), keypad().
use Rattle.std.specs.Prelude.{◌≡◌, ◌≢◌, [], Option, Some, None, false, if◌then◌else◌}
use Rattle.scr_cells.specs.declared.charsets.Charset.TheVariants.{Ascii}
use Rattle.scr_cells.specs.declared.sizes.Size.{Size}
use Rattle.ti_caps.specs.Adapted.{without_moves}
use Rattle.ti_caps.specs.Description.{Description}
use Rattle.ti_caps.specs.declared.slots.TheConstants.{RMCUP, RMKX, SMCUP, SMKX}
use Rattle.ti_caps.specs.declared.table.Slot.{Slot}
use Rattle.scr_term.specs.declared.operations.profile_faults.ProfileFault.{ProfileFault}
use Rattle.scr_term.specs.declared.operations.profile_faults.ProfileFault.TheVariants as profile_faults
use Rattle.scr_term.specs.Operations.Admission.{IsAdmittedAs, refusal}
use Rattle.scr_windows.specs.DeskViews.{first_desk}
use Rattle.scr_virtual.specs.VirtualViews.{blank_virtual}
use Rattle.scr_memory.specs.Memories.{unknown}
use Rattle.scr_keys.specs.declared.sets.KeySet.{KeySet}
use Rattle.scr_keys.specs.declared.sets.KeySet.TheVariants.{Table}
use Rattle.scr_keys.specs.Tables.{AreKeysOf, too_long}
use Rattle.curses.specs.declared.opening.Opening.{Opening}
use Rattle.curses.specs.declared.faults.OpenFault.{OpenFault}
use Rattle.curses.specs.declared.faults.OpenFault.TheVariants.{KeyTooLong, NoMemory, Profile}
use Rattle.curses.specs.ScreenStates.{ScreenState}
use Rattle.curses.specs.Texts.{texts_or_none}

-- How a screen is opened if nothing is asked for: the terminal has ASCII alone and the screen's size, and the keys are
-- those of the capability table.
abbrev pub default_opening : Opening
default_opening = record { charset = Ascii; keys = Table; is_larger = false }

-- The entry by which the terminal is written: without the texts that insert, delete or scroll, if the terminal may be
-- larger than the screen.
abbrev pub served : Opening → Description → Description
served asked entry = if asked.is_larger then without_moves entry else entry

-- A screen just opened with these options on the terminal of an entry: one blank window over the whole screen, a blank
-- virtual screen, nothing known of the terminal, nothing owed, the entry's keys with none pressed, and the opening and
-- closing text, each empty if it is refused.
pub record IsOpenedAs (asked : Opening) (entry : Description) (size : Option Size) (screen : ScreenState) : Type 0 where
  pub profile : IsAdmittedAs asked.charset (served asked entry) size screen.profile
  pub desk : screen.desk ≡ first_desk screen.profile.rows screen.profile.columns
  pub virtual : screen.virtual ≡ blank_virtual screen.profile.rows screen.profile.columns
  pub memory : screen.memory ≡ unknown screen.profile.rows screen.profile.columns
  pub owed : screen.owed ≡ []
  pub keys : AreKeysOf asked.keys entry screen.keys.keys
  pub queue : screen.keys.queue ≡ []
  pub waiting : screen.keys.waiting ≡ []
  pub opening : screen.opening ≡ texts_or_none entry SMCUP SMKX
  pub closing : screen.closing ≡ texts_or_none entry RMKX RMCUP

-- The same if nothing is asked for.
abbrev pub IsOpened : Description → Option Size → ScreenState → Type 0
IsOpened entry size screen = IsOpenedAs default_opening entry size screen

-- The entry gives no profile for a screen of this size; `fault` is the first reason.
pub record IsUnsuited (entry : Description) (size : Option Size) (fault : ProfileFault) : Type 0 where
  pub refused : refusal entry size ≡ Some fault
  pub suits : fault ≢ profile_faults.NoMemory

-- The entry gives a profile, but the text of a key is too long; `slot` is the lowest position of such a key.
abbrev pub HasLongKey : KeySet → Description → Option Size → Slot → Type 0
HasLongKey keys entry size slot = (refusal entry size ≡ None) × (too_long keys entry ≡ Some slot.0)

-- Why no screen with these keys was opened: one of these reasons, or memory ran out.
abbrev pub IsUnopenedWith : KeySet → Description → Option Size → OpenFault → Type 0
IsUnopenedWith keys entry size NoMemory = Unit {0}
IsUnopenedWith keys entry size (Profile fault) = IsUnsuited entry size fault
IsUnopenedWith keys entry size (KeyTooLong slot) = HasLongKey keys entry size slot

-- The same if nothing is asked for.
abbrev pub IsUnopened : Description → Option Size → OpenFault → Type 0
IsUnopened entry size fault = IsUnopenedWith Table entry size fault
