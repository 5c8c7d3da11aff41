-- Screens on an entry as programs take it: colours first, and without a last column that would scroll. terminfo(5),
-- 'Color Handling', 'Basic Capabilities'.
use Rattle.std.specs.Prelude.{◌≡◌, ◌+◌, ◌⊎◌, ◌&&◌, Bool, true, false, Option, Some, None, is_some, if◌then◌else◌}
use Rattle.scr_cells.specs.declared.sizes.Size.{Size}
use Rattle.ti_caps.specs.Adapted.{colours_first, without_last_column, wraps_at_once}
use Rattle.ti_caps.specs.Description.{Description}
use Rattle.ti_caps.specs.declared.slots.TheConstants.{OP, SETAB, SETAF, SGR0}
use Rattle.scr_term.specs.Operations.Admission.{sent_at}
use Rattle.scr_term.specs.declared.operations.profile_faults.ProfileFault.TheVariants.{NoSize}
use Rattle.scr_keys.specs.declared.sets.KeySet.{KeySet}
use Rattle.curses.specs.declared.opening.Opening.{Opening}
use Rattle.curses.specs.declared.faults.OpenFault.{OpenFault}
use Rattle.curses.specs.declared.faults.OpenFault.TheVariants.{Profile}
use Rattle.curses.specs.Opening.{IsOpenedAs, IsUnopenedWith}
use Rattle.curses.specs.ScreenStates.{ScreenState}

-- An entry, and whether the last column was left out.
pub record AdaptedView : Type 0 where
  pub entry : Description
  pub is_narrow : Bool

-- Something is sent for each text that colours take; one of padding alone sends nothing.
abbrev pub sends_colours : Description → Bool
sends_colours d = is_some (sent_at d SETAF) && (is_some (sent_at d SETAB) && (is_some (sent_at d OP) && is_some (sent_at d SGR0)))

-- The entry with colours first, if colours come of it.
abbrev pub coloured : Description → Description
coloured d = if sends_colours d then colours_first d else d

-- The entry as programs take it.
abbrev pub adapted : Description → AdaptedView
adapted entry = record { entry = coloured (without_last_column entry); is_narrow = wraps_at_once entry }

-- The size of a screen on a terminal of this size: where its last column is left out one column less, if one is left.
abbrev pub IsSizeOn : Bool → Size → Option Size → Type 0
IsSizeOn false size result = result ≡ Some size
IsSizeOn true size None = size.columns ≡ 1
IsSizeOn true size (Some narrow) = (narrow.rows ≡ size.rows) × (narrow.columns + 1 ≡ size.columns)

-- The same for a size that may be given: none is none, and no size on a terminal is none for a screen.
abbrev pub IsAnySizeOn : Bool → Option Size → Option Size → Type 0
IsAnySizeOn is_narrow None None = Unit {0}
IsAnySizeOn is_narrow None (Some size) = ⊥
IsAnySizeOn is_narrow (Some given) None = ⊥
IsAnySizeOn is_narrow (Some given) (Some size) = IsSizeOn is_narrow given (Some size)

-- Nothing is left of the size that is given.
abbrev pub IsNothingLeft : Bool → Option Size → Type 0
IsNothingLeft is_narrow None = ⊥
IsNothingLeft is_narrow (Some given) = IsSizeOn is_narrow given None

-- A screen just opened on the entry, on a terminal of this size.
pub record IsOpenedAdapted (asked : Opening) (adapted : AdaptedView) (given : Option Size) (screen : ScreenState) : Type 0 where
  pub size : Option Size
  pub sized : IsAnySizeOn adapted.is_narrow given size
  pub opened : IsOpenedAs asked adapted.entry size screen

-- Why none with these keys was: the only column is left out, or it is as with the entry.
abbrev pub IsUnopenedAdapted : KeySet → AdaptedView → Option Size → OpenFault → Type 0
IsUnopenedAdapted keys adapted given fault =
    (IsNothingLeft adapted.is_narrow given × (fault ≡ Profile NoSize))
    ⊎ ((size : Option Size) × IsAnySizeOn adapted.is_narrow given size × IsUnopenedWith keys adapted.entry size fault)
