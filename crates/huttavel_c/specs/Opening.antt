-- Opening and closing a handle.
use Rattle.std.specs.Prelude.{ℕ, ◌≡◌, ◌⊎◌, ◌==◌, Bool, true, false, [], List, Option, Some, None, MatchOption, if◌then◌else◌}
use Rattle.scr_cells.specs.declared.charsets.Charset.{Charset}
use Rattle.scr_cells.specs.declared.charsets.Charset.TheVariants.{Ascii, Utf8}
use Rattle.scr_cells.specs.declared.sizes.Size.{Size}
use Rattle.scr_term.specs.Operations.Admission.{IsSuitable}
use Rattle.scr_term.specs.declared.operations.profile_faults.ProfileFault.{ProfileFault}
use Rattle.scr_term.specs.declared.operations.profile_faults.ProfileFault.TheVariants as profiles
use Rattle.ti_binary.specs.declared.faults.BinFault.{BinFault}
use Rattle.ti_binary.specs.declared.faults.BinFault.TheVariants as files
use Rattle.ti_caps.specs.Description.{Description}
use Rattle.ti_caps.specs.declared.table.Kind.{Kind}
use Rattle.ti_caps.specs.declared.table.Kind.TheVariants.{Flag, Number, Text}
use Rattle.ti_caps.specs.declared.table.Slot.{Slot}
use Rattle.ti_database.specs.Search.{IsEntry, entry_refusal}
use Rattle.scr_keys.specs.declared.sets.KeySet.TheVariants.{All}
use Rattle.curses.specs.declared.opening.Opening.{Opening}
use Rattle.curses.specs.Adapted.{IsOpenedAdapted, IsUnopenedAdapted, adapted}
use Rattle.curses.specs.declared.faults.OpenFault.{OpenFault}
use Rattle.curses.specs.declared.faults.OpenFault.TheVariants.{KeyTooLong, NoMemory, Profile}
use Rattle.huttavel_c.specs.Numbers.{binary_number}
use Rattle.huttavel_c.specs.Replies.{refused}
use Rattle.curses.specs.Writers.{WriterView, finishes_of}
use Rattle.huttavel_c.specs.Sending.{writer}
use Rattle.huttavel_c.specs.declared.answers.Reply.{Reply}
use Rattle.huttavel_c.specs.declared.sessions.Kept.{Kept}
use Rattle.huttavel_c.specs.declared.sessions.Session.{Session}

-- The number of a kind of capabilities.
abbrev pub kind_number : Kind → ℕ
kind_number Flag = 0
kind_number Number = 1
kind_number Text = 2

-- An error about a capability: its kind and position.
abbrev pub about : ℕ → Kind × Slot → Reply
about fault capability = record { fault = fault; first = kind_number capability.0; second = capability.1.0; third = 0 }

-- An error in an entry.
abbrev pub profile_reply : ProfileFault → Reply
profile_reply (profiles.Unsuitable capability) = about 50 capability
profile_reply profiles.AutoMargin = refused 51
profile_reply (profiles.Missing capability) = about 52 capability
profile_reply profiles.NoSize = refused 53
profile_reply profiles.BadSize = refused 54
profile_reply (profiles.BadString capability) = about 55 capability
profile_reply (profiles.LongString capability) = about 56 capability
profile_reply profiles.NoMemory = refused 4

-- Why a screen cannot be opened.
abbrev pub open_reply : OpenFault → Reply
open_reply (Profile fault) = profile_reply fault
open_reply (KeyTooLong slot) = about 57 (Text, slot)
open_reply NoMemory = refused 4

-- How a session's screen is opened: with all keys, on a terminal with this charset that may be larger than the screen.
abbrev pub asked_in : Charset → Bool → Opening
asked_in charset is_larger = record { charset = charset; keys = All; is_larger = is_larger }

-- The opening that a number is given for.
abbrev pub opening_given : ℕ → Option Opening
opening_given number =
    if number == 0 then Some (asked_in Ascii false)
    else if number == 1 then Some (asked_in Utf8 false)
    else if number == 2 then Some (asked_in Ascii true)
    else if number == 3 then Some (asked_in Utf8 true)
    else None

-- The size that is given: 0 rows and 0 columns stand for the entry's own.
abbrev pub IsSizeGiven : ℕ → ℕ → Option Size → Type 0
IsSizeGiven rows columns None = (rows ≡ 0) × (columns ≡ 0)
IsSizeGiven rows columns (Some size) = (size.rows ≡ rows) × (size.columns ≡ columns)

-- No size is given so.
abbrev pub IsNoSize : ℕ → ℕ → Reply → Type 0
IsNoSize rows columns reply = (reply ≡ refused 54) × ((size : Option Size) → IsSizeGiven rows columns size → ⊥)

-- A size is given.
abbrev pub HasSize : ℕ → ℕ → Type 0
HasSize rows columns = (size : Option Size) × IsSizeGiven rows columns size

-- The bytes are not a compiled entry; or they are one, and memory ran out.
abbrev pub IsNoEntry : List ℕ → Reply → Type 0
IsNoEntry bytes reply =
    (fault : BinFault) × ((entry_refusal bytes ≡ Some fault) ⊎ ((entry_refusal bytes ≡ None) × (fault ≡ files.NoMemory))) × (reply ≡ refused (binary_number fault))

-- The writer of a session that was just opened: no bytes wait, and nothing failed.
abbrev pub fresh_writer : WriterView
fresh_writer = record { taken = Some []; failed_puts = 0; finishes = finishes_of 0 0; is_open = false }

-- A screen just opened with these options on a terminal of this size, on its entry as programs take it.
abbrev pub IsOpenedOn : Opening → Description → Option Size → Session → Type 0
IsOpenedOn asked entry size session =
    IsOpenedAdapted asked (adapted entry) size session.screen × (writer session ≡ fresh_writer)

-- None was opened. Memory runs out only for an entry that is not Unsuitable.
abbrev pub IsUnopenedOn : Description → Option Size → Reply → Type 0
IsUnopenedOn entry size reply =
    (fault : OpenFault) × IsUnopenedAdapted All (adapted entry) size fault × (fault ≡ NoMemory → IsSuitable (adapted entry).entry) × (reply ≡ open_reply fault)

-- A screen just opened on the terminal of an entry that is known so, of the size that is given.
pub record IsOpenedFrom (IsKnown : Description → Type 0) (asked : Opening) (rows columns : ℕ) (session : Session) : Type 0 where
  pub entry : Description
  pub size : Option Size
  pub known : IsKnown entry
  pub given : IsSizeGiven rows columns size
  pub opened : IsOpenedOn asked entry size session

-- No screen of that size can be opened on the entry.
pub record IsUnopenedFrom (IsKnown : Description → Type 0) (rows columns : ℕ) (reply : Reply) : Type 0 where
  pub entry : Description
  pub size : Option Size
  pub known : IsKnown entry
  pub given : IsSizeGiven rows columns size
  pub unopened : IsUnopenedOn entry size reply

-- Why none was opened: no size is given; or one is, and there is no entry, or no screen can be opened on it.
abbrev pub IsClosedFrom : (Description → Type 0) → (Reply → Type 0) → ℕ → ℕ → Reply → Type 0
IsClosedFrom IsKnown IsNone rows columns reply =
    IsNoSize rows columns reply ⊎ (HasSize rows columns × (IsNone reply ⊎ IsUnopenedFrom IsKnown rows columns reply))

-- Memory ran out.
abbrev pub IsNoMemory : Reply → Type 0
IsNoMemory reply = reply ≡ refused 4

-- There is no entry; or there is one, and memory ran out for what a handle holds.
abbrev pub IsNoEntryOrMemory : List ℕ → Reply → Type 0
IsNoEntryOrMemory bytes reply = IsNoEntry bytes reply ⊎ ((entry : Description) × IsEntry bytes entry × IsNoMemory reply)

-- A handle that is open stays as it is. A closed one gets what is made, or stays closed.
abbrev pub Opens : (Kept → Type 0) → (Reply → Type 0) → Option Kept → Option Kept → Reply → Type 0
Opens IsMade IsNotMade (Some old) new reply = (new ≡ Some old) × (reply ≡ refused 2)
Opens IsMade IsNotMade None new reply = MatchOption new (IsNotMade reply) (λ kept. IsMade kept × (reply ≡ refused 0))

-- The same with the opening of a number. A number of none is refused, and the handle stays closed.
abbrev pub OpensAs : (Opening → Kept → Type 0) → (Reply → Type 0) → ℕ → Option Kept → Option Kept → Reply → Type 0
OpensAs IsMade IsNotMade number old new reply =
    MatchOption (opening_given number) (Opens (λ kept. ⊥) (λ given. given ≡ refused 5) old new reply) (λ asked. Opens (IsMade asked) IsNotMade old new reply)

-- The number that closing gives.
abbrev pub close_number : Option Kept → ℕ
close_number None = 1
close_number (Some kept) = 0
