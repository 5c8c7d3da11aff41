-- How the code makes the opening and the closing text: nothing that a reader has to believe.
use Rattle.std.specs.Prelude.{◌≡◌, Option, Some, None, Result, Ok, Err, if◌then◌else◌}
use Rattle.ti_caps.specs.declared.table.Kind.TheVariants.{Text}
use Rattle.ti_caps.specs.declared.table.Slot.{Slot}
use Rattle.ti_param.specs.Tree.{Tree}
use Rattle.scr_term.specs.declared.operations.profile_faults.ProfileFault.{ProfileFault}
use Rattle.scr_term.specs.declared.operations.profile_faults.ProfileFault.TheVariants.{LongString}
use Rattle.scr_term.specs.Operations.Admission.{is_over_bound}
use Rattle.curses.specs.declared.faults.OpenFault.{OpenFault}
use Rattle.curses.specs.declared.faults.OpenFault.TheVariants.{KeyTooLong, NoMemory, Profile}

-- an error is this one, or memory ran out
abbrev pub IsFault : Option ProfileFault → OpenFault → Type 0
IsFault refusal NoMemory = Unit {0}
IsFault refusal (Profile fault) = refusal ≡ Some fault
IsFault refusal (KeyTooLong slot) = ⊥

-- a step goes on where nothing is against it; else it ends with the error that there is, or because memory ran out
abbrev pub Judges : {A : Type 0} → Result A OpenFault → Option ProfileFault → Type 0
Judges (Ok x) refusal = refusal ≡ None
Judges (Err fault) refusal = IsFault refusal fault

-- why the program of a text is not run: it could give too many bytes
abbrev pub long_program : Option Tree → Slot → Option ProfileFault
long_program program slot = if is_over_bound program then Some (LongString (Text, slot)) else None
