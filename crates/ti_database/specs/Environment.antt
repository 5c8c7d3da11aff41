-- The variables by which entries are looked for, as the environment says them. terminfo(5), 'Fetching Compiled
-- Descriptions'.
use Rattle.std.specs.Prelude.{ℕ, List, Option, Some, None, Result, Ok, Err, String, string_bytes}
use Rattle.std.specs.declared.alloc.Global.{Global}
use Rattle.std.specs.declared.env.VarError.{VarError}
use Rattle.std.specs.declared.env.VarError.TheVariants.{OutOfMemory}
use Rattle.ti_database.specs.declared.faults.DatabaseFault.{DatabaseFault}
use Rattle.ti_database.specs.declared.faults.DatabaseFault.TheVariants.{NoMemory}
use Rattle.ti_database.specs.declared.folders.Variables.{Variables}

-- What a variable says: nothing where it is not set, or not UTF-8. Memory for its text may have run out.
abbrev pub variable_said : Result (String Global) VarError → Result (Option (List ℕ)) DatabaseFault
variable_said (Ok text) = Ok (Some (string_bytes text))
variable_said (Err OutOfMemory) = Err NoMemory
variable_said (Err error) = Ok None

-- Goes on with what a variable says, unless memory ran out.
abbrev pub and_said : {A : Type 0} → Result (Option (List ℕ)) DatabaseFault → (Option (List ℕ) → Result A DatabaseFault) → Result A DatabaseFault
and_said (Ok said) next = next said
and_said (Err fault) next = Err fault

-- The three variables, where memory ran out for none.
abbrev pub variables_said : Result (String Global) VarError → Result (String Global) VarError → Result (String Global) VarError → Result Variables DatabaseFault
variables_said terminfo home terminfo_dirs =
    and_said (variable_said terminfo) (λ first. and_said (variable_said home) (λ second. and_said (variable_said terminfo_dirs) (λ third.
    Ok (record { terminfo = first; home = second; terminfo_dirs = third }))))
