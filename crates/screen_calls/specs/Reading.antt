-- What is read of a line, and whether it is refused.
use Rattle.std.specs.Prelude.{⊤, Option, Some, None, Result, Ok, Err}
use Rattle.screen_calls.specs.declared.call_faults.CallFault.{CallFault}
use Rattle.screen_calls.specs.declared.call_faults.CallFault.TheVariants.{Bad, NoMemory}

-- what a result has, if it is no refusal
abbrev pub read : {A B : Type 0} → Result A B → Option A
read (Ok a) = Some a
read (Err b) = None

-- a line is refused for what it says, and not for want of memory
abbrev pub IsRefused : {A : Type 0} → Result A CallFault → Type 0
IsRefused (Err (Bad reason)) = ⊤
IsRefused result = ⊥
