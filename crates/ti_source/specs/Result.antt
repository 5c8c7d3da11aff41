-- Results of reading: the next step, and what a call that takes memory answers.
use Rattle.std.specs.Prelude.{◌≡◌, ◌⊎◌, Result, Ok, Err}
use Rattle.ti_source.specs.declared.faults.SourceFault.{SourceFault}
use Rattle.ti_source.specs.declared.faults.SourceFault.TheVariants.{NoMemory}

-- What follows a step that may fail.
infixl 10 ◌>>=◌
abbrev pub ◌>>=◌ : {A B : Type 0} → Result A SourceFault → (A → Result B SourceFault) → Result B SourceFault
(Ok x) >>= f = f x
(Err e) >>= f = Err e

-- Memory ran out, or this is the fault wanted.
abbrev pub Fails : {A : Type 0} → SourceFault → Result A SourceFault → Type 0
Fails e wanted = (e ≡ NoMemory) ⊎ (wanted ≡ Err e)

-- The answer is the one wanted, unless memory ran out.
abbrev pub Gives : {A : Type 0} → Result A SourceFault → Result A SourceFault → Type 0
Gives (Ok x) wanted = wanted ≡ Ok x
Gives (Err e) wanted = Fails e wanted

-- The same for a call that changes a value in place.
abbrev pub Becomes : {Done A : Type 0} → Result Done SourceFault → Result A SourceFault → A → Type 0
Becomes (Ok done) wanted new = wanted ≡ Ok new
Becomes (Err e) wanted new = Fails e wanted

-- Memory ran out, or the fault is one of the known ones.
abbrev pub Stops : SourceFault → Type 0 → Type 0
Stops fault Known = (fault ≡ NoMemory) ⊎ Known
