-- What holds of compiling by its definition alone.
use Rattle.std.specs.Prelude.{◌≡◌, ℕ, List}
use Rattle.ti_compile.specs.declared.compiler.Compiled.{Compiled}
use Rattle.ti_compile.specs.declared.faults.TicFault.{TicFault}
use Rattle.ti_compile.specs.Compiling.{IsCompiled, IsFaulty}

-- A source is compiled to at most one thing.
abbrev pub CompileOnce : Type 0
CompileOnce = (text : List ℕ) (c d : Compiled) → IsCompiled text c → IsCompiled text d → c ≡ d

-- A source has at most one fault.
abbrev pub FaultyOnce : Type 0
FaultyOnce = (text : List ℕ) (f g : TicFault) → IsFaulty text f → IsFaulty text g → f ≡ g

-- A source cannot both be compiled and be faulty.
abbrev pub CompiledOrFaulty : Type 0
CompiledOrFaulty = (text : List ℕ) (c : Compiled) (fault : TicFault) → IsCompiled text c → IsFaulty text fault → ⊥
