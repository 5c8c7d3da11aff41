-- The faults of the layers below as faults of the compiler. Running out of memory is always NoMemory.
use Rattle.std.specs.Prelude.{◌≡◌}
use Rattle.ti_binary.specs.declared.encoder.EncFault.{EncFault}
use Rattle.ti_binary.specs.declared.encoder.EncFault.TheVariants as encoding
use Rattle.ti_binary.specs.declared.faults.BinFault.{BinFault}
use Rattle.ti_binary.specs.declared.faults.BinFault.TheVariants as decoding
use Rattle.ti_source.specs.declared.faults.SourceFault.{SourceFault}
use Rattle.ti_source.specs.declared.faults.SourceFault.TheVariants as source
use Rattle.ti_compile.specs.declared.faults.TicFault.{TicFault}
use Rattle.ti_compile.specs.declared.faults.TicFault.TheVariants.{Source, Encode, Decode, NoMemory}

-- A fault of reading or resolving a source.
abbrev pub of_source : SourceFault → TicFault
of_source source.NoMemory = NoMemory
of_source fault = Source fault

-- A fault of writing a compiled file.
abbrev pub of_encoding : EncFault → TicFault
of_encoding encoding.NoMemory = NoMemory
of_encoding fault = Encode fault

-- A fault of reading a compiled file.
abbrev pub of_decoding : BinFault → TicFault
of_decoding decoding.NoMemory = NoMemory
of_decoding fault = Decode fault

-- No fault but NoMemory says that memory ran out.
abbrev pub IsPlain : TicFault → Type 0
IsPlain (Source fault) = fault ≡ source.NoMemory → ⊥
IsPlain (Encode fault) = fault ≡ encoding.NoMemory → ⊥
IsPlain (Decode fault) = fault ≡ decoding.NoMemory → ⊥
IsPlain _ = Unit {0}
