-- What is compiled of some entries.
use Rattle.std.specs.Prelude.{List, [], ◌∷◌, ◌++◌, map}
use Rattle.std.specs.List.{flat_map}
use Rattle.ti_caps.specs.Description.{Description}
use Rattle.ti_compile.specs.declared.written.Written.{Written}
use Rattle.ti_compile.specs.Compiling.{files_of, size_of}

-- The files and sizes of these entries.
abbrev pub written_of : List Description → Written
written_of ds = record { files = flat_map files_of ds; sizes = map size_of ds }

-- The files and sizes, with those of one more entry.
abbrev pub with_entry : Description → Written → Written
with_entry d written = record { files = written.files ++ files_of d; sizes = written.sizes ++ size_of d ∷ [] }
