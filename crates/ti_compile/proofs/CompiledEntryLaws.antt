-- What one entry is compiled to.
use Rattle.std.proofs.Common.{◌≡◌, ◌∙◌, ℕ, List, [], ◌∷◌, length, map, ap, refl}
use Rattle.ti_binary.specs.Canonical.{canonical}
use Rattle.ti_caps.specs.Description.{Description}
use Rattle.ti_caps.specs.Names.{first_name, reference_names}
use Rattle.ti_compile.specs.declared.compiled_entry.CompiledEntry.{CompiledEntry}
use Rattle.ti_compile.specs.Compiling.{files_of, files_under, size_of}
use Rattle.ti_compile.specs.EntryCompiling.{IsCompiledOf}
use Rattle.ti_compile.specs.FileNames.{path_of}

under-paths : (names : List (List ℕ)) (bytes : List ℕ) → map (λ path. (path, bytes)) (map path_of names) ≡ files_under names bytes
under-paths [] bytes = refl
under-paths (n ∷ ns) bytes = ap (λ fs. (path_of n, bytes) ∷ fs) (under-paths ns bytes)

-- its files are its bytes under its paths
pub compiled-of : (d : Description) (c : CompiledEntry) (names : List (List ℕ)) → names ≡ reference_names d.names → c.paths ≡ map path_of names → c.bytes ≡ canonical d → c.name ≡ first_name d.names → IsCompiledOf d c
unfolding files_of size_of
compiled-of d c names named paths bytes name = record {
  files = ap (λ ps. map (λ path. (path, c.bytes)) ps) paths ∙ under-paths names c.bytes ∙ ap (files_under names) bytes ∙ ap (λ ns. files_under ns (canonical d)) named;
  size = ap (λ n. (n, length c.bytes)) name ∙ ap (λ bs. (first_name d.names, length bs)) bytes;
}
