-- The files and the size of one entry.
use Rattle.std.proofs.Common.{◌≡◌, ◌∙◌, ℕ, true, false, List, [], ◌∷◌, ◌++◌, Some, None, length, refl, ap}
use Rattle.std.specs.List.{list_all}
use Rattle.ti_caps.specs.Description.{Description}
use Rattle.ti_caps.specs.Names.{first_name, reference_names}
use Rattle.ti_binary.specs.Canonical.{canonical}
use Rattle.ti_compile.specs.declared.faults.TicFault.{TicFault}
use Rattle.ti_compile.specs.declared.faults.TicFault.TheVariants.{BadFileName}
use Rattle.ti_compile.specs.declared.written.Written.{Written}
use Rattle.ti_compile.specs.Compiling.{encoding_refusal, files_of, files_under, refusal_of, size_of}
use Rattle.ti_compile.specs.FileNames.{is_file_name}
use Rattle.ti_compile.specs.Progress.{with_entry}

-- an entry that is not written, one whose names no file can have, and one that has files
pub refused-writing : (d : Description) (fault : TicFault) → encoding_refusal d ≡ Some fault → refusal_of d ≡ Some fault
unfolding refusal_of
refused-writing d fault is = rw is refl

pub refused-names : (d : Description) → encoding_refusal d ≡ None → list_all is_file_name (reference_names d.names) ≡ false → refusal_of d ≡ Some BadFileName
unfolding refusal_of
refused-names d none bad = rw (none, bad) refl

pub not-refused : (d : Description) → encoding_refusal d ≡ None → list_all is_file_name (reference_names d.names) ≡ true → refusal_of d ≡ None
unfolding refusal_of
not-refused d none good = rw (none, good) refl

-- what is written with one entry more
pub put-is : (d : Description) (old : Written) (files : List (List ℕ × List ℕ)) (sizes : List (List ℕ × ℕ)) (names : List (List ℕ)) (bytes : List ℕ)
    → names ≡ reference_names d.names → bytes ≡ canonical d
    → files ≡ old.files ++ files_under names bytes → sizes ≡ old.sizes ++ (first_name d.names, length bytes) ∷ []
    → ◌≡◌ {A = Written} (record { files = files; sizes = sizes }) (with_entry d old)
unfolding files_of size_of
put-is d old files sizes names bytes names-is bytes-is files-is sizes-is = λ i. record {
  files = (files-is ∙ ap (λ ns. old.files ++ files_under ns bytes) names-is ∙ ap (λ bs. old.files ++ files_under (reference_names d.names) bs) bytes-is) i;
  sizes = (sizes-is ∙ ap (λ bs. old.sizes ++ (first_name d.names, length bs) ∷ []) bytes-is) i;
}
