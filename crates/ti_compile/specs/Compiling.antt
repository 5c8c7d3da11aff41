-- What a source is compiled to, and why one is not (tic(1)).
use Rattle.std.specs.Prelude.{◌≡◌, ◌⊎◌, ℕ, ◌+◌, List, ◌∷◌, ◌++◌, Option, Some, None, Ok, Err, length, map, is_none, nat_lt, true, if◌then◌else◌}
use Rattle.std.specs.List.{flat_map, list_all}
use Rattle.std.specs.Option.{option_or}
use Rattle.ti_caps.specs.Names.{first_name, reference_names}
use Rattle.ti_caps.specs.Description.{Description}
use Rattle.ti_binary.specs.Canonical.{canonical}
use Rattle.ti_binary.specs.declared.encoder.EncFault.TheVariants.{NamesTooLong, TooLarge}
use Rattle.ti_source.specs.declared.faults.SourceFault.{SourceFault}
use Rattle.ti_source.specs.Described.{Described}
use Rattle.ti_source.specs.Reading.Sources.{Whole, source_of}
use Rattle.ti_source.specs.Resolving.Uses.{Resolve, Resolved, Unresolved}
use Rattle.ti_compile.specs.declared.compiler.Compiled.{Compiled}
use Rattle.ti_compile.specs.declared.faults.TicFault.{TicFault}
use Rattle.ti_compile.specs.declared.faults.TicFault.TheVariants.{Source, Encode, BadFileName}
use Rattle.ti_compile.specs.FileNames.{is_file_name, path_of}

-- The names by which the entries are listed, in order.
abbrev pub names_of : List Described → List (List ℕ)
names_of entries = map (λ e. first_name e.names) entries

-- The same bytes under the path of each of these names.
abbrev pub files_under : List (List ℕ) → List ℕ → List (List ℕ × List ℕ)
files_under names bytes = map (λ name. (path_of name, bytes)) names

-- The files of an entry: its canonical form under each of its reference names.
unfoldable pub files_of : Description → List (List ℕ × List ℕ)
files_of entry = files_under (reference_names entry.names) (canonical entry)

-- An entry's name, and the size that each of its files has.
unfoldable pub size_of : Description → List ℕ × ℕ
size_of entry = (first_name entry.names, length (canonical entry))

-- Why an entry cannot be written: it exceeds the limits of a compiled file.
abbrev pub encoding_refusal : Description → Option TicFault
encoding_refusal entry =
    if nat_lt 128 (length entry.names + 1) then Some (Encode NamesTooLong) else
    (if nat_lt 4096 (length (canonical entry)) then Some (Encode TooLarge) else None)

-- One of its reference names cannot be a file name.
abbrev pub name_refusal : Description → Option TicFault
name_refusal entry = if list_all is_file_name (reference_names entry.names) then None else Some BadFileName

-- Why an entry has no files, if it has none.
unfoldable pub refusal_of : Description → Option TicFault
refusal_of entry = option_or (encoding_refusal entry) (name_refusal entry)

-- These entries resolve to descriptions, each of which has files.
pub record AreCompiled (entries : List Described) (names : List (List ℕ)) (ds : List Description) : Type 0 where
  pub resolved : Resolve entries names ds
  pub good : list_all (λ d. is_none (refusal_of d)) ds ≡ true

-- The entry does not resolve, or what it resolves to has no files.
abbrev pub Refused : List Described → List ℕ → TicFault → Type 0
Refused entries name fault =
    ((f : SourceFault) × Unresolved entries name f × (fault ≡ Source f))
    ⊎ ((d : Description) × Resolved entries name d × (refusal_of d ≡ Some fault))

-- The first of these entries that is refused; those before it are compiled.
pub record IsFirstRefused (entries : List Described) (names : List (List ℕ)) (fault : TicFault) : Type 0 where
  pub before : List (List ℕ)
  pub name : List ℕ
  pub after : List (List ℕ)
  pub split : names ≡ before ++ name ∷ after
  pub ds : List Description
  pub compiled : AreCompiled entries before ds
  pub refused : Refused entries name fault

-- What a source is compiled to: the files and sizes of its resolved entries, in order, and the notes on it.
abbrev pub IsCompiled : List ℕ → Compiled → Type 0
IsCompiled text compiled =
    (source : Whole) × (source_of text ≡ Ok source)
    × ((ds : List Description) × AreCompiled source.entries (names_of source.entries) ds
    × (compiled ≡ record { files = flat_map files_of ds; sizes = map size_of ds; notes = source.notes }))

-- The fault of a source: that of reading it, or else of the first entry that is refused.
abbrev pub IsFaulty : List ℕ → TicFault → Type 0
IsFaulty text fault =
    ((f : SourceFault) × (source_of text ≡ Err f) × (fault ≡ Source f))
    ⊎ ((source : Whole) × (source_of text ≡ Ok source) × IsFirstRefused source.entries (names_of source.entries) fault)

-- The source can be compiled.
abbrev pub CanBeCompiled : List ℕ → Type 0
CanBeCompiled text = (compiled : Compiled) × IsCompiled text compiled
