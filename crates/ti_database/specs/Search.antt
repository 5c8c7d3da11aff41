-- What a search among files finds.
use Rattle.std.specs.Prelude.{ℕ, ◌≡◌, ◌==◌, ◌&&◌, Bool, false, List, ◌∷◌, take, slice_get, option_map, Option, Some, None, if◌then◌else◌}
use Rattle.std.specs.List.{filter_map}
use Rattle.std.specs.Str.{bytes_eq}
use Rattle.ti_caps.specs.Description.{Description}
use Rattle.ti_binary.specs.Files.{Reads, refusal}
use Rattle.ti_binary.specs.declared.faults.BinFault.{BinFault}
use Rattle.ti_binary.specs.declared.widths.Width.{Width}
use Rattle.ti_binary.specs.declared.widths.Width.TheVariants.{Legacy, Wide}
use Rattle.ti_database.specs.declared.faults.DatabaseFault.{DatabaseFault}
use Rattle.ti_database.specs.declared.faults.DatabaseFault.TheVariants.{NotFound, Faulty, Unreadable}
use Rattle.ti_database.specs.declared.obstacles.Obstacle.{Obstacle}

-- The bytes begin with the magic number of files with 32-bit numbers, octal 01036, the lower byte first.
abbrev pub is_wide : List ℕ → Bool
is_wide (low ∷ high ∷ rest) = low == 30 && high == 2
is_wide _ = false

-- The width of the numbers of a file.
abbrev pub width_of : List ℕ → Width
width_of bytes = if is_wide bytes then Wide else Legacy

-- The bytes are a compiled file of the entry, in either format.
abbrev pub IsEntry : List ℕ → Description → Type 0
IsEntry bytes entry = (skipped : ℕ) × Reads (width_of bytes) bytes entry skipped

-- Why the bytes are no compiled file, if they are none.
abbrev pub entry_refusal : List ℕ → Option BinFault
entry_refusal bytes = refusal (width_of bytes) bytes

-- What is read of a file: at most one byte more than a compiled file may have.
abbrev pub beginning : List ℕ → List ℕ
beginning file = take 32769 file

-- These can be what a store has: what it is known to have, or anything where that is not known.
abbrev pub CanBe : {A : Type 0} → Option (List ℕ → Option A) → (List ℕ → Option A) → Type 0
CanBe None files = Unit {0}
CanBe (Some known) files = known ≡ files

-- The first of these paths at which there is something, and what is made of it.
abbrev pub first_at : {A B : Type 0} → (A → B) → (List ℕ → Option A) → List (List ℕ) → Option (List ℕ × B)
first_at make files paths = slice_get (filter_map (λ path. option_map (λ file. (path, make file)) (files path)) paths) 0

-- The first of these paths at which there is a file, and what is read of it.
abbrev pub first_there : (List ℕ → Option (List ℕ)) → List (List ℕ) → Option (List ℕ × List ℕ)
first_there files paths = first_at beginning files paths

-- The first of these paths at which there is something that cannot be read, and why it cannot.
abbrev pub first_barred : (List ℕ → Option Obstacle) → List (List ℕ) → Option (List ℕ × Obstacle)
first_barred bars paths = first_at (λ obstacle. obstacle) bars paths

-- The first file that there is is one of the entry.
abbrev pub IsFound : (List ℕ → Option (List ℕ)) → List (List ℕ) → Description → Type 0
IsFound files paths entry =
    (path : List ℕ) × (bytes : List ℕ) × (first_there files paths ≡ Some (path, bytes)) × IsEntry bytes entry

-- Why no file is read at these paths: something cannot be read, or nothing is there.
abbrev pub absent_fault : List (List ℕ) → Option (List ℕ × Obstacle) → DatabaseFault
absent_fault paths None = NotFound paths
absent_fault paths (Some (path, obstacle)) = Unreadable path obstacle

-- Why nothing is found, if the search fails: the first file that is read is faulty, or none is.
abbrev pub fault_of : List (List ℕ) → Option (List ℕ × List ℕ) → Option (List ℕ × Obstacle) → Option DatabaseFault
fault_of paths None barred = Some (absent_fault paths barred)
fault_of paths (Some (path, bytes)) barred = option_map (λ fault. Faulty path fault) (entry_refusal bytes)

-- The same of what the files say, and of what cannot be read.
abbrev pub search_fault : (List ℕ → Option (List ℕ)) → (List ℕ → Option Obstacle) → List (List ℕ) → Option DatabaseFault
search_fault files bars paths = fault_of paths (first_there files paths) (first_barred bars paths)

-- A fault that says that nothing was found names all these paths.
abbrev pub NamesAll : List (List ℕ) → DatabaseFault → Type 0
NamesAll paths (NotFound looked) = looked ≡ paths
NamesAll paths _ = Unit {0}

-- The first file of this path among files in memory.
abbrev pub file_at : List ℕ → List (List ℕ × List ℕ) → Option (List ℕ)
file_at path files = slice_get (filter_map (λ file. if bytes_eq file.0 path then Some file.1 else None) files) 0
