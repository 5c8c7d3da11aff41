-- How the code finds a name; nobody has to read this to know what a name means.
use Rattle.std.specs.Prelude.{ℕ, ◌+◌, ◌*◌, ◌%◌, List, [], ◌∷◌, Option, Some, None, slice_get, slice_index_or, if◌then◌else◌}
use Rattle.std.specs.Str.{bytes_eq}
use Rattle.ti_caps.specs.declared.table.Kind.{Kind}
use Rattle.ti_caps.specs.declared.buckets.TheConstants.{BUCKETS}
use Rattle.ti_caps.specs.Table.{Names, or_else, runs}

-- The number of a name's bucket, if its earlier bytes gave h.
abbrev pub bucket_number : ℕ → List ℕ → ℕ
bucket_number h [] = h
bucket_number h (b ∷ bs) = bucket_number ((h * 53 + b) % 128) bs

-- The addresses of the names in a bucket: the index of a run, and of the name in it.
unfoldable pub bucket : ℕ → List (ℕ × ℕ)
bucket number = slice_index_or BUCKETS number []

-- The capability, if this is its name.
abbrev pub if_same : List ℕ → Kind → ℕ → Option (List ℕ) → Option (Kind × ℕ)
if_same name kind position None = None
if_same name kind position (Some known) = if bytes_eq known name then Some (kind, position) else None

-- The capability at an index of a run, if this is its name.
abbrev pub found_in_run : List ℕ → ℕ → Option Names → Option (Kind × ℕ)
found_in_run name index None = None
found_in_run name index (Some r) = if_same name r.kind (r.first + index) (slice_get r.names index)

-- The capability at an address, if this is its name.
abbrev pub found_at : List ℕ → ℕ × ℕ → Option (Kind × ℕ)
found_at name address = found_in_run name address.1 (slice_get runs address.0)

-- The capability at the first of these addresses that has this name.
abbrev pub found_in : List ℕ → List (ℕ × ℕ) → Option (Kind × ℕ)
found_in name [] = None
found_in name (address ∷ addresses) = or_else (found_at name address) (found_in name addresses)
