-- What holds of compiled files by their definition alone.
use Rattle.std.specs.Prelude.{◌≡◌, ◌+◌, ◌≤◌, ℕ, List, [], length, None}
use Rattle.ti_caps.specs.Description.{Description, IsDescription}
use Rattle.ti_binary.specs.Canonical.{canonical}
use Rattle.ti_binary.specs.Files.{IsFile, refusal}
use Rattle.ti_binary.specs.declared.widths.Width.{Width}
use Rattle.ti_binary.specs.declared.widths.Width.TheVariants.{Legacy}

-- Bytes that are a file of an entry, with numbers of either width, have no reason to be refused.
abbrev pub FilesAreNotRefused : Type 0
FilesAreNotRefused =
    (width : Width) (bytes rest : List ℕ) (entry : Description) → IsFile width bytes entry rest → refusal width bytes ≡ None

-- Bytes are a file of at most one entry, with one rest after it.
abbrev pub FilesHaveOneEntry : Type 0
FilesHaveOneEntry =
    (width : Width) (bytes rest other : List ℕ) (entry another : Description)
    → IsFile width bytes entry rest → IsFile width bytes another other → (entry ≡ another) × (rest ≡ other)

-- The canonical form of an entry within the limits is a file of that entry and no other, with nothing after it.
abbrev pub CanonicalReadsBack : Type 0
CanonicalReadsBack =
    (entry : Description) → IsDescription entry → length entry.names + 1 ≤ 128 → length (canonical entry) ≤ 4096
    → IsFile Legacy (canonical entry) entry [] × ((other : Description) (rest : List ℕ) → IsFile Legacy (canonical entry) other rest → (other ≡ entry) × (rest ≡ []))

-- The same whatever the length of the names, which is at most 511 in an entry.
abbrev pub LongNamesReadBack : Type 0
LongNamesReadBack =
    (entry : Description) → IsDescription entry → length (canonical entry) ≤ 4096
    → IsFile Legacy (canonical entry) entry [] × ((other : Description) (rest : List ℕ) → IsFile Legacy (canonical entry) other rest → (other ≡ entry) × (rest ≡ []))
