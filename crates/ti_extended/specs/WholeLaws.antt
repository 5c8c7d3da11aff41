-- What holds of the files of whole entries by their definition alone.
use Rattle.std.specs.Prelude.{◌≡◌, ◌≤◌, ℕ, false, true, List, [], length, map}
use Rattle.ti_caps.specs.Description.{IsDescription}
use Rattle.ti_binary.specs.Canonical.{canonical}
use Rattle.ti_extended.specs.Whole.{are_capabilities, IsWhole, Whole, clamped}
use Rattle.ti_extended.specs.Forms.{has_great, whole_form}
use Rattle.ti_extended.specs.WholeFiles.{IsWholeFile}

-- Bytes are a file of at most one whole entry.
abbrev pub FilesHaveOneWhole : Type 0
FilesHaveOneWhole = (bytes : List ℕ) (whole other : Whole) → IsWholeFile bytes whole → IsWholeFile bytes other → whole ≡ other

-- The numbers of a file's entry are its whole numbers, with 32767 in the place of all above.
abbrev pub EntriesAreClamped : Type 0
EntriesAreClamped = (bytes : List ℕ) (whole : Whole) → IsWholeFile bytes whole → whole.entry.numbers ≡ map clamped whole.numbers

-- The form of a whole entry within the limits is a file of that entry and of no other. The names of an entry, which
-- have at most 511 bytes, are within them.
abbrev pub WholeFormReadsBack : Type 0
WholeFormReadsBack =
    (whole : Whole) → IsDescription whole.entry → IsWhole whole → are_capabilities whole.extended ≡ true
    → length (canonical whole.entry) ≤ 4096 → length (whole_form whole) ≤ 32768
    → IsWholeFile (whole_form whole) whole × ((other : Whole) → IsWholeFile (whole_form whole) other → other ≡ whole)

-- Without extended capabilities and numbers above 32767, the form of a whole entry is that of its entry.
abbrev pub PlainFormsAreCanonical : Type 0
PlainFormsAreCanonical = (whole : Whole) → has_great whole ≡ false → whole.extended.names ≡ [] → whole_form whole ≡ canonical whole.entry
