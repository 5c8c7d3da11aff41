-- What a printed text is when it is read again.
use Rattle.std.specs.Prelude.{◌≡◌, [], ◌∷◌, Ok}
use Rattle.ti_caps.specs.Names.{first_name}
use Rattle.ti_caps.specs.Description.{Description, IsDescription}
use Rattle.ti_source.specs.Described.{Described}
use Rattle.ti_source.specs.Printing.Print.{named_only, printed}
use Rattle.ti_source.specs.Reading.Sources.{source_of}
use Rattle.ti_source.specs.Resolving.Uses.{Resolved}

-- The printed text is a source of one entry without a note; it resolves to the description without its unnamed
-- capabilities.
abbrev pub ReadsBack : Description → Type 0
ReadsBack d =
    (entry : Described) × (source_of (printed d) ≡ Ok (record { entries = entry ∷ []; notes = [] })) × Resolved (entry ∷ []) (first_name d.names) (named_only d)

-- This holds of every description.
abbrev pub EachReadsBack : Type 0
EachReadsBack = (d : Description) → IsDescription d → ReadsBack d
