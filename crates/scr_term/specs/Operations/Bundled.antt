-- The bundled entry's profile is the one that the laws on bytes are about.
use Rattle.std.specs.Prelude.{Option}
use Rattle.scr_cells.specs.declared.charsets.Charset.{Charset}
use Rattle.scr_cells.specs.declared.sizes.Size.{Size}
use Rattle.ti_caps.specs.Bundled.{IsBundled}
use Rattle.ti_caps.specs.Description.{Description}
use Rattle.scr_term.specs.Operations.Admission.{IsAdmittedAs, IsEcma48}
use Rattle.scr_term.specs.Operations.Profiles.{ProfileView}

-- On a screen of any size, and of its own size, the bundled entry's profile meets `IsEcma48`, whatever the charset.
abbrev pub BundledIsEcma48 : Type 0
BundledIsEcma48 =
    (charset : Charset) (entry : Description) (size : Option Size) (profile : ProfileView) → IsBundled entry → IsAdmittedAs charset entry size profile → IsEcma48 profile
