-- How the code admits an entry: nothing that a reader has to believe.
use Rattle.std.specs.Prelude.{ℕ, ◌≡◌, ◌+◌, ◌-◌, ◌^◌, All, IfSome, Bool, false, min, max, List, [], ◌∷◌, Option, Some, None, Result, slice_index_or, if◌then◌else◌}
use Rattle.scr_cells.specs.declared.charsets.Charset.{Charset}
use Rattle.scr_cells.specs.declared.charsets.Charset.TheVariants.{Ascii, Utf8}
use Rattle.ti_caps.specs.Description.{Description}
use Rattle.ti_param.specs.Tree.{Tree, bound}
use Rattle.scr_term.specs.declared.operations.capability.Capability.{Capability}
use Rattle.scr_term.specs.declared.operations.capability.Capability.TheVariants.{Op}
use Rattle.scr_term.specs.declared.operations.profile_faults.ProfileFault.{ProfileFault}
use Rattle.scr_term.specs.Operations.Admission.{IsJudged, bad_fault, long_fault, missing_fault}
use Rattle.scr_term.specs.Operations.Capabilities.{ordinal}
use Rattle.scr_term.specs.Operations.Profiles.{IsPlanned, ProfileView}

-- ---- the steps of an admission

-- a step goes on where nothing is against it; else it ends with the error that there is, or because memory ran out
abbrev pub Judges : {A : Type 0} → Result A ProfileFault → Option ProfileFault → Type 0
Judges result refusal = IsJudged refusal result

-- nothing is against the texts of an entry
pub record AreTexts (entry : Description) : Type 0 where
  pub whole : missing_fault entry ≡ None
  pub good : bad_fault entry ≡ None
  pub short : long_fault entry ≡ None

-- ---- the parts of a profile

-- a program among those of all capabilities
abbrev pub program_in : List (Option Tree) → Capability → Option Tree
program_in programs capability = slice_index_or programs (ordinal capability) None

-- a profile of these programs, whatever its size
abbrev pub with_programs : Bool → List (Option Tree) → ProfileView
with_programs palette programs = record { rows = 1; columns = 1; programs = programs; msgr = false; palette = palette; charset = Ascii }

-- how many bytes a program can write, as far as the code counts
abbrev pub counted_bound : Option Tree → ℕ
counted_bound None = 0
counted_bound (Some program) = min (bound program) (2 ^ 64 - 1)

-- the greatest of these and a number
abbrev pub greatest_bound : ℕ → List (Option Tree) → ℕ
greatest_bound least [] = least
greatest_bound least (program ∷ programs) = greatest_bound (max least (counted_bound program)) programs

-- the most bytes of a scalar value
abbrev pub longest_character : Charset → ℕ
longest_character Ascii = 1
longest_character Utf8 = 4

-- the most bytes that an operation can send, if a character has this many: where there are colours, `op` may follow
-- another text
abbrev pub longest : ℕ → Bool → List (Option Tree) → ℕ
longest least colours programs = if colours then greatest_bound least programs + counted_bound (program_in programs Op) else greatest_bound least programs

-- each program keeps to the limits
abbrev pub ArePlanned : List (Option Tree) → Type 0
ArePlanned programs = All (λ program. IfSome program IsPlanned) programs
