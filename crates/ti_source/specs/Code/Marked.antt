-- Entries that are being read, and marks at the capabilities that their fields are about.
use Rattle.std.specs.Prelude.{◌≡◌, ℕ, Bool, true, List, slice_index_or}
use Rattle.std.specs.List.{list_any}
use Rattle.ti_caps.specs.declared.table.Kind.{Kind}
use Rattle.ti_source.specs.declared.reading.statement.Statement.{Statement}
use Rattle.ti_source.specs.Described.{Described, IsDescribed}
use Rattle.ti_source.specs.Reading.Sources.{concerns}
use Rattle.ti_source.specs.Code.FirstFields.{ordinal}

-- each capability that a field is about is marked, or past the marks
abbrev pub AreMarked : List Statement → List Bool → Type 0
AreMarked statements marks = (kind : Kind) (slot : ℕ) → list_any (concerns kind slot) statements ≡ true → slice_index_or marks (ordinal kind slot) true ≡ true

-- what holds of every entry, and of its marks
pub record IsMarked (d : Described) (marks : List Bool) : Type 0 where
  pub described : IsDescribed d
  pub marked : AreMarked d.statements marks
