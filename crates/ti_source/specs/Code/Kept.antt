-- Entries that are kept as three lists: their names, their statements and their uses.
use Rattle.std.specs.Prelude.{◌≡◌, ℕ, List, [], ◌∷◌, length}
use Rattle.ti_source.specs.declared.reading.statement.Statement.{Statement}
use Rattle.ti_source.specs.Described.{Described, IsDescribed}

-- The entries with these names, statements and uses.
abbrev pub described_of : List (List ℕ) → List (List Statement) → List (List (List ℕ)) → List Described
described_of (n ∷ ns) (s ∷ ss) (u ∷ us) = (record { names = n; statements = s; uses = u }) ∷ described_of ns ss us
described_of _ _ _ = []

-- What holds of every entry of a source holds of each of these.
abbrev pub AreDescribed : List Described → Type 0
AreDescribed [] = Unit {0}
AreDescribed (d ∷ ds) = IsDescribed d × AreDescribed ds

-- Each entry has names, statements and uses, and what holds of every entry of a source holds of it.
pub record AreKept (names : List (List ℕ)) (statements : List (List Statement)) (uses : List (List (List ℕ))) : Type 0 where
  pub stated : length statements ≡ length names
  pub used : length uses ≡ length names
  pub described : AreDescribed (described_of names statements uses)
