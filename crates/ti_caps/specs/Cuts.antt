-- What follows the first of several names.
use Rattle.std.specs.Prelude.{ℕ, List, [], Option, Some, None}
use Rattle.ti_caps.specs.Names.{alternatives}

-- The alternatives after the first bar; none if there is no bar.
abbrev pub alternatives_after : Option (List ℕ) → List (List ℕ)
alternatives_after None = []
alternatives_after (Some names) = alternatives names
