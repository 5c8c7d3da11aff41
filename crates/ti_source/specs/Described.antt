-- An entry as it stands in a source.
use Rattle.std.specs.Prelude.{◌≡◌, ℕ, ◌≤◌, true, false, List, [], ◌∷◌, length}
use Rattle.ti_caps.specs.Names.{are_names}
use Rattle.ti_caps.specs.Description.{has_nul}
use Rattle.ti_source.specs.declared.reading.statement.FieldValue.{FieldValue}
use Rattle.ti_source.specs.declared.reading.statement.FieldValue.TheVariants as field_value
use Rattle.ti_source.specs.declared.reading.statement.Statement.{Statement}

-- An entry: its names; for each capability with a field, the first field that has it; and its uses in order.
pub record Described : Type 0 where
  pub names : List ℕ
  pub statements : List Statement
  pub uses : List (List ℕ)

-- What a capability may have: a number up to 32,767, or a text without a byte 0.
abbrev pub IsGood : FieldValue → Type 0
IsGood (field_value.Number n) = n ≤ 32767
IsGood (field_value.Text text) = has_nul text ≡ false
IsGood _ = Unit {0}

-- Each statement has such a value.
abbrev pub AreGood : List Statement → Type 0
AreGood [] = Unit {0}
AreGood (s ∷ more) = IsGood s.field_value × AreGood more

-- What holds of every entry of a source: valid names, valid values, and at most 32 uses.
pub record IsDescribed (d : Described) : Type 0 where
  pub named : are_names d.names ≡ true
  pub good : AreGood d.statements
  pub few : length d.uses ≤ 32
