-- What an entry says: its names, and what it gives for each position of each kind of capability.
use Rattle.std.specs.Prelude.{ℕ, suc, ◌+◌, ◌<◌, ◌≤◌, ◌≡◌, Bool, true, false, List, [], ◌∷◌, Option, Some, None, IfSome, length, replicate, map, is_some, is_none, slice_index_or, ◌&&◌, ◌==◌, if◌then◌else◌}
use Rattle.std.specs.List.{list_any}
use Rattle.ti_caps.specs.declared.table.Kind.{Kind}
use Rattle.ti_caps.specs.declared.table.Kind.TheVariants.{Flag, Number, Text}
use Rattle.ti_caps.specs.Names.{are_names}
use Rattle.ti_caps.specs.Table.{name_at}

-- A terminal description: its names, and flags, numbers and texts by position.
pub record Description : Type 0 where
  pub names : List ℕ
  pub flags : List Bool
  pub numbers : List (Option ℕ)
  pub texts : List (Option (List ℕ))

-- What is at a position; nothing beyond the limits.
abbrev pub flag_at : Description → ℕ → Bool
flag_at d slot = slice_index_or d.flags slot false

-- The number at a position.
abbrev pub number_at : Description → ℕ → Option ℕ
number_at d slot = slice_index_or d.numbers slot None

-- The text at a position.
abbrev pub text_at : Description → ℕ → Option (List ℕ)
text_at d slot = slice_index_or d.texts slot None

-- Every element is a byte.
abbrev pub AreBytes : List ℕ → Type 0
AreBytes [] = Unit {0}
AreBytes (b ∷ bs) = (b < 256) × AreBytes bs

-- One of the bytes is 0.
abbrev pub has_nul : List ℕ → Bool
has_nul bytes = list_any (λ b. b == 0) bytes

-- What holds of every entry: valid names, 64 flags, 64 numbers up to 32767, and 512 texts of bytes without a 0.
pub record IsDescription (d : Description) : Type 0 where
  pub named : are_names d.names ≡ true
  pub flags : length d.flags ≡ 64
  pub numbers : length d.numbers ≡ 64
  pub texts : length d.texts ≡ 512
  pub small : (slot : ℕ) → IfSome (number_at d slot) (λ n. n ≤ 32767)
  pub whole : (slot : ℕ) → IfSome (text_at d slot) (λ t. has_nul t ≡ false)
  pub bytes : (slot : ℕ) → IfSome (text_at d slot) AreBytes

-- There is a text with a 0 in it.
abbrev pub text_has_nul : Option (List ℕ) → Bool
text_has_nul None = false
text_has_nul (Some bytes) = has_nul bytes

-- An entry with these names in which nothing is present.
abbrev pub bare : List ℕ → Description
bare names = record { names = names; flags = replicate 64 false; numbers = replicate 64 None; texts = replicate 512 None }

-- How many of these, from position k on, are present but have no name in the table.
abbrev pub unnamed_from : Kind → ℕ → List Bool → ℕ
unnamed_from kind k [] = 0
unnamed_from kind k (present ∷ more) =
    (if present && is_none (name_at kind k) then 1 else 0) + unnamed_from kind (suc k) more

-- How many present capabilities have no name.
abbrev pub unnamed_count : Description → ℕ
unnamed_count d =
    unnamed_from Flag 0 d.flags + unnamed_from Number 0 (map is_some d.numbers) + unnamed_from Text 0 (map is_some d.texts)
