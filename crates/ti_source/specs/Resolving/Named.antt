-- Entries by their reference names (terminfo(5), "Similar Terminals"), and the index of them that the code keeps.
use Rattle.std.specs.Prelude.{◌≡◌, ℕ, suc, Bool, List, [], ◌∷◌, Option, Some, None, option_map, ◌&&◌, if◌then◌else◌}
use Rattle.std.specs.List.{list_any}
use Rattle.std.specs.Map.{lookup}
use Rattle.std.specs.Str.{bytes_eq}
use Rattle.ti_caps.specs.Names.{alternatives, has_no_blank}
use Rattle.ti_source.specs.Described.{Described}

-- A name without a blank that is one of these.
abbrev pub is_reference : List ℕ → List (List ℕ) → Bool
is_reference name names = has_no_blank name && list_any (bytes_eq name) names

-- A reference name of an entry: an alternative without a blank.
abbrev pub has_name : List ℕ → Described → Bool
has_name name d = is_reference name (alternatives d.names)

-- The first entry with this name, and its number; the first in the list has the number i.
abbrev pub found_from : ℕ → List ℕ → List Described → Option (ℕ × Described)
found_from i name [] = None
found_from i name (d ∷ ds) = if has_name name d then Some (i, d) else found_from (suc i) name ds

-- The index of the first entry with this name.
abbrev pub index_of : List Described → List ℕ → Option ℕ
index_of entries name = option_map (λ p. p.0) (found_from 0 name entries)

-- The index of an entry with these alternatives, if the name is one of its reference names.
abbrev pub named : List (List ℕ) → ℕ → List ℕ → Option ℕ
named names index name = if is_reference name names then Some index else None

-- The index that a map has for a name.
abbrev pub indexed : {K : Type 0} → (K → List ℕ) → List (K × ℕ) → List ℕ → Option ℕ
indexed bytes index name = lookup (λ k. bytes_eq name (bytes k)) index

-- A map gives for each name the index of the first entry that has it.
abbrev pub AreIndexed : {K : Type 0} → (K → List ℕ) → List (K × ℕ) → List Described → Type 0
AreIndexed bytes index entries = (name : List ℕ) → indexed bytes index name ≡ index_of entries name
