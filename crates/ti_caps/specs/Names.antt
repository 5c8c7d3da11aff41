-- The names of a terminal description (terminfo(5), "Types of Capabilities"; term(5)).
use Rattle.std.specs.Prelude.{ℕ, Bool, true, false, List, [], ◌∷◌, length, filter, not, ◌&&◌, ◌==◌, nat_le}
use Rattle.std.specs.List.{list_all, slice_split, before_first}

-- A graphic character of ASCII or a blank, but no comma.
abbrev pub is_name_byte : ℕ → Bool
is_name_byte b = nat_le 32 b && (nat_le b 126 && not (b == 44))

-- The bar that separates two alternatives.
abbrev pub is_bar : ℕ → Bool
is_bar b = b == 124

-- The alternatives in order.
abbrev pub alternatives : List ℕ → List (List ℕ)
alternatives names = slice_split is_bar names

-- The text is not empty.
abbrev pub has_bytes : List ℕ → Bool
has_bytes [] = false
has_bytes (b ∷ bs) = true

-- The name has no blank.
abbrev pub has_no_blank : List ℕ → Bool
has_no_blank name = list_all (λ b. not (b == 32)) name

-- The name by which an entry is listed: its first alternative.
abbrev pub first_name : List ℕ → List ℕ
first_name names = before_first is_bar names

-- The name begins with #, like a comment of a source.
abbrev pub begins_with_hash : List ℕ → Bool
begins_with_hash [] = false
begins_with_hash (b ∷ bs) = b == 35

-- Valid names: 1 to 511 of these characters, no alternative empty, and the first without a blank and not like a
-- comment.
abbrev pub are_names : List ℕ → Bool
are_names names =
    (nat_le 1 (length names) && nat_le (length names) 511)
    && (list_all is_name_byte names
    && (list_all has_bytes (alternatives names)
    && (has_no_blank (first_name names) && not (begins_with_hash (first_name names)))))

-- The names by which other entries can refer to this one: its alternatives without a blank.
abbrev pub reference_names : List ℕ → List (List ℕ)
reference_names names = filter has_no_blank (alternatives names)
