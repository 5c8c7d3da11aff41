-- The lines of a source, and what each of them is (terminfo(5), "Preparing Descriptions").
use Rattle.std.specs.Prelude.{ℕ, Bool, false, List, [], ◌∷◌, map, ◌==◌, ◌&&◌, nat_le, nat_lt, if◌then◌else◌}
use Rattle.std.specs.List.{list_all, before_first, after_first}
use Rattle.bstr.specs.Text.{lines_of, without_terminator}
use Rattle.ti_source.specs.Reading.Field.{fields, is_blank}

-- The lines, each without the LF or CR LF that ends it.
abbrev pub lines : List ℕ → List (List ℕ)
lines bytes = map without_terminator (lines_of bytes)

-- The line begins with `#`.
abbrev pub begins_hash : List ℕ → Bool
begins_hash [] = false
begins_hash (b ∷ bs) = b == 35

-- The line begins with a blank or a tab.
abbrev pub begins_blank : List ℕ → Bool
begins_blank [] = false
begins_blank (b ∷ bs) = is_blank b

-- The bytes that a line may have.
abbrev pub is_ascii : ℕ → Bool
is_ascii b = nat_le 1 b && nat_lt b 128

-- A line: a comment or empty; with a byte that is not allowed; a continuation with its fields; or a new entry with its
-- names and fields.
pub data SourceLine : Type 0 where
  Skipped : SourceLine
  NonAscii : SourceLine
  Continues : List (List ℕ) → SourceLine
  Begins : List ℕ → List (List ℕ) → SourceLine

-- The byte is a comma.
abbrev pub is_comma : ℕ → Bool
is_comma b = b == 44

-- What a line is.
abbrev pub line_of : List ℕ → SourceLine
line_of bytes =
    if begins_hash bytes then Skipped
    else (if list_all is_blank bytes then Skipped
    else (if list_all is_ascii bytes
    then (if begins_blank bytes then Continues (fields bytes)
    else Begins (before_first is_comma bytes) (fields (after_first is_comma bytes)))
    else NonAscii))
