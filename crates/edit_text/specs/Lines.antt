-- Lists of lines, and what an edit makes of one.
use Rattle.std.specs.Prelude.{◌≡◌, ℕ, suc, ◌+◌, ◌<◌, Bool, false, ◌&&◌, nat_lt, nat_le, ◌==◌, List, [], ◌∷◌, ◌++◌, length, take, drop, slice_index_or, slice_set, if◌then◌else◌, MatchBool, Option, None, Some}
use Rattle.std.specs.List.{list_any, join_with_byte, sum_by}
use Rattle.edit_text.specs.declared.parts.TextPart.{TextPart}
use Rattle.edit_text.specs.declared.parts.TextPart.TheVariants.{Byte}
use Rattle.edit_text.specs.declared.places.TextPlace.{TextPlace}
use Rattle.edit_text.specs.Parts.{IsFirstPart, IsLastPart, spelled}

-- the bytes of a file with these lines: the lines, joined by line feeds
abbrev pub bytes_of : List (List ℕ) → List ℕ
bytes_of lines = join_with_byte 10 lines

-- whether some bytes have a line feed among them
abbrev pub has_line_feed : List ℕ → Bool
has_line_feed bytes = list_any (λ byte. byte == 10) bytes

-- there is a line, and no line has a line feed
pub record AreLines (lines : List (List ℕ)) : Type 0 where
  pub some : 0 < length lines
  pub whole : list_any has_line_feed lines ≡ false

-- a line; no bytes past the last one
abbrev pub line_at : List (List ℕ) → ℕ → List ℕ
line_at lines n = slice_index_or lines n []

-- whether a place is in the text: there is such a line, and the column is at most its length
abbrev pub is_inside : List (List ℕ) → TextPlace → Bool
is_inside lines place = nat_lt place.line (length lines) && nat_le place.column (length (line_at lines place.line))

-- whether a place is the very end of the text
abbrev pub is_end : List (List ℕ) → TextPlace → Bool
is_end lines place = place.line + 1 == length lines && place.column == length (line_at lines place.line)

-- a line with some bytes more from a column on
abbrev pub with_bytes : List ℕ → ℕ → List ℕ → List ℕ
with_bytes line column bytes = take column line ++ (bytes ++ drop column line)

-- a line without so many bytes from a column on
abbrev pub without_bytes : List ℕ → ℕ → ℕ → List ℕ
without_bytes line column count = take column line ++ drop count (drop column line)

-- some bytes inserted at a place of its line
abbrev pub inserted : List (List ℕ) → TextPlace → List ℕ → List (List ℕ)
inserted lines place bytes = slice_set lines place.line (with_bytes (line_at lines place.line) place.column bytes)

-- so many bytes at a place removed from its line
abbrev pub removed : List (List ℕ) → TextPlace → ℕ → List (List ℕ)
removed lines place count = slice_set lines place.line (without_bytes (line_at lines place.line) place.column count)

-- a line in two: up to a place, and from there on
abbrev pub split_at : List (List ℕ) → TextPlace → List (List ℕ)
split_at lines place =
    let line = line_at lines place.line in
    take place.line lines ++ (take place.column line ∷ (drop place.column line ∷ drop (suc place.line) lines))

-- a line and the next one as one line
abbrev pub joined : List (List ℕ) → ℕ → List (List ℕ)
joined lines n = take n lines ++ ((line_at lines n ++ line_at lines (suc n)) ∷ drop (suc (suc n)) lines)

-- the part at a place: what the rest of the line begins with, or at the end of a line the line feed after it; none at
-- the very end of the text
abbrev pub IsPartAt : List (List ℕ) → TextPlace → Option TextPart → Type 0
IsPartAt lines place part =
    MatchBool (nat_lt place.column (length (line_at lines place.line)))
    (IsFirstPart (drop place.column (line_at lines place.line)) part)
    (part ≡ (if is_end lines place then None else Some (Byte 10)))

-- the part before a place: what the line ends with up to there, or at the beginning of a line the line feed before it;
-- none at the very beginning of the text
abbrev pub IsPartBefore : List (List ℕ) → TextPlace → Option TextPart → Type 0
IsPartBefore lines place part =
    MatchBool (place.column == 0)
    (part ≡ (if place.line == 0 then None else Some (Byte 10)))
    (IsLastPart (take place.column (line_at lines place.line)) part)

-- the lines without the part at a place; at the end of a line it is the end of that line
abbrev pub deleted : List (List ℕ) → TextPlace → TextPart → List (List ℕ)
deleted lines place part =
    if nat_lt place.column (length (line_at lines place.line))
    then removed lines place (length (spelled part))
    else joined lines place.line

-- how many bytes of the file are before a place: the lines before it with their line feeds, and its column
abbrev pub offset : List (List ℕ) → TextPlace → ℕ
offset lines place = sum_by (λ line. suc (length line)) (take place.line lines) + place.column
