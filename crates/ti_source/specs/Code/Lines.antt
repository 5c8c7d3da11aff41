-- The lines that are left to read, without those that are skipped.
use Rattle.std.specs.Prelude.{ℕ, List, [], ◌∷◌, Option, Some, None, map}
use Rattle.std.specs.Borrow.{Bor}
use Rattle.ti_source.specs.declared.reading.line.SourceLine as line
use Rattle.ti_source.specs.Reading.Field.{fields}
use Rattle.ti_source.specs.Reading.SourceLine.{SourceLine, Skipped, NonAscii, Continues, Begins}
use Rattle.ti_source.specs.Code.Seen.{seen_line}

-- these lines without those that are skipped
abbrev pub unskipped : List (ℕ × SourceLine) → List (ℕ × SourceLine)
unskipped [] = []
unskipped ((n, Skipped) ∷ more) = unskipped more
unskipped ((n, NonAscii) ∷ more) = (n, NonAscii) ∷ unskipped more
unskipped ((n, Continues fields) ∷ more) = (n, Continues fields) ∷ unskipped more
unskipped ((n, Begins names fields) ∷ more) = (n, Begins names fields) ∷ unskipped more

-- no line if there is no first one, else that one and more
abbrev pub lines_left : Option (ℕ × line.SourceLine) → List (ℕ × SourceLine) → List (ℕ × SourceLine)
lines_left None more = []
lines_left (Some (n, line)) more = (n, seen_line line) ∷ more

-- a line of fields, if there is one, and more
abbrev pub after_fields : Option (ℕ × Bor (List ℕ)) → List (ℕ × SourceLine) → List (ℕ × SourceLine)
after_fields None more = more
after_fields (Some (n, text)) more = (n, Continues (fields text.now)) ∷ more

-- the first line does not continue an entry
abbrev pub EndsBlock : List (ℕ × SourceLine) → Type 0
EndsBlock ((n, Continues fields) ∷ more) = ⊥
EndsBlock _ = Unit {0}

-- lines of fields by their numbers: each continues an entry
abbrev pub lines_of_fields : List (ℕ × List (List ℕ)) → List (ℕ × SourceLine)
lines_of_fields taken = map (λ t. (t.0, Continues t.1)) taken
