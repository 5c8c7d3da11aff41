-- The order of places.
use Rattle.std.specs.Prelude.{Bool, nat_lt, ◌==◌, if◌then◌else◌}
use Rattle.edit_text.specs.declared.places.TextPlace.{TextPlace}

-- whether a place is before another: in a line before it, or in the same line in a column before it
abbrev pub is_before : TextPlace → TextPlace → Bool
is_before p q = if p.line == q.line then nat_lt p.column q.column else nat_lt p.line q.line
