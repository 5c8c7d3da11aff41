-- Bytes that need no second look.
use Rattle.std.specs.Prelude.{ℕ, Bool, not, ◌==◌, ◌&&◌}
use Rattle.ti_source.specs.Reading.Field.{takes_next}

-- a byte that neither ends a field nor takes the next byte with it
abbrev pub is_inner : ℕ → Bool
is_inner b = not (b == 44) && not (takes_next b)

-- a byte of a text that begins no escape and is not 0
abbrev pub is_plain : ℕ → Bool
is_plain b = not (b == 92) && (not (b == 94) && not (b == 0))
