-- What a compiled file says of a whole entry. term(5), 'Extended Storage Format' and 'Extended Number Format'.
use Rattle.std.specs.Prelude.{ℕ, ◌≡◌, ◌-◌, ◌%◌, true, List, length, map, drop, None}
use Rattle.ti_binary.specs.Files.{IsFile, numbers_in, numbers_of, numbers_place, numbers_size, padded, part}
use Rattle.ti_binary.specs.declared.widths.Width.{Width}
use Rattle.ti_extended.specs.Whole.{Whole, are_capabilities}
use Rattle.ti_extended.specs.Sections.{capabilities_in, is_sound_or_empty, whole_said}

-- The section of extended capabilities: what follows the file by itself, from an even place on.
abbrev pub section_after : List ℕ → List ℕ → List ℕ
section_after bytes rest = drop ((length bytes - length rest) % 2) rest

-- The bytes are a file of the whole entry: a file of its entry, with the whole numbers in the section of numbers, and
-- nothing after it or a sound section of its extended capabilities.
pub record IsWholeFile (bytes : List ℕ) (whole : Whole) : Type 0 where
  pub width : Width
  pub rest : List ℕ
  pub file : IsFile width bytes whole.entry rest
  pub numbers_say : whole.numbers ≡ padded 64 None (map (whole_said width) (numbers_in width (part bytes (numbers_place bytes) (numbers_size width (numbers_of bytes))) (numbers_of bytes)))
  pub sound : is_sound_or_empty width (section_after bytes rest) ≡ true
  pub extended_says : whole.extended ≡ capabilities_in width (section_after bytes rest)
  pub are_good : are_capabilities whole.extended ≡ true
