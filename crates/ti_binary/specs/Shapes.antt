-- What the code keeps of a file's sections; nobody has to read this to know what a compiled file is.
use Rattle.std.specs.Prelude.{ℕ, ◌≡◌, ◌+◌, ◌≤◌, List, length, take, min}
use Rattle.ti_caps.specs.Description.{Description}
use Rattle.ti_binary.specs.Canonical.{kept_flags, kept_numbers, kept_texts, table_of}
use Rattle.ti_binary.specs.Files.{names_of, flags_of, numbers_of, offsets_of, table_of as table_size, end_place}
use Rattle.ti_binary.specs.declared.shapes.Shape.{Shape}
use Rattle.ti_binary.specs.declared.widths.Width.{Width}

-- The sizes of the sections of an entry's file.
pub record IsShape (entry : Description) (shape : Shape) : Type 0 where
  pub names : shape.names ≡ length entry.names + 1
  pub short : shape.names ≤ 512
  pub flags : take shape.flags entry.flags ≡ kept_flags entry
  pub numbers : take shape.numbers entry.numbers ≡ kept_numbers entry
  pub texts : take shape.texts entry.texts ≡ kept_texts entry
  pub table : shape.table ≡ min (length (table_of (kept_texts entry))) 4097
  pub few_flags : shape.flags ≤ 64
  pub few_numbers : shape.numbers ≤ 64
  pub few_texts : shape.texts ≤ 512

-- The numbers of the header are within the limits, and there is room for the sections.
pub record HasRoom (width : Width) (bytes : List ℕ) : Type 0 where
  pub some_names : 1 ≤ names_of bytes
  pub names : names_of bytes ≤ 32767
  pub flags : flags_of bytes ≤ 64
  pub numbers : numbers_of bytes ≤ 64
  pub offsets : offsets_of bytes ≤ 512
  pub table : table_size bytes ≤ 32767
  pub room : end_place width bytes ≤ length bytes
