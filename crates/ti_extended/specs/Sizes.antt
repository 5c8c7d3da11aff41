-- What the code keeps of the sizes of a section; nobody has to read this to know what a compiled file is.
use Rattle.std.specs.Prelude.{◌≡◌, ◌≤◌, length, min}
use Rattle.ti_extended.specs.Whole.{Capabilities}
use Rattle.ti_extended.specs.Forms.{flags_among, joined}
use Rattle.ti_extended.specs.declared.writing.Sizes.{Sizes}

-- The sizes for these capabilities.
pub record AreSizes (e : Capabilities) (sizes : Sizes) : Type 0 where
  pub flags : sizes.flags ≡ flags_among e
  pub numbers : sizes.numbers ≡ length e.numbers
  pub texts : sizes.texts ≡ length e.texts
  pub names : sizes.names ≡ length e.names
  pub text_bytes : sizes.text_bytes ≡ min (length (joined e.texts)) 65536
  pub name_bytes : sizes.name_bytes ≡ min (length (joined e.names)) 65536
  pub few_flags : sizes.flags ≤ sizes.names
  pub few_numbers : sizes.numbers ≤ sizes.names
  pub few_texts : sizes.texts ≤ sizes.names
