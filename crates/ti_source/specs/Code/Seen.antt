-- Lines, forms and meanings of the code as those of the definitions.
use Rattle.std.specs.Prelude.{Option, Some, None, min}
use Rattle.ti_source.specs.declared.reading.field.Form.{Form}
use Rattle.ti_source.specs.declared.reading.field.Form.TheVariants.{Nothing, Plain, Numeric, Textual, Cancelled, Refers, Odd}
use Rattle.ti_source.specs.Reading.Field as field
use Rattle.ti_source.specs.declared.reading.line.SourceLine as line
use Rattle.ti_source.specs.declared.reading.line.SourceLine.TheVariants.{NonAscii, Continues, Begins}
use Rattle.ti_source.specs.Reading.SourceLine as spec
use Rattle.ti_source.specs.declared.reading.meaning.WrittenValue.{WrittenValue}
use Rattle.ti_source.specs.declared.reading.meaning.WrittenValue.TheVariants as written
use Rattle.ti_source.specs.declared.reading.meaning.Meaning as meaning
use Rattle.ti_source.specs.declared.reading.meaning.Meaning.TheVariants.{Silent, Doubtful, States, Numberless, Uses}
use Rattle.ti_source.specs.declared.reading.statement.FieldValue.{FieldValue}
use Rattle.ti_source.specs.declared.reading.statement.FieldValue.TheVariants as field_value
use Rattle.ti_source.specs.Reading.Escape.{decoded}
use Rattle.ti_source.specs.Reading.Sources as source

abbrev pub seen_line : line.SourceLine → spec.SourceLine
seen_line NonAscii = spec.NonAscii
seen_line (Continues bytes) = spec.Continues (field.fields bytes.now)
seen_line (Begins names bytes) = spec.Begins names.now (field.fields bytes.now)

-- a line, or one that is skipped
abbrev pub seen_or_skipped : Option line.SourceLine → spec.SourceLine
seen_or_skipped None = spec.Skipped
seen_or_skipped (Some line) = seen_line line

abbrev pub seen_form : Form → field.Form
seen_form Nothing = field.Nothing
seen_form (Plain name) = field.Plain name.now
seen_form (Numeric name value) = field.Numeric name.now value.now
seen_form (Textual name text) = field.Textual name.now text.now
seen_form (Cancelled name) = field.Cancelled name.now
seen_form (Refers other) = field.Refers other.now
seen_form (Odd name) = field.Odd name.now

abbrev pub seen_value : WrittenValue → FieldValue
seen_value written.Present = field_value.Present
seen_value (written.Number n) = field_value.Number n
seen_value (written.Text text) = field_value.Text (decoded text.now)
seen_value written.Cancelled = field_value.Cancelled

abbrev pub seen_meaning : meaning.Meaning → source.Meaning
seen_meaning Silent = source.Silent
seen_meaning (Doubtful cause name) = source.Doubtful cause name.now
seen_meaning (States name kind slot what) = source.States name.now kind slot.0 (seen_value what)
seen_meaning Numberless = source.Numberless
seen_meaning (Uses other) = source.Uses other.now

-- all numbers above 32,767 as one
abbrev pub capped_value : FieldValue → FieldValue
capped_value field_value.Present = field_value.Present
capped_value (field_value.Number n) = field_value.Number (min n 32768)
capped_value (field_value.Text text) = field_value.Text text
capped_value field_value.Cancelled = field_value.Cancelled

abbrev pub capped : source.Meaning → source.Meaning
capped source.Silent = source.Silent
capped (source.Doubtful cause name) = source.Doubtful cause name
capped (source.States name kind slot what) = source.States name kind slot (capped_value what)
capped source.Numberless = source.Numberless
capped (source.Uses other) = source.Uses other
