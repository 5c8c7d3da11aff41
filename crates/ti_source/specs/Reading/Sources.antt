-- A source: its entries and notes, or its first fault (terminfo(5), "Preparing Descriptions").
use Rattle.std.specs.Prelude.{ℕ, ◌+◌, Bool, true, false, List, [], ◌∷◌, ◌++◌, Option, Some, None, Result, Ok, Err, length, map, min, ◌==◌, ◌&&◌, nat_le, nat_lt, if◌then◌else◌}
use Rattle.std.specs.List.{flat_map, list_any}
use Rattle.ti_caps.specs.declared.table.Kind.{Kind}
use Rattle.ti_caps.specs.declared.table.Kind.TheVariants.{Flag, Number, Text}
use Rattle.ti_caps.specs.Table.{same_kind, capability_of}
use Rattle.ti_caps.specs.Names.{alternatives, are_names}
use Rattle.ti_source.specs.declared.faults.SourceFault.{SourceFault}
use Rattle.ti_source.specs.declared.faults.SourceFault.TheVariants.{NotAscii, FieldBeforeEntry, BadNames, BadNumber, DuplicateName, TooManyUses}
use Rattle.ti_source.specs.declared.note.Cause.{Cause}
use Rattle.ti_source.specs.declared.note.Cause.TheVariants.{Unknown, WrongKind, TooGreat, Repeated}
use Rattle.ti_source.specs.declared.note.Note.{Note}
use Rattle.ti_source.specs.declared.reading.statement.FieldValue.{FieldValue}
use Rattle.ti_source.specs.declared.reading.statement.FieldValue.TheVariants as field_value
use Rattle.ti_source.specs.declared.reading.statement.Statement.{Statement}
use Rattle.ti_source.specs.Described.{Described}
use Rattle.ti_source.specs.Resolving.Named.{has_name}
use Rattle.ti_source.specs.Reading.Escape.{decoded}
use Rattle.ti_source.specs.Reading.Number.{number}
use Rattle.ti_source.specs.Reading.Field.{Form, Nothing, Plain, Numeric, Textual, Cancelled, Refers, Odd, form_of}
use Rattle.ti_source.specs.Reading.SourceLine.{SourceLine, Skipped, NonAscii, Continues, Begins, line_of, lines}

-- A source that was read: its entries and notes, in order.
pub record Whole : Type 0 where
  pub entries : List Described
  pub notes : List Note

-- A field of an entry: the number of its line, and its form.
pub record NumberedField : Type 0 where
  pub line : ℕ
  pub form : Form

-- An entry as it is written: its names and its fields, from left to right, on whatever lines they stand.
pub record WrittenEntry : Type 0 where
  pub names : List ℕ
  pub fields : List NumberedField

-- What a field means by itself: nothing; nothing, since its name is doubtful; what a capability has; a number that is
-- none; or a use of another entry.
pub data Meaning : Type 0 where
  Silent : Meaning
  Doubtful : Cause → List ℕ → Meaning
  States : List ℕ → Kind → ℕ → FieldValue → Meaning
  Numberless : Meaning
  Uses : List ℕ → Meaning

-- A boolean field.
abbrev pub plain_means : List ℕ → Option (Kind × ℕ) → Meaning
plain_means name None = Doubtful Unknown name
plain_means name (Some (Flag, slot)) = States name Flag slot field_value.Present
plain_means name (Some (Number, slot)) = Doubtful WrongKind name
plain_means name (Some (Text, slot)) = Doubtful WrongKind name

-- A string field.
abbrev pub textual_means : List ℕ → List ℕ → Option (Kind × ℕ) → Meaning
textual_means name text None = Doubtful Unknown name
textual_means name text (Some (Flag, slot)) = Doubtful WrongKind name
textual_means name text (Some (Number, slot)) = Doubtful WrongKind name
textual_means name text (Some (Text, slot)) = States name Text slot (field_value.Text (decoded text))

-- A cancellation, of any kind.
abbrev pub cancelled_means : List ℕ → Option (Kind × ℕ) → Meaning
cancelled_means name None = Doubtful Unknown name
cancelled_means name (Some (kind, slot)) = States name kind slot field_value.Cancelled

-- A number, if it is one.
abbrev pub valued_means : List ℕ → ℕ → Option ℕ → Meaning
valued_means name slot None = Numberless
valued_means name slot (Some n) = States name Number slot (field_value.Number n)

-- A numeric field.
abbrev pub numeric_means : List ℕ → List ℕ → Option (Kind × ℕ) → Meaning
numeric_means name value None = Doubtful Unknown name
numeric_means name value (Some (Flag, slot)) = Doubtful WrongKind name
numeric_means name value (Some (Number, slot)) = valued_means name slot (number value)
numeric_means name value (Some (Text, slot)) = Doubtful WrongKind name

-- What a field means by itself.
unfoldable pub meaning : Form → Meaning
meaning Nothing = Silent
meaning (Plain name) = plain_means name (capability_of name)
meaning (Numeric name value) = numeric_means name value (capability_of name)
meaning (Textual name text) = textual_means name text (capability_of name)
meaning (Cancelled name) = cancelled_means name (capability_of name)
meaning (Refers other) = Uses other
meaning (Odd name) = Doubtful Unknown name

-- What each element gives, given those before it, in order; the first has `before` before it.
abbrev pub each_after : {A B : Type 0} → (List A → A → List B) → List A → List A → List B
each_after f before [] = []
each_after f before (x ∷ xs) = f before x ++ each_after f (before ++ x ∷ []) xs

-- The same for a list with nothing before it.
abbrev pub each_beside : {A B : Type 0} → (List A → A → List B) → List A → List B
each_beside f xs = each_after f [] xs

-- The field is about this capability.
abbrev pub means_one : Kind → ℕ → Meaning → Bool
means_one kind slot (States name k s what) = same_kind k kind && s == slot
means_one kind slot _ = false

-- An earlier field of the entry is about this capability.
abbrev pub is_given : Kind → ℕ → List NumberedField → Bool
is_given kind slot fields = list_any (λ f. means_one kind slot (meaning f.form)) fields

-- A number above 32,767 becomes 32,767.
abbrev pub limited : FieldValue → FieldValue
limited (field_value.Number n) = if nat_le n 32767 then field_value.Number n else field_value.Number 32767
limited what = what

-- The number is above 32,767.
abbrev pub is_great : FieldValue → Bool
is_great (field_value.Number n) = if nat_le n 32767 then false else true
is_great _ = false

-- A field counts if no earlier field of its entry is about the same capability.
abbrev pub meant_statement : List NumberedField → Meaning → List Statement
meant_statement before (States name kind slot what) =
    if is_given kind slot before then [] else (record { kind = kind; slot = record { 0 = slot }; field_value = limited what }) ∷ []
meant_statement before _ = []

-- The statement of a field, if it counts.
abbrev pub statement : List NumberedField → NumberedField → List Statement
statement before f = meant_statement before (meaning f.form)

-- A note on a line.
abbrev pub note_on : ℕ → Cause → List ℕ → List Note
note_on line cause name = (record { line = line; cause = cause; name = name }) ∷ []

-- The note on what a field means.
abbrev pub meant_note : List NumberedField → ℕ → Meaning → List Note
meant_note before line (Doubtful cause name) = note_on line cause name
meant_note before line (States name kind slot what) =
    if is_given kind slot before then note_on line Repeated name
    else (if is_great what then note_on line TooGreat name else [])
meant_note before line _ = []

-- The note on a field, if there is one.
abbrev pub note : List NumberedField → NumberedField → List Note
note before f = meant_note before f.line (meaning f.form)

-- The entry that a field uses, if it is a use.
abbrev pub meant_use : Meaning → List (List ℕ)
meant_use (Uses other) = other ∷ []
meant_use _ = []

-- The uses among these fields, in order.
abbrev pub uses : List NumberedField → List (List ℕ)
uses fields = flat_map (λ f. meant_use (meaning f.form)) fields

-- The fault of what a field means: a number that is none, or a 33rd use.
abbrev pub meant_fault : List NumberedField → ℕ → Meaning → List SourceFault
meant_fault before line Numberless = BadNumber line ∷ []
meant_fault before line (Uses other) = if nat_lt (length (uses before)) 32 then [] else TooManyUses ∷ []
meant_fault before line _ = []

-- The fault of a field, if it has one.
abbrev pub field_fault : List NumberedField → NumberedField → List SourceFault
field_fault before f = meant_fault before f.line (meaning f.form)

-- The entry that is written.
abbrev pub described : WrittenEntry → Described
described w = record { names = w.names; statements = each_beside statement w.fields; uses = uses w.fields }

-- The notes on its fields.
abbrev pub notes_on : WrittenEntry → List Note
notes_on w = each_beside note w.fields

-- The fields of a line, with its number.
abbrev pub numbered_fields : ℕ → List (List ℕ) → List NumberedField
numbered_fields line fields = map (λ field. record { line = line; form = form_of field }) fields

-- The fields of the lines up to the next one that begins an entry.
abbrev pub continuing : List (ℕ × SourceLine) → List NumberedField
continuing [] = []
continuing ((n, Skipped) ∷ more) = continuing more
continuing ((n, NonAscii) ∷ more) = continuing more
continuing ((n, Continues fields) ∷ more) = numbered_fields n fields ++ continuing more
continuing ((n, Begins names fields) ∷ more) = []

-- The entries of these lines: each is a line of names, the fields after them, and those of the lines that continue it.
abbrev pub written_entries : List (ℕ × SourceLine) → List WrittenEntry
written_entries [] = []
written_entries ((n, Skipped) ∷ more) = written_entries more
written_entries ((n, NonAscii) ∷ more) = written_entries more
written_entries ((n, Continues fields) ∷ more) = written_entries more
written_entries ((n, Begins names fields) ∷ more) = (record { names = names; fields = numbered_fields n fields ++ continuing more }) ∷ written_entries more

-- One of these names is already a reference name of an entry.
abbrev pub is_taken : List ℕ → List Described → Bool
is_taken names entries = list_any (λ name. list_any (has_name name) entries) (alternatives names)

-- The faults of a line that continues the last of these entries.
abbrev pub continued_faults : ℕ → List (List ℕ) → List WrittenEntry → List SourceFault
continued_faults n fields [] = FieldBeforeEntry n ∷ []
continued_faults n fields (w ∷ []) = each_after field_fault w.fields (numbered_fields n fields)
continued_faults n fields (w ∷ v ∷ ws) = continued_faults n fields (v ∷ ws)

-- The error of the names on a line, given the entries before it, if there is one.
abbrev pub names_faults : ℕ → List ℕ → List Described → List SourceFault
names_faults n names entries =
    if are_names names then (if is_taken names entries then DuplicateName n ∷ [] else []) else BadNames n ∷ []

-- The errors of a line that begins an entry after these: that of its names, then those of its fields.
abbrev pub begun_faults : ℕ → List ℕ → List (List ℕ) → List WrittenEntry → List SourceFault
begun_faults n names fields ws =
    names_faults n names (map described ws) ++ each_beside field_fault (numbered_fields n fields)

-- The faults of a line, given the lines before it, from left to right.
unfoldable pub line_faults : List (ℕ × SourceLine) → ℕ × SourceLine → List SourceFault
line_faults before (n, Skipped) = []
line_faults before (n, NonAscii) = NotAscii n ∷ []
line_faults before (n, Continues fields) = continued_faults n fields (written_entries before)
line_faults before (n, Begins names fields) = begun_faults n names fields (written_entries before)

-- The number of the next line; it stops at 4,294,967,295.
abbrev pub next_line : ℕ → ℕ
next_line n = min (n + 1) 4294967295

-- These lines with their numbers, from n on.
abbrev pub numbered : ℕ → List (List ℕ) → List (ℕ × SourceLine)
numbered n [] = []
numbered n (bytes ∷ more) = (n, line_of bytes) ∷ numbered (next_line n) more

-- The lines of a text, counted from 1.
abbrev pub source_lines : List ℕ → List (ℕ × SourceLine)
source_lines bytes = numbered 1 (lines bytes)

-- The first fault, if there are any.
abbrev pub unless_faulty : {A : Type 0} → List SourceFault → A → Result A SourceFault
unless_faulty [] x = Ok x
unless_faulty (fault ∷ faults) x = Err fault

-- The entries of these lines and the notes on them, in order.
abbrev pub whole_of : List (ℕ × SourceLine) → Whole
whole_of ls = record { entries = map described (written_entries ls); notes = flat_map notes_on (written_entries ls) }

-- The source that a text is, or its first fault.
unfoldable pub source_of : List ℕ → Result Whole SourceFault
source_of bytes = unless_faulty (each_beside line_faults (source_lines bytes)) (whole_of (source_lines bytes))

-- A source without its notes, and its notes.
abbrev pub apart : Result Whole SourceFault → Result (Whole × List Note) SourceFault
apart (Ok w) = Ok (record w { notes = [] }, w.notes)
apart (Err fault) = Err fault

-- The statement is about this capability.
abbrev pub concerns : Kind → ℕ → Statement → Bool
concerns kind slot s = same_kind s.kind kind && s.slot.0 == slot
