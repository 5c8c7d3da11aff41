-- An entry that is being read.
use Rattle.std.specs.Prelude.{◌≡◌, ℕ, List, ◌++◌, OnOk, Result}
use Rattle.ti_source.specs.declared.faults.SourceFault.{SourceFault}
use Rattle.ti_source.specs.declared.note.Note.{Note}
use Rattle.ti_source.specs.Described.{Described}
use Rattle.ti_source.specs.Reading.Sources.{Meaning, NumberedField, continuing, each_after, each_beside, described, field_fault, meant_fault, meant_note, meant_statement, meant_use, note, unless_faulty}
use Rattle.ti_source.specs.Reading.SourceLine.{SourceLine}
use Rattle.ti_source.specs.Code.Lines.{EndsBlock, lines_of_fields}
use Rattle.ti_source.specs.Result.{Becomes}

-- An entry that is being read, and all notes so far.
pub record OpenEntry : Type 0 where
  pub entry : Described
  pub notes : List Note

-- An entry with these names and, so far, these fields; other notes come before those on it.
abbrev pub open_entry : List ℕ → List Note → List NumberedField → OpenEntry
open_entry names notes fields =
    record { entry = described (record { names = names; fields = fields }); notes = notes ++ each_beside note fields }

-- These fields are added, unless one of them has an error.
abbrev pub Adds : {Done : Type 0} → List NumberedField → OpenEntry → Result Done SourceFault → OpenEntry → Type 0
Adds fields old result new =
    (names : List ℕ) (notes : List Note) (before : List NumberedField) → old ≡ open_entry names notes before →
    Becomes result (unless_faulty (each_after field_fault before fields) (open_entry names notes (before ++ fields))) new

-- What a field of this meaning, after these fields, adds to an entry.
abbrev pub with_meant : List NumberedField → ℕ → Meaning → OpenEntry → OpenEntry
with_meant before line m e = record {
  entry = record {
    names = e.entry.names;
    statements = e.entry.statements ++ meant_statement before m;
    uses = e.entry.uses ++ meant_use m;
  };
  notes = e.notes ++ meant_note before line m;
}

-- It is added, unless it has an error.
abbrev pub AddsMeant : {Done : Type 0} → ℕ → Meaning → OpenEntry → Result Done SourceFault → OpenEntry → Type 0
AddsMeant line m old result new =
    (names : List ℕ) (notes : List Note) (before : List NumberedField) → old ≡ open_entry names notes before →
    Becomes result (unless_faulty (meant_fault before line m) (with_meant before line m old)) new

-- These fields and those of lines that continue the entry are added. What follows these lines does not continue it.
pub record AddsBlock {Done : Type 0} (fields : List NumberedField) (old : OpenEntry) (lines : List (ℕ × SourceLine)) (result : Result Done SourceFault) (new : OpenEntry) (left : List (ℕ × SourceLine)) : Type 0 where
  pub taken : List (ℕ × List (List ℕ))
  pub cut : lines ≡ lines_of_fields taken ++ left
  pub adds : Adds (fields ++ continuing (lines_of_fields taken)) old result new
  pub ends : OnOk result (EndsBlock left)
