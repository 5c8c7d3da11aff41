-- Notes that are kept without their names, and the names one after another.
use Rattle.std.specs.Prelude.{◌≡◌, ◌≤◌, ℕ, zero, suc, ◌-◌, List, [], ◌∷◌, take, drop}
use Rattle.ti_source.specs.declared.note.Note.{Note}
use Rattle.ti_source.specs.declared.notes.NotePlace.{NotePlace}

-- The notes at these places. The name of the first begins at `start`, and each other one where that before it ends.
abbrev pub notes_from : ℕ → List ℕ → List NotePlace → List Note
notes_from start names [] = []
notes_from start names (p ∷ ps) = (record { line = p.line; cause = p.cause; name = take (p.end - start) (drop start names) }) ∷ notes_from p.end names ps

-- The names end one after another, the last where all end.
abbrev pub EndInOrder : ℕ → ℕ → List NotePlace → Type 0
EndInOrder start all [] = start ≡ all
EndInOrder start all (p ∷ ps) = (start ≤ p.end) × EndInOrder p.end all ps

-- Where the name of the note with this index begins.
abbrev pub start_of : ℕ → ℕ → List NotePlace → ℕ
start_of start i [] = start
start_of start zero (p ∷ ps) = start
start_of start (suc i) (p ∷ ps) = start_of p.end i ps
