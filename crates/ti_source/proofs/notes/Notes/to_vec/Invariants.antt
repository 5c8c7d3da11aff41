use Rattle.std.proofs.Common.{◌≡◌, take}
use Rattle.ti_source.proofs.notes.Notes.to_vec.Given as goal

-- the notes so far are made
abbrev pub invariant-loop-i : goal.invariant-loop-i
invariant-loop-i l = l.notes.items ≡ take l.i l.fn.self
