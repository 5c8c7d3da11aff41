use Rattle.std.proofs.Common.{◌≡◌, ◌++◌, take}
use Rattle.screen_scripts.specs.Showing.{notes_lines}
use Rattle.screen_scripts.proofs.showing.print_notes.Given as goal

abbrev pub invariant-loop-note : goal.invariant-loop-note
invariant-loop-note l = l.text.items ≡ l.fn.text.items ++ notes_lines (take l.note-index l.notes)
