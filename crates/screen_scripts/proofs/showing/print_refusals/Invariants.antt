use Rattle.std.proofs.Common.{◌≡◌, ◌++◌, take}
use Rattle.screen_scripts.specs.Printing.{refusals_of}
use Rattle.screen_scripts.specs.Showing.{events_in}
use Rattle.screen_scripts.proofs.showing.print_refusals.Given as goal

abbrev pub invariant-loop-note : goal.invariant-loop-note
invariant-loop-note l = l.text.items ≡ l.fn.text.items ++ refusals_of (events_in (take l.note-index l.notes))
