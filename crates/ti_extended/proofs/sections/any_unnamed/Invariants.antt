use Rattle.std.proofs.Common.{◌≡◌}
use Rattle.std.specs.List.{list_any}
use Rattle.ti_binary.specs.Files.{words_in}
use Rattle.ti_extended.specs.Sections.{is_unnamed}
use Rattle.ti_extended.proofs.sections.any_unnamed.Given as goal

abbrev pub invariant-loop-i : goal.invariant-loop-i
invariant-loop-i l = l.found ≡ list_any (is_unnamed l.names) (words_in l.offsets l.i)
