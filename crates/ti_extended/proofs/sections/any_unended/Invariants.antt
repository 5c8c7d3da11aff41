use Rattle.std.proofs.Common.{◌≡◌}
use Rattle.std.specs.List.{list_any}
use Rattle.ti_binary.specs.Files.{is_unended, words_in}
use Rattle.ti_extended.proofs.sections.any_unended.Given as goal

abbrev pub invariant-loop-i : goal.invariant-loop-i
invariant-loop-i l = l.found ≡ list_any (is_unended l.table) (words_in l.offsets l.i)
