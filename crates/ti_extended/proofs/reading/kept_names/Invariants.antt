use Rattle.std.proofs.Common.{◌≡◌, map, take}
use Rattle.ti_binary.specs.Files.{words_in}
use Rattle.ti_extended.specs.Sections.{kept, name_said}
use Rattle.ti_extended.proofs.reading.kept_names.Given as goal

abbrev pub invariant-loop-i : goal.invariant-loop-i
invariant-loop-i l = l.kept.items ≡ kept (take l.i l.there) (map (name_said l.names) (words_in l.offsets l.i))
