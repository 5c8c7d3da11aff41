use Rattle.std.proofs.Common.{◌≡◌, ◌++◌, is_some, map}
use Rattle.ti_binary.specs.Files.{numbers_in}
use Rattle.ti_extended.specs.Sections.{present, whole_said}
use Rattle.ti_extended.proofs.reading.numbers_in.Given as goal

abbrev pub invariant-loop-i : goal.invariant-loop-i
invariant-loop-i l = record {
  there : l.there.items ≡ l.fn.there.items ++ map is_some (map (whole_said l.width) (numbers_in l.width l.section l.i));
  value : l.numbers.items ≡ present (map (whole_said l.width) (numbers_in l.width l.section l.i));
}
