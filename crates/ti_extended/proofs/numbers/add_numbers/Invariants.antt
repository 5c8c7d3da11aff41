use Rattle.std.proofs.Common.{◌≡◌, ◌++◌, map, true}
use Rattle.std.specs.List.{list_all}
use Rattle.ti_binary.specs.Files.{numbers_in}
use Rattle.ti_extended.specs.Sections.{whole_said}
use Rattle.ti_extended.specs.Whole.{is_small_number}
use Rattle.ti_extended.proofs.numbers.add_numbers.Given as goal

abbrev pub invariant-loop-i : goal.invariant-loop-i
invariant-loop-i l = record {
  value : l.numbers.items ≡ l.fn.numbers.items ++ map (whole_said l.width) (numbers_in l.width l.section l.i);
  small : list_all is_small_number l.numbers.items ≡ true;
}
