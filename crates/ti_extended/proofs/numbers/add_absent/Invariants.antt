use Rattle.std.proofs.Common.{◌≡◌, ◌++◌, replicate, true, None}
use Rattle.std.specs.List.{list_all}
use Rattle.ti_extended.specs.Whole.{is_small_number}
use Rattle.ti_extended.proofs.numbers.add_absent.Given as goal

abbrev pub invariant-loop-filled : goal.invariant-loop-filled
invariant-loop-filled l = record {
  value : l.numbers.items ≡ l.fn.numbers.items ++ replicate l.filled None;
  small : list_all is_small_number l.numbers.items ≡ true;
}
