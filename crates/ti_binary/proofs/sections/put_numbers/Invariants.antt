use Rattle.std.proofs.Common.{◌≡◌, ◌++◌, take, map}
use Rattle.ti_binary.specs.Canonical.{number_word, words}
use Rattle.ti_binary.proofs.sections.put_numbers.Given as goal

abbrev pub invariant-loop-slot : goal.invariant-loop-slot
invariant-loop-slot l = l.out.items ≡ l.fn.out.items ++ words (map number_word (take l.slot l.entry.numbers))
