use Rattle.std.proofs.Common.{◌≡◌, ◌++◌, take}
use Rattle.ti_binary.specs.Canonical.{words}
use Rattle.ti_binary.proofs.encoder.put_words.Given as goal

abbrev pub invariant-loop-n : goal.invariant-loop-n
invariant-loop-n l = l.out.items ≡ l.fn.out.items ++ words (take l.n-index l.numbers)
