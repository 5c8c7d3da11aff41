use Rattle.ti_extended.proofs.EntryLaws.{new_whole}
use Rattle.ti_extended.proofs.whole_entry.WholeEntry.new.Goals as goal

pub invariant_of-result : goal.invariant_of-result
invariant_of-result c = new_whole c.args.entry c.in_ok-numbers.numbers.items c.none.result c.numbers_of.ensures.described c.in_ok-numbers.ensures.value
