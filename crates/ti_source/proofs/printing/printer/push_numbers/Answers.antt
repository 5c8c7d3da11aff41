use Rattle.std.proofs.Common.{◌≡◌, ◌<◌, ◌++◌, length, slice_index_or, None, arith}
use Rattle.ti_source.specs.Printing.Print.{number_line}
use Rattle.ti_source.proofs.PrintLaws.{lines_from-step}
use Rattle.ti_source.proofs.printing.printer.push_numbers.Goals as goal

pub loop-slot-preserved : goal.loop-slot-preserved
loop-slot-preserved c =
    let numbers = c.args.entry.now.numbers in
    let slot = c.loop-slot.slot in
    let lt : slot < length numbers = rw c.requires (omega arith) in
    let line : c.push_number.new.out.items ≡ c.loop-slot.out.items ++ number_line slot (slice_index_or numbers slot None) = rw (← c.number.ensures.value) c.in_ok-push_number.ensures in
    lines_from-step number_line c.loop-slot.out.items c.push_number.new.out.items _ numbers slot None lt c.loop-slot.invariant line
