use Rattle.std.proofs.Common.{◌≡◌, ◌<◌, ◌++◌, ◌∙◌, ap, length, slice_index_or, None, arith}
use Rattle.ti_extended.specs.Printed.{number_line}
use Rattle.ti_extended.proofs.PrintedLaws.{lines_from-step}
use Rattle.ti_extended.proofs.printing.put_numbers.Goals as goal

pub loop-slot-preserved : goal.loop-slot-preserved
loop-slot-preserved c =
    let xs = c.args.numbers.now in
    let slot = c.loop-slot.slot in
    let lt : slot < length xs = omega (arith, c.requires, c.loop-slot-test.true) in
    let line : c.put_number_at.new.out.items ≡ c.loop-slot.out.items ++ number_line slot (slice_index_or xs slot None) =
    c.in_ok-put_number_at.ensures ∙ ap (λ k. c.loop-slot.out.items ++ number_line slot (slice_index_or xs k None)) c.from.ensures in
    lines_from-step number_line c.loop-slot.out.items c.put_number_at.new.out.items _ xs slot None lt c.loop-slot.invariant line
