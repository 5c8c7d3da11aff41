use Rattle.std.proofs.Common.{◌≡◌, ◌<◌, ◌++◌, length, slice_index_or, None, arith}
use Rattle.ti_extended.specs.Printed.{text_line}
use Rattle.ti_extended.proofs.PrintedLaws.{lines_from-step}
use Rattle.ti_extended.proofs.printing.put_texts.Goals as goal

pub loop-slot-preserved : goal.loop-slot-preserved
loop-slot-preserved c =
    let xs = c.args.entry.now.texts in
    let slot = c.loop-slot.slot in
    let lt : slot < length xs = omega (arith, c.requires.texts, c.loop-slot-test.true) in
    let line : c.put_text_at.new.out.items ≡ c.loop-slot.out.items ++ text_line slot (slice_index_or xs slot None) = rw (← c.text.ensures.value) c.in_ok-put_text_at.ensures in
    lines_from-step text_line c.loop-slot.out.items c.put_text_at.new.out.items _ xs slot None lt c.loop-slot.invariant line
