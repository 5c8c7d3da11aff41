use Rattle.std.proofs.Common.{◌≡◌, ◌<◌, ◌++◌, length, slice_index_or, None, arith}
use Rattle.ti_source.specs.Printing.Print.{text_line}
use Rattle.ti_source.proofs.PrintLaws.{lines_from-step}
use Rattle.ti_source.proofs.printing.printer.push_texts.Goals as goal

pub loop-slot-preserved : goal.loop-slot-preserved
loop-slot-preserved c =
    let texts = c.args.entry.now.texts in
    let slot = c.loop-slot.slot in
    let lt : slot < length texts = rw c.requires (omega arith) in
    let line : c.push_text.new.out.items ≡ c.loop-slot.out.items ++ text_line slot (slice_index_or texts slot None) = rw (← c.text.ensures.value) c.in_ok-push_text.ensures in
    lines_from-step text_line c.loop-slot.out.items c.push_text.new.out.items _ texts slot None lt c.loop-slot.invariant line
