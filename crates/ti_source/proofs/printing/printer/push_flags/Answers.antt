use Rattle.std.proofs.Common.{◌≡◌, ◌<◌, ◌++◌, length, slice_index_or, false, arith}
use Rattle.ti_source.specs.Printing.Print.{flag_line}
use Rattle.ti_source.proofs.PrintLaws.{lines_from-step}
use Rattle.ti_source.proofs.printing.printer.push_flags.Goals as goal

pub loop-slot-preserved : goal.loop-slot-preserved
loop-slot-preserved c =
    let flags = c.args.entry.now.flags in
    let slot = c.loop-slot.slot in
    let lt : slot < length flags = rw c.requires (omega arith) in
    let line : c.push_flag.new.out.items ≡ c.loop-slot.out.items ++ flag_line slot (slice_index_or flags slot false) = rw (← c.flag.ensures) c.in_ok-push_flag.ensures in
    lines_from-step flag_line c.loop-slot.out.items c.push_flag.new.out.items _ flags slot false lt c.loop-slot.invariant line
