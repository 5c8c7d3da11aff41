use Rattle.std.proofs.Common.{◌≡◌, ◌<◌, ◌++◌, length, slice_index_or, false, arith}
use Rattle.ti_extended.specs.Printed.{flag_line}
use Rattle.ti_extended.proofs.PrintedLaws.{lines_from-step}
use Rattle.ti_extended.proofs.printing.put_flags.Goals as goal

pub loop-slot-preserved : goal.loop-slot-preserved
loop-slot-preserved c =
    let xs = c.args.entry.now.flags in
    let slot = c.loop-slot.slot in
    let lt : slot < length xs = omega (arith, c.requires.flags, c.loop-slot-test.true) in
    let line : c.put_flag_at.new.out.items ≡ c.loop-slot.out.items ++ flag_line slot (slice_index_or xs slot false) = rw (← c.flag.ensures) c.in_ok-put_flag_at.ensures in
    lines_from-step flag_line c.loop-slot.out.items c.put_flag_at.new.out.items _ xs slot false lt c.loop-slot.invariant line
