use Rattle.std.proofs.Common.{◌≡◌, slice_get, Some, rules}
use Rattle.ti_source.specs.declared.resolving.marks.Mark.TheVariants.{Over}
use Rattle.ti_source.proofs.IndexLaws.{get-lt}
use Rattle.ti_source.proofs.ListingLaws.{led-lists, over-of}
use Rattle.ti_source.proofs.resolving.listing.led_to.Goals as goal

pub led_over-requires : goal.led_over-requires
led_over-requires c =
    let at : slice_get c.args.marks.now c.args.i ≡ Some (Over c.in-Some-Over.next c.in-Some-Over.field-0-1) = search rules in
    let over = over-of c.args.entries.now c.args.marks.now c.args.kept.now c.args.i c.in-Some-Over.next c.in-Some-Over.field-0-1 c.requires at in
    get-lt c.args.entries.now c.args.i over.entry over.at

pub returns-in-Some-Over : goal.returns-in-Some-Over
returns-in-Some-Over c fields l =
    let at : slice_get c.args.marks.now c.args.i ≡ Some (Over c.in-Some-Over.next c.in-Some-Over.field-0-1) = search rules in
    let over = over-of c.args.entries.now c.args.marks.now c.args.kept.now c.args.i c.in-Some-Over.next c.in-Some-Over.field-0-1 c.requires at in
    led-lists c.args.entries.now c.args.marks.now c.args.i c.in-Some-Over.next c.in-Some-Over.field-0-1 c.led_over.result fields over c.led_over.ensures l
