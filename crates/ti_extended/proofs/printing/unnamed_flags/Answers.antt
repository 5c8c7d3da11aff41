use Rattle.std.proofs.Common.{◌≡◌, ◌<◌, ◌∙◌, ◌&&◌, ap, arith, cond, length, slice_index_or, false}
use Rattle.std.specs.Prelude.{is_none}
use Rattle.ti_caps.specs.Standard.{standard_name_at}
use Rattle.ti_caps.specs.declared.table.Kind.TheVariants.{Flag}
use Rattle.ti_extended.proofs.PrintedLaws.{nameless_step}
use Rattle.ti_extended.proofs.printing.unnamed_flags.Goals as goal

pub loop-slot-preserved : goal.loop-slot-preserved
loop-slot-preserved c =
    let xs = c.args.entry.now.flags in
    let slot = c.loop-slot.slot in
    let lt : slot < length xs = omega (arith, c.requires.flags, c.loop-slot-test.true) in
    let one : c.unnamed_at-count.result ≡ cond (slice_index_or xs slot false && is_none (standard_name_at Flag slot)) 1 0 =
    c.unnamed_at-count.ensures.value ∙ ap (λ b. cond (b && is_none (standard_name_at Flag slot)) 1 0) c.flag.ensures in (
      omega (arith, c.loop-slot.invariant.0, c.unnamed_at-count.ensures.small),
      nameless_step (λ there. there) Flag xs slot false c.loop-slot.count _ c.unnamed_at-count.result lt c.loop-slot.invariant.1 one,
    )
