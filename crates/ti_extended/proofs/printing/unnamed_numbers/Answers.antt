use Rattle.std.proofs.Common.{◌≡◌, ◌<◌, ◌∙◌, ◌&&◌, ap, arith, cond, length, slice_index_or, None, is_some}
use Rattle.std.specs.Prelude.{is_none}
use Rattle.ti_caps.specs.Standard.{standard_name_at}
use Rattle.ti_caps.specs.declared.table.Kind.TheVariants.{Number}
use Rattle.ti_extended.proofs.PrintedLaws.{nameless_step}
use Rattle.ti_extended.proofs.printing.unnamed_numbers.Goals as goal

pub loop-slot-preserved : goal.loop-slot-preserved
loop-slot-preserved c =
    let xs = c.args.numbers.now in
    let slot = c.loop-slot.slot in
    let lt : slot < length xs = omega (arith, c.requires, c.loop-slot-test.true) in
    let one : c.unnamed_at-count.result ≡ cond (is_some (slice_index_or xs slot None) && is_none (standard_name_at Number slot)) 1 0 =
    c.unnamed_at-count.ensures.value ∙ ap (λ b. cond (b && is_none (standard_name_at Number slot)) 1 0) (c.is_some.ensures ∙ ap (λ k. is_some (slice_index_or xs k None)) c.from.ensures) in (
      omega (arith, c.loop-slot.invariant.0, c.unnamed_at-count.ensures.small),
      nameless_step is_some Number xs slot None c.loop-slot.count _ c.unnamed_at-count.result lt c.loop-slot.invariant.1 one,
    )
