use Rattle.std.proofs.Common.{◌≡◌, ℕ, ◌∙◌, ◌&&◌, ap, arith, leb, ltb, set}
use Rattle.scr_virtual.specs.Ranges.{ranges_with}
use Rattle.scr_virtual.proofs.RangeLaws.{fill_begun, fill_more}
use Rattle.scr_virtual.proofs.ranges.fill.Goals as goal

pub loop-row-init : goal.loop-row-init
loop-row-init c = fill_begun c.args.first (λ _ _. c.args.range) c.args.ranges.now

pub loop-row-preserved : goal.loop-row-preserved
loop-row-preserved c = ap (λ xs. set xs c.loop-row.row c.args.range) c.loop-row.invariant ∙ fill_more c.args.first c.loop-row.row c.args.range c.args.ranges.now (omega arith) (omega arith)

pub returns : goal.returns
returns c =
    let done : c.loop-row.row ≡ c.args.end = omega arith in
    c.loop-row.invariant ∙ ap (λ (end : ℕ). ranges_with (λ r. leb c.args.first r && ltb r end) (λ _ _. c.args.range) c.args.ranges.now) done
