use Rattle.std.proofs.Common.{◌∙◌, ◌&&◌, ap, arith, leb, ltb, length, List, Some}
use Rattle.scr_virtual.specs.Ranges.{ranges_with}
use Rattle.scr_virtual.proofs.RangeLaws.{Range}
use Rattle.scr_virtual.proofs.RowLaws.{filled_held, lent_filled}
use Rattle.scr_virtual.proofs.ranges.Ranges.fill.Goals as goal

pub invariant_of-self : goal.invariant_of-self
invariant_of-self c =
    let many = ap (λ (xs : List Range). length xs) c.self.view_is in
    filled_held c.self.inside.columns _ _ c.self.inside.rows _ c.args.first c.args.end (Some c.args.range) c.self.invariant (omega (arith, many, c.requires.end)) c.deref_mut.ensures.value c.fill.ensures c.with_rows-self-inside.ensures

pub returns : goal.returns
returns c =
    lent_filled c.self.inside.columns _ _ c.args.first c.args.end (Some c.args.range) c.deref_mut.ensures.value c.fill.ensures
    ∙ ap (ranges_with (λ r. leb c.args.first r && ltb r c.args.end) (λ _ _. Some c.args.range)) c.self.view_is
