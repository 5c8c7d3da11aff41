use Rattle.std.proofs.Common.{◌∙◌, ap, sym, subst, length, List, replicate, None}
use Rattle.scr_virtual.specs.Ranges.{AreNoneOutside}
use Rattle.scr_virtual.proofs.RangeLaws.{Range}
use Rattle.scr_virtual.proofs.RowLaws.{emptied_held, lent_emptied}
use Rattle.scr_virtual.proofs.ranges.Ranges.clear.Goals as goal

pub invariant_of-self : goal.invariant_of-self
invariant_of-self c =
    let P : List Range → Type 0 = λ xs. AreNoneOutside xs c.rows-first.result.0 c.rows-first.result.1 in
    emptied_held c.self.inside.columns _ _ c.rows-first.result.0 c.rows-first.result.1 c.self.invariant.few (subst P (sym c.self.view_is) c.rows-first.ensures.others) c.deref_mut.ensures.value c.fill.ensures

pub returns : goal.returns
returns c =
    let P : List Range → Type 0 = λ xs. AreNoneOutside xs c.rows-first.result.0 c.rows-first.result.1 in
    lent_emptied c.self.inside.columns _ _ c.rows-first.result.0 c.rows-first.result.1 (subst P (sym c.self.view_is) c.rows-first.ensures.others) c.deref_mut.ensures.value c.fill.ensures
    ∙ ap (λ (xs : List Range). replicate (length xs) None) c.self.view_is
