use Rattle.std.proofs.Common.{◌∙◌, ap, sym, subst, length, List}
use Rattle.std.specs.Prelude.{All}
use Rattle.std.proofs.lemmas.List.{with_items_is}
use Rattle.scr_windows.specs.DeskViews.{WindowView, DeskView}
use Rattle.scr_windows.specs.Code.Families.{IsNearFrame, IsShift, family_shifted}
use Rattle.scr_windows.proofs.MovingLaws.{length_family, near_windows, near_shift, family_moved}
use Rattle.scr_windows.proofs.AncestorLaws.{family_seen}
use Rattle.scr_windows.proofs.desks.Desk.shift_windows.Goals as goal

pub shift_family-requires-clause-near : goal.shift_family-requires-clause-near
shift_family-requires-clause-near c =
    let P : List WindowView → Type 0 = λ ws. All (λ (w : WindowView). IsNearFrame w.frame) ws in
    subst P (sym c.deref_mut.ensures.value) (near_windows _ c.self.invariant)

pub shift_family-requires-clause-shift : goal.shift_family-requires-clause-shift
shift_family-requires-clause-shift c =
    let P : DeskView → Type 0 = λ v. IsShift v c.args.index c.args.shift in
    near_shift _ c.args.index c.args.shift c.self.invariant (subst P (sym c.self.view_is) c.requires.fits)

pub invariant_of-self : goal.invariant_of-self
invariant_of-self c =
    let len = ap length c.shift_family.ensures ∙ length_family c.frame-number.result.number c.args.shift c.deref_mut.result.now ∙ c.deref_mut.ensures.len in
    family_moved _ _ c.self.view_is c.args.index c.args.shift _ c.frame-number.result _ c.self.invariant c.requires.here c.requires.fits c.index.ensures c.frame-number.ensures
    (with_items_is c.self.inside.windows c.shift_family.new.windows len ∙ c.shift_family.ensures ∙ ap (family_shifted c.frame-number.result.number c.args.shift) c.deref_mut.ensures.value)

pub returns-clause-moved : goal.returns-clause-moved
returns-clause-moved c =
    let len = ap length c.shift_family.ensures ∙ length_family c.frame-number.result.number c.args.shift c.deref_mut.result.now ∙ c.deref_mut.ensures.len in
    family_seen _ _ c.self.view_is c.args.index c.args.shift _ c.frame-number.result _ c.self.invariant c.requires.here c.index.ensures c.frame-number.ensures
    (with_items_is c.self.inside.windows c.shift_family.new.windows len ∙ c.shift_family.ensures ∙ ap (family_shifted c.frame-number.result.number c.args.shift) c.deref_mut.ensures.value)
