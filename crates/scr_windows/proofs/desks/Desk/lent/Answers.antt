use Rattle.std.proofs.Common.{◌∙◌, arith, subst}
use Rattle.scr_windows.specs.declared.frames.Frame.{Frame}
use Rattle.scr_windows.specs.Surfaces.SurfaceViews.{IsPart}
use Rattle.scr_windows.proofs.DeskLaws.{draws_contents, draws_on, draws_part}
use Rattle.scr_windows.proofs.desks.Desk.lent.Goals as goal

pub index-requires : goal.index-requires
index-requires c = omega (arith, draws_on _ _ c.args.index _ _ (record { is = c.self.view_is; desk = c.self.invariant; here = c.requires; window = c.index-window.ensures; frame_is = c.frame.ensures }))

pub new-requires-clause-part : goal.new-requires-clause-part
new-requires-clause-part c =
    let P : Frame → Type 0 = λ f. IsPart c.index.result.now f.area in
    subst P c.frame.ensures (draws_part _ _ c.args.index _ _ _ (record { is = c.self.view_is; desk = c.self.invariant; here = c.requires; window = c.index-window.ensures; frame_is = c.frame.ensures }) c.index.ensures)

pub returns : goal.returns
returns c = c.new.ensures ∙ draws_contents _ _ c.args.index _ _ _ (record { is = c.self.view_is; desk = c.self.invariant; here = c.requires; window = c.index-window.ensures; frame_is = c.frame.ensures }) c.index.ensures
