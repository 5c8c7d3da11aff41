use Rattle.std.proofs.Common.{◌∙◌, sym, ap}
use Rattle.scr_windows.proofs.DeskLaws.{frame_of}
use Rattle.scr_windows.proofs.ResizingLaws.{area_set, has_place}
use Rattle.scr_windows.proofs.desks.Desk.resize_sub.Goals as goal

pub resized-requires-clause-rows : goal.resized-requires-clause-rows
resized-requires-clause-rows c = (has_place c.frame-parent.result.area c.in-Some.area c.args.rows c.args.columns _ _ (sym c.part_of.ensures ∙ c.in-Some.is)).0

pub resized-requires-clause-columns : goal.resized-requires-clause-columns
resized-requires-clause-columns c = (has_place c.frame-parent.result.area c.in-Some.area c.args.rows c.args.columns _ _ (sym c.part_of.ensures ∙ c.in-Some.is)).1

pub invariant_of-self : goal.invariant_of-self
invariant_of-self c =
    area_set _ _ c.self.view_is c.args.index c.args.above _ _ c.frame-frame.result c.frame-parent.result c.in-Some.area c.args.rows c.args.columns _ _ c.self.invariant c.requires.here c.requires.there c.index.ensures c.in_ok-window.ensures c.requires.parent c.requires.alone
    (c.frame-frame.ensures ∙ ap frame_of c.window_at.ensures.window) (c.frame-parent.ensures ∙ ap frame_of c.window_at-2.ensures.window) c.saturating_sub-row.ensures c.saturating_sub-column.ensures (sym c.part_of.ensures ∙ c.in-Some.is) (sym c.ends_inside.ensures ∙ c.if-not-ends_inside.false)
