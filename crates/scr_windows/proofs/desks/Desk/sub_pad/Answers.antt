use Rattle.std.proofs.Common.{◌∙◌, ap, sym}
use Rattle.scr_windows.proofs.ChildLaws.{divided_place, no_origin}
use Rattle.scr_windows.proofs.desks.Desk.sub_pad.Goals as goal

pub add_child-requires-clause-inside : goal.add_child-requires-clause-inside
add_child-requires-clause-inside c =
    divided_place c.args.self.now c.in_ok-index.index c.frame-frame.result c.in-Some.area c.args.rows c.args.columns c.args.row c.args.column
    (c.frame-frame.ensures ∙ ap (λ w. w.frame) c.window_at.ensures.window) (no_origin c.frame-frame.result.origin (sym c.is_some.ensures ∙ c.if-is_some.false)) (sym c.part_of.ensures ∙ c.in-Some.is)
