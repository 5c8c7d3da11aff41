use Rattle.std.proofs.Common.{◌∙◌, arith}
use Rattle.scr_windows.proofs.DeskLaws.{draws_on, draws_part, draws_row}
use Rattle.scr_windows.proofs.desks.Desk.row_of.Goals as goal

pub index-requires-2 : goal.index-requires-2
index-requires-2 c = omega (arith, draws_on _ _ c.args.index _ _ (record { is = c.self.view_is; desk = c.self.invariant; here = c.requires.here; window = c.index.ensures; frame_is = c.frame-frame.ensures }))

pub line-requires-clause-part : goal.line-requires-clause-part
line-requires-clause-part c = draws_part _ _ c.args.index _ _ _ (record { is = c.self.view_is; desk = c.self.invariant; here = c.requires.here; window = c.index.ensures; frame_is = c.frame-frame.ensures }) c.index-2.ensures

pub returns-clause-cells : goal.returns-clause-cells
returns-clause-cells c = c.line.ensures.cells ∙ draws_row _ _ c.args.index _ _ _ (record { is = c.self.view_is; desk = c.self.invariant; here = c.requires.here; window = c.index.ensures; frame_is = c.frame-frame.ensures }) c.index-2.ensures c.args.row
