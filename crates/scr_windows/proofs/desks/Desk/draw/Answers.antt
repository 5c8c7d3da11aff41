use Rattle.std.proofs.Common.{arith}
use Rattle.scr_windows.specs.Surfaces.Drawings.{drawn}
use Rattle.scr_windows.proofs.DeskLaws.{draws_on, draws_part, drawing_path, drawn_is_desk}
use Rattle.scr_windows.proofs.desks.Desk.draw.Goals as goal

pub index_mut-requires : goal.index_mut-requires
index_mut-requires c = omega (arith, draws_on _ _ c.args.index _ _ (record { is = c.self.view_is; desk = c.self.invariant; here = c.requires.here; window = c.index_mut-window.ensures.value; frame_is = c.frame-frame.ensures }))

pub draw-requires-clause-part : goal.draw-requires-clause-part
draw-requires-clause-part c = draws_part _ _ c.args.index _ _ _ (record { is = c.self.view_is; desk = c.self.invariant; here = c.requires.here; window = c.index_mut-window.ensures.value; frame_is = c.frame-frame.ensures }) c.index_mut.ensures.value

pub invariant_of-self : goal.invariant_of-self
invariant_of-self c =
    drawn_is_desk c.surface_laws.ensures _ _ c.args.index _ _ _ _ _ c.lines_of-first.result.0 c.lines_of-first.result.1 (drawn c.args.drawing.now c.frame-frame.result.area.rows c.frame-frame.result.area.columns) (record { is = c.self.view_is; desk = c.self.invariant; here = c.requires.here; window = c.index_mut-window.ensures.value; frame_is = c.frame-frame.ensures })
    c.index_mut.ensures.value c.mark.ensures c.draw.ensures

pub returns-clause-drawn : goal.returns-clause-drawn
returns-clause-drawn c =
    drawing_path _ _ c.args.index _ _ _ _ _ c.lines_of-first.result c.args.drawing.now (record { is = c.self.view_is; desk = c.self.invariant; here = c.requires.here; window = c.index_mut-window.ensures.value; frame_is = c.frame-frame.ensures })
    c.index_mut.ensures.value c.lines_of-first.ensures c.mark.ensures c.draw.ensures
