use Rattle.std.proofs.Common.{◌+◌, ◌∙◌, ap, arith}
use Rattle.scr_windows.specs.Surfaces.Formulas.{run_put}
use Rattle.scr_windows.specs.Changes.{write}
use Rattle.scr_windows.proofs.DeskLaws.{draws_on, draws_part, drawn_is_desk, written_path}
use Rattle.scr_windows.proofs.desks.Desk.put.Goals as goal

pub index_mut-requires : goal.index_mut-requires
index_mut-requires c = omega (arith, draws_on _ _ c.args.index _ _ (record { is = c.self.view_is; desk = c.self.invariant; here = c.requires.here; window = c.index_mut-window.ensures.value; frame_is = c.frame-frame.ensures }))

pub put-requires-clause-part : goal.put-requires-clause-part
put-requires-clause-part c = draws_part _ _ c.args.index _ _ _ (record { is = c.self.view_is; desk = c.self.invariant; here = c.requires.here; window = c.index_mut-window.ensures.value; frame_is = c.frame-frame.ensures }) c.index_mut.ensures.value

pub invariant_of-self : goal.invariant_of-self
invariant_of-self c =
    drawn_is_desk c.surface_laws.ensures _ _ c.args.index _ _ _ _ _ c.args.row (c.args.row + 1) (run_put c.args.row c.args.column (c.args.column + 1) c.args.cell) (record { is = c.self.view_is; desk = c.self.invariant; here = c.requires.here; window = c.index_mut-window.ensures.value; frame_is = c.frame-frame.ensures })
    c.index_mut.ensures.value c.touch_line.ensures c.put.ensures

pub returns-clause-put : goal.returns-clause-put
returns-clause-put c =
    written_path _ _ c.args.index _ _ _ _ _ c.args.row (c.args.row + 1) (run_put c.args.row c.args.column (c.args.column + 1) c.args.cell) (record { is = c.self.view_is; desk = c.self.invariant; here = c.requires.here; window = c.index_mut-window.ensures.value; frame_is = c.frame-frame.ensures })
    c.index_mut.ensures.value c.touch_line.ensures c.put.ensures
    ∙ ap (λ v. write v c.args.index c.args.row (c.args.row + 1) (run_put c.args.row c.args.column (c.args.column + 1) c.args.cell)) c.self.view_is
