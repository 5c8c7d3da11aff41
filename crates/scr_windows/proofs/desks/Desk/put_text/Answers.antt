use Rattle.std.proofs.Common.{◌+◌, ◌∙◌, ap, arith}
use Rattle.scr_windows.specs.Changes.{write}
use Rattle.scr_windows.specs.Code.Stretches.{forms_from, row_laid}
use Rattle.scr_windows.proofs.DeskLaws.{draws_on, draws_part, drawn_is_desk, written_path}
use Rattle.scr_windows.proofs.desks.Desk.put_text.Goals as goal

pub index_mut-requires : goal.index_mut-requires
index_mut-requires c = omega (arith, draws_on _ _ c.args.index _ _ (record { is = c.self.view_is; desk = c.self.invariant; here = c.requires.here; window = c.index_mut-window.ensures.value; frame_is = c.frame-frame.ensures }))

pub write_text-requires-clause-part : goal.write_text-requires-clause-part
write_text-requires-clause-part c = draws_part _ _ c.args.index _ _ _ (record { is = c.self.view_is; desk = c.self.invariant; here = c.requires.here; window = c.index_mut-window.ensures.value; frame_is = c.frame-frame.ensures }) c.index_mut.ensures.value

pub invariant_of-self : goal.invariant_of-self
invariant_of-self c =
    let laid = row_laid c.args.place.0 c.args.place.1 (c.args.place.1 + c.write_text.result) (forms_from c.args.blank c.args.place.1 c.args.text.now) in
    drawn_is_desk c.surface_laws.ensures _ _ c.args.index _ _ _ _ _ c.args.place.0 (c.args.place.0 + 1) laid (record { is = c.self.view_is; desk = c.self.invariant; here = c.requires.here; window = c.index_mut-window.ensures.value; frame_is = c.frame-frame.ensures })
    c.index_mut.ensures.value c.touch_line.ensures c.write_text.ensures.cells

pub returns-clause-put : goal.returns-clause-put
returns-clause-put c =
    let laid = row_laid c.args.place.0 c.args.place.1 (c.args.place.1 + c.write_text.result) (forms_from c.args.blank c.args.place.1 c.args.text.now) in
    written_path _ _ c.args.index _ _ _ _ _ c.args.place.0 (c.args.place.0 + 1) laid (record { is = c.self.view_is; desk = c.self.invariant; here = c.requires.here; window = c.index_mut-window.ensures.value; frame_is = c.frame-frame.ensures })
    c.index_mut.ensures.value c.touch_line.ensures c.write_text.ensures.cells
    ∙ ap (λ v. write v c.args.index c.args.place.0 (c.args.place.0 + 1) laid) c.self.view_is
