use Rattle.std.proofs.Common.{◌≡◌, ◌∙◌, ap, arith}
use Rattle.scr_windows.specs.declared.frames.Frame.{Frame}
use Rattle.scr_windows.specs.declared.frames.WindowState.{WindowState}
use Rattle.scr_windows.specs.DeskViews.{WindowView, window_at}
use Rattle.scr_windows.proofs.TextLaws.{first_fits, stretch_added}
use Rattle.scr_windows.proofs.desks.Desk.add_stretch.Goals as goal

pub overflow_cast-count : goal.overflow_cast-count
overflow_cast-count c =
    let there = c.window_at.ensures.placed in
    omega (arith, c.requires.room, c.put_text-count.ensures.count, first_fits c.args.text.now, there.part.right, there.whole.size.few_columns)

pub overflow_add-column : goal.overflow_add-column
overflow_add-column c =
    let there = c.window_at.ensures.placed in
    let state : c.state-state.result ≡ (window_at c.args.self.now c.args.index).state = c.state-state.ensures ∙ ap (λ (w : WindowView). w.state) c.window_at.ensures.window in
    omega (arith, c.requires.room, c.put_text-count.ensures.count, first_fits c.args.text.now, there.part.right, there.whole.size.few_columns, ap (λ (st : WindowState). st.cursor.1) state)

pub set_cursor-requires-clause-column : goal.set_cursor-requires-clause-column
set_cursor-requires-clause-column c =
    let state : c.state-state.result ≡ (window_at c.args.self.now c.args.index).state = c.state-state.ensures ∙ ap (λ (w : WindowView). w.state) c.window_at.ensures.window in
    let columns = ap (λ (f : Frame). f.area.columns) c.put_text-count.ensures.kept.frame in
    omega (arith, c.requires.room, c.put_text-count.ensures.count, first_fits c.args.text.now, columns, ap (λ (st : WindowState). st.cursor.1) state)

pub returns-clause-added : goal.returns-clause-added
returns-clause-added c =
    stretch_added c.surface_laws.ensures c.args.self.now c.put_text-count.new.self _ c.args.index c.put_text-count.result c.args.text.now c.written_form-blank.result c.state-state.result c.window_at.ensures.placed
    (c.state-state.ensures ∙ ap (λ (w : WindowView). w.state) c.window_at.ensures.window) c.requires.some c.requires.room c.written_form-blank.ensures c.put_text-count.ensures.count c.put_text-count.ensures.put c.set_cursor.ensures
