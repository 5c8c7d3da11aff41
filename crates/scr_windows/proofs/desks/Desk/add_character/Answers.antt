use Rattle.std.proofs.Common.{◌≡◌, ◌∙◌, Result, Ok, Err, true, cond, ap, refl, subst, sym}
use Rattle.scr_cells.specs.Characters.{is_character}
use Rattle.scr_windows.specs.declared.faults.Added.{Added}
use Rattle.scr_windows.specs.declared.faults.WinFault.{WinFault}
use Rattle.scr_windows.specs.declared.faults.WinFault.TheVariants.{NotOneColumn}
use Rattle.scr_windows.specs.DeskViews.{DeskView, HasSameSize, WindowView}
use Rattle.scr_windows.specs.Calls.Adding.{add_character_call, character_added}
use Rattle.scr_windows.proofs.AddingLaws.{cell_size, character_is_cell}
use Rattle.scr_windows.proofs.WrittenLaws.{on_index}
use Rattle.scr_windows.proofs.desks.Desk.add_character.Goals as goal

pub returns-clause-call : goal.returns-clause-call
unfolding add_character_call
returns-clause-call c =
    let d = c.args.self.now in
    let i = c.in_ok-index.index in
    let code = c.args.character in
    let Answer : Type 0 = DeskView × Result Added WinFault in
    let added : DeskView × Added = character_added d i code c.args.attrs in
    let state = c.state-state.ensures ∙ ap (λ (w : WindowView). w.state) c.window_at.ensures.window in
    let e : ◌≡◌ {A = DeskView × Added} (c.write_cell.new.self, c.write_cell.result) added = c.write_cell.ensures.added ∙ character_is_cell d i code c.args.attrs c.in-Some.cell c.state-state.result c.in-Some.ensures.form state in
    let one : ◌≡◌ {A = Answer} (c.write_cell.new.self, Ok c.write_cell.result) (added.0, Ok added.1) = (λ j. ((e j).0, Ok (e j).1)) in
    let is : is_character code ≡ true = c.in-Some.ensures.some.0 refl in
    let two : ◌≡◌ {A = Answer} (added.0, Ok added.1) (cond (is_character code) (added.0, Ok added.1) (d, Err NotOneColumn)) = ap (λ t. cond t (added.0, Ok added.1) (d, Err NotOneColumn)) (sym is) in
    one ∙ two ∙ on_index {A = Added} d c.args.win.0 i (λ i. cond (is_character code) ((character_added d i code c.args.attrs).0, Ok (character_added d i code c.args.attrs).1) (d, Err NotOneColumn)) (sym c.in_ok-index.ensures.index)

pub returns-clause-size : goal.returns-clause-size
returns-clause-size c = subst (λ (r : DeskView × Added). HasSameSize c.args.self.now r.0) (sym c.write_cell.ensures.added) (cell_size _ _ _)
