use Rattle.std.proofs.Common.{refl, arith}
use Rattle.std.specs.Prelude.{◌≡◌, true, ltb, ◌&&◌}
use Rattle.std.proofs.lemmas.Bool.Decides.{nat_tests}
use Rattle.scr_windows.specs.declared.faults.WinFault.TheVariants.{OutOfWindow}
use Rattle.scr_windows.specs.Calls.Settings.{move_cursor_call}
use Rattle.scr_windows.proofs.WrittenLaws.{set_where}
use Rattle.scr_windows.proofs.desks.Desk.move_cursor.Goals as goal

pub returns-clause-call : goal.returns-clause-call
unfolding move_cursor_call
returns-clause-call c =
    let canvas = c.in_ok-canvas.canvas in
    let inside : (ltb c.args.row canvas.area.rows && ltb c.args.column canvas.area.columns) ≡ true = grind (arith, nat_tests) in
    set_where c.args.self.now _ c.args.win.0 canvas _ (λ area. ltb c.args.row area.rows && ltb c.args.column area.columns) (λ s. record s { cursor = (c.args.row, c.args.column) }) OutOfWindow c.in_ok-canvas.ensures inside c.set_state.ensures refl
