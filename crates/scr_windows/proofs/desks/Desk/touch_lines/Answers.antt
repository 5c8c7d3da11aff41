use Rattle.std.proofs.Common.{◌≡◌, ◌+◌, true, arith}
use Rattle.std.specs.Prelude.{leb}
use Rattle.std.proofs.lemmas.Bool.Decides.{nat_tests}
use Rattle.scr_windows.specs.declared.faults.WinFault.TheVariants.{OutOfWindow}
use Rattle.scr_windows.specs.DeskViews.{window_at}
use Rattle.scr_windows.specs.Changes.{with_window, marked}
use Rattle.scr_windows.specs.Calls.Touching.{touch_lines_call}
use Rattle.scr_windows.proofs.WrittenLaws.{changed_where}
use Rattle.scr_windows.proofs.desks.Desk.touch_lines.Goals as goal

pub returns-clause-call : goal.returns-clause-call
unfolding touch_lines_call
returns-clause-call c =
    let canvas = c.in_ok-canvas.canvas in
    let inside : leb (c.args.first + c.args.n) canvas.area.rows ≡ true = grind (arith, nat_tests) in
    changed_where c.args.self.now _ c.args.win.0 canvas (λ area. leb (c.args.first + c.args.n) area.rows) (λ i s. with_window c.args.self.now i (marked c.args.first (c.args.first + c.args.n) c.args.changed (window_at c.args.self.now i))) (λ s. tt) OutOfWindow c.in_ok-canvas.ensures inside
    c.mark.ensures
