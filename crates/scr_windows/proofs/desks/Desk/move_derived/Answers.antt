use Rattle.std.proofs.Common.{◌+◌, ◌≤◌, ◌∙◌, ap, sym, arith}
use Rattle.std.proofs.lemmas.Bool.Decides.{nat_tests}
use Rattle.scr_windows.proofs.DeskLaws.{frame_of}
use Rattle.scr_windows.proofs.MovingLaws.{derived_fits}
use Rattle.scr_windows.proofs.desks.Desk.move_derived.Goals as goal

pub move_family-requires-clause-fits : goal.move_family-requires-clause-fits
move_family-requires-clause-fits c =
    let rows : c.args.row + c.frame-frame.result.area.rows ≤ c.frame.result.area.rows = grind (arith, nat_tests) in
    let columns : c.args.column + c.frame-frame.result.area.columns ≤ c.frame.result.area.columns = grind (arith, nat_tests) in
    derived_fits c.args.self.now c.in_ok-index.index c.in_ok-above.above c.in-Some.parent c.args.row c.args.column c.frame-frame.result c.frame.result.area
    (c.frame-frame.ensures ∙ ap frame_of c.window_at.ensures.window) c.in-Some.is (sym c.in_ok-above.ensures.index) (ap (λ f. f.area) (c.frame.ensures ∙ ap frame_of c.window_at-2.ensures.window)) rows columns
