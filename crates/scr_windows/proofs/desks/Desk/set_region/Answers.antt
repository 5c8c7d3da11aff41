use Rattle.std.proofs.Common.{refl, arith}
use Rattle.std.specs.Prelude.{◌≡◌, true, leb, ltb, ◌&&◌}
use Rattle.std.proofs.lemmas.Bool.Decides.{nat_tests}
use Rattle.scr_windows.specs.declared.faults.WinFault.TheVariants.{BadRegion}
use Rattle.scr_windows.specs.Calls.Settings.{set_region_call}
use Rattle.scr_windows.proofs.WrittenLaws.{set_where}
use Rattle.scr_windows.proofs.desks.Desk.set_region.Goals as goal

pub returns-clause-call : goal.returns-clause-call
unfolding set_region_call
returns-clause-call c =
    let canvas = c.in_ok-canvas.canvas in
    let inside : (leb c.args.top c.args.bottom && ltb c.args.bottom canvas.area.rows) ≡ true = grind (arith, nat_tests) in
    set_where c.args.self.now _ c.args.win.0 canvas _ (λ area. leb c.args.top c.args.bottom && ltb c.args.bottom area.rows) (λ s. record s { region = (c.args.top, c.args.bottom) }) BadRegion c.in_ok-canvas.ensures inside c.set_state.ensures refl
