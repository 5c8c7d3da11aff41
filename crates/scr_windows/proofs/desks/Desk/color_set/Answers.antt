use Rattle.std.proofs.Common.{refl, arith}
use Rattle.std.specs.Prelude.{◌≡◌, true, ltb}
use Rattle.std.proofs.lemmas.Bool.Decides.{nat_tests}
use Rattle.scr_windows.specs.declared.faults.WinFault.TheVariants.{BadPair}
use Rattle.scr_windows.specs.Calls.Settings.{color_set_call}
use Rattle.scr_windows.proofs.WrittenLaws.{set_where}
use Rattle.scr_windows.proofs.desks.Desk.color_set.Goals as goal

pub returns-clause-call : goal.returns-clause-call
unfolding color_set_call
returns-clause-call c =
    let canvas = c.in_ok-canvas.canvas in
    let inside : (ltb c.args.pair 64) ≡ true = grind (arith, nat_tests) in
    set_where c.args.self.now _ c.args.win.0 canvas _ (λ area. ltb c.args.pair 64) (λ s. record s { pair = c.args.pair }) BadPair c.in_ok-canvas.ensures inside c.set_state.ensures refl
