use Rattle.std.specs.Prelude.{bit_or}
use Rattle.scr_windows.specs.Calls.Settings.{attr_on_call}
use Rattle.scr_windows.proofs.WrittenLaws.{set_in}
use Rattle.scr_windows.proofs.desks.Desk.attr_on.Goals as goal

pub returns-clause-call : goal.returns-clause-call
unfolding attr_on_call
returns-clause-call c =
    let canvas = c.in_ok-canvas.canvas in
    set_in c.args.self.now _ c.args.win.0 canvas _ (λ s. record s { attrs = record { 0 = bit_or s.attrs.0 c.args.attrs.0 } }) c.in_ok-canvas.ensures c.set_state.ensures (λ j. record canvas.state { attrs = record { 0 = c.union-canvas.ensures tt j } })
