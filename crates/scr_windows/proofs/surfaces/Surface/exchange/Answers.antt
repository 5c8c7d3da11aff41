use Rattle.std.proofs.Common.{◌≡◌, ℕ, arith, subst}
use Rattle.scr_windows.specs.Code.Steps.{Changes}
use Rattle.scr_windows.proofs.FilledLaws.{filled_is}
use Rattle.scr_windows.proofs.ChangeLaws.{partly_exchanged, exchange_begun, exchange_more, exchange_all}
use Rattle.scr_windows.proofs.surfaces.Surface.exchange.Goals as goal

pub loop-row-init : goal.loop-row-init
loop-row-init c = exchange_begun _ c.args.area c.args.old c.args.new c.requires.surface

pub loop-row-preserved : goal.loop-row-preserved
loop-row-preserved c = exchange_more _ _ _ c.args.area c.loop-row.row c.args.old c.args.new c.requires.part (omega arith) c.loop-row.invariant c.exchange_row.ensures

pub returns : goal.returns
returns c =
    let done : c.loop-row.row ≡ c.args.area.rows = omega arith in
    let P : ℕ → Type 0 = λ row. Changes c.args.self.now c.loop-row.self c.args.area (partly_exchanged row c.args.old c.args.new) in
    filled_is _ _ _ _ (exchange_all _ _ _ _ _ (subst P done c.loop-row.invariant))
