use Rattle.std.proofs.Common.{◌≡◌, ◌+◌, ℕ, arith, subst}
use Rattle.scr_windows.specs.Code.Steps.{RunIs}
use Rattle.scr_windows.proofs.FilledLaws.{filled_is}
use Rattle.scr_windows.proofs.ChangeLaws.{run_filled}
use Rattle.scr_windows.proofs.surfaces.Surface.put.Goals as goal

pub returns : goal.returns
returns c =
    let end : c.args.area.left + c.args.column + 1 ≡ c.args.area.left + (c.args.column + 1) = omega arith in
    let P : ℕ → Type 0 = λ n. RunIs c.args.self.now c.put_place.new.self (c.args.area.top + c.args.row) (c.args.area.left + c.args.column) n (λ _. c.args.cell) in
    filled_is _ _ _ _ (run_filled _ _ c.args.area c.args.row c.args.column (c.args.column + 1) c.args.cell c.size.ensures.surface c.requires.part c.requires.row (omega (arith, c.requires.column)) (subst P end c.put_place.ensures))
