use Rattle.std.proofs.Common.{◌≡◌, ◌-◌, arith, length, replicate}
use Rattle.std.proofs.lemmas.List.{get_or-replicate, length-replicate}
use Rattle.scr_windows.proofs.RunLaws.{run_of}
use Rattle.scr_windows.proofs.surfaces.Surface.put_row.Goals as goal

pub invariant_of-self : goal.invariant_of-self
invariant_of-self c =
    let n = c.args.end - c.args.from in
    let len : length (replicate n c.args.cell) ≡ n = length-replicate n c.args.cell in
    (run_of c.grid_laws.ensures c.self.inside.grid c.fill.new.self c.args.self.now c.args.row c.args.from c.args.end (replicate n c.args.cell) (λ _. c.args.cell) c.self.view_is c.self.invariant c.fill.ensures
    c.requires.row (omega (arith, len)) c.requires.end (λ k h. get_or-replicate n k c.args.cell _ (omega (arith, len)))).surface

pub returns : goal.returns
returns c =
    let n = c.args.end - c.args.from in
    let len : length (replicate n c.args.cell) ≡ n = length-replicate n c.args.cell in
    run_of c.grid_laws.ensures c.self.inside.grid c.fill.new.self c.args.self.now c.args.row c.args.from c.args.end (replicate n c.args.cell) (λ _. c.args.cell) c.self.view_is c.self.invariant c.fill.ensures
    c.requires.row (omega (arith, len)) c.requires.end (λ k h. get_or-replicate n k c.args.cell _ (omega (arith, len)))
