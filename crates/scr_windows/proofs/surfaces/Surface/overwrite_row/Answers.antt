use Rattle.std.proofs.Common.{arith, ◌≡◌, ◌+◌, ◌-◌, ap, get_or}
use Rattle.scr_cells.specs.CellViews.{blank_cell}
use Rattle.scr_windows.proofs.RunLaws.{run_of}
use Rattle.scr_windows.proofs.surfaces.Surface.overwrite_row.Goals as goal

pub invariant_of-self : goal.invariant_of-self
invariant_of-self c = (run_of c.grid_laws.ensures c.self.inside.grid c.lay.new.self c.args.self.now c.args.row c.args.from c.args.end c.args.cells.now (λ k. get_or c.args.cells.now (k - c.args.from) blank_cell) c.self.view_is c.self.invariant c.lay.ensures c.requires.row c.requires.width c.requires.end (λ k h. let e : k ≡ c.args.from + k - c.args.from = omega arith in ap (λ i. get_or c.args.cells.now i blank_cell) e)).surface

pub returns : goal.returns
returns c = run_of c.grid_laws.ensures c.self.inside.grid c.lay.new.self c.args.self.now c.args.row c.args.from c.args.end c.args.cells.now (λ k. get_or c.args.cells.now (k - c.args.from) blank_cell) c.self.view_is c.self.invariant c.lay.ensures c.requires.row c.requires.width c.requires.end (λ k h. let e : k ≡ c.args.from + k - c.args.from = omega arith in ap (λ i. get_or c.args.cells.now i blank_cell) e)
