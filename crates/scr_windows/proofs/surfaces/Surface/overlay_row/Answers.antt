use Rattle.std.proofs.Common.{arith, rules, ◌-◌, get_or}
use Rattle.scr_cells.specs.CellViews.{blank_cell}
use Rattle.scr_windows.specs.Surfaces.Formulas.{over}
use Rattle.scr_windows.proofs.RunLaws.{change_of}
use Rattle.scr_windows.proofs.surfaces.Surface.overlay_row.Goals as goal

pub invariant_of-self : goal.invariant_of-self
invariant_of-self c = (change_of c.grid_laws.ensures c.self.inside.grid c.change.new.self c.args.self.now c.args.row c.args.from c.args.end (λ k x. over (get_or c.args.cells.now (k - c.args.from) blank_cell) x) c.self.view_is c.self.invariant (c.change.ensures (λ k x. over (get_or c.args.cells.now (k - c.args.from) blank_cell) x) (λ k x y p. search rules)) c.requires.row (omega arith) c.requires.end).surface

pub returns : goal.returns
returns c = change_of c.grid_laws.ensures c.self.inside.grid c.change.new.self c.args.self.now c.args.row c.args.from c.args.end (λ k x. over (get_or c.args.cells.now (k - c.args.from) blank_cell) x) c.self.view_is c.self.invariant (c.change.ensures (λ k x. over (get_or c.args.cells.now (k - c.args.from) blank_cell) x) (λ k x y p. search rules)) c.requires.row (omega arith) c.requires.end
