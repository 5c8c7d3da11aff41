use Rattle.std.proofs.Common.{rules}
use Rattle.scr_cells.specs.CellViews.{exchanged}
use Rattle.scr_windows.proofs.RunLaws.{change_of}
use Rattle.scr_windows.proofs.surfaces.Surface.exchange_row.Goals as goal

pub invariant_of-self : goal.invariant_of-self
invariant_of-self c = (change_of c.grid_laws.ensures c.self.inside.grid c.change.new.self c.args.self.now c.args.row c.args.from c.args.end (λ k x. exchanged c.args.old c.args.new x) c.self.view_is c.self.invariant (c.change.ensures (λ k x. exchanged c.args.old c.args.new x) (λ k x y p. search rules)) c.requires.row c.requires.order c.requires.end).surface

pub returns : goal.returns
returns c = change_of c.grid_laws.ensures c.self.inside.grid c.change.new.self c.args.self.now c.args.row c.args.from c.args.end (λ k x. exchanged c.args.old c.args.new x) c.self.view_is c.self.invariant (c.change.ensures (λ k x. exchanged c.args.old c.args.new x) (λ k x y p. search rules)) c.requires.row c.requires.order c.requires.end
