use Rattle.scr_windows.proofs.RunLaws.{move_of}
use Rattle.scr_windows.proofs.surfaces.Surface.move_row.Goals as goal

pub invariant_of-self : goal.invariant_of-self
invariant_of-self c = (move_of c.grid_laws.ensures c.self.inside.grid c.copy.new.self c.args.self.now c.args.source c.args.start c.args.end c.args.row c.args.to c.self.view_is c.self.invariant c.copy.ensures c.requires.source c.requires.row c.requires.order c.requires.end c.requires.to).surface

pub returns : goal.returns
returns c = move_of c.grid_laws.ensures c.self.inside.grid c.copy.new.self c.args.self.now c.args.source c.args.start c.args.end c.args.row c.args.to c.self.view_is c.self.invariant c.copy.ensures c.requires.source c.requires.row c.requires.order c.requires.end c.requires.to
