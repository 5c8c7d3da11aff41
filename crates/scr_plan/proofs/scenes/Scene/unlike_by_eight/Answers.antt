use Rattle.std.proofs.Common.{arith, option_map}
use Rattle.scr_plan.proofs.SkipLaws.{part_alike, part_unlike}
use Rattle.scr_plan.proofs.scenes.Scene.unlike_by_eight.Goals as goal

pub returns-clause-unlike : goal.returns-clause-unlike
returns-clause-unlike c = λ column low high pairs same.
    part_unlike c.args.self.now.painter pairs c.args.from c.args.end c.unshown_before.result (option_map (λ looks. looks.now) c.looks_in.result) (option_map (λ looks. looks.now) c.args.line.now.before) c.args.line.now.cells.now
    c.requires.from (omega arith) c.looks_in.ensures.shown c.unshown_before.ensures.unseen column low high same

pub returns-clause-alike : goal.returns-clause-alike
returns-clause-alike c = part_alike c.args.from c.args.end c.unshown_before.result c.args.line.now.cells.now c.requires.from (omega arith) c.unshown_before.ensures.alike
