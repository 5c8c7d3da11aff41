use Rattle.std.proofs.Common.{arith, option_map}
use Rattle.scr_plan.proofs.SkipLaws.{part_shown}
use Rattle.scr_plan.proofs.scenes.Scene.shown_by_eight.Goals as goal

pub returns-clause-same : goal.returns-clause-same
returns-clause-same c = λ column low high pairs.
    part_shown c.args.self.now.painter pairs c.args.from c.args.end c.shown_before.result (option_map (λ looks. looks.now) c.looks_in.result) (option_map (λ looks. looks.now) c.args.line.now.before) c.args.line.now.cells.now
    c.requires.from (omega arith) c.looks_in.ensures.shown c.shown_before.ensures.same column low high
