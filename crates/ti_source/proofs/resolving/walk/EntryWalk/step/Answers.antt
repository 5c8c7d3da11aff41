use Rattle.std.proofs.Common.{◌∙◌, None, ap, inr, refl, reverse}
use Rattle.ti_source.specs.declared.resolving.walk.EntryTask.TheVariants.{Visit}
use Rattle.ti_source.specs.Code.EntryWalk.{leaves}
use Rattle.ti_source.proofs.WalkLaws.{unknown-at}
use Rattle.ti_source.proofs.resolving.walk.EntryWalk.step.Goals as goal

pub returns-in-None-clause-err : goal.returns-in-None-clause-err
returns-in-None-clause-err c =
    inr (record {
      same = refl;
      index = None;
      visit = c.in-Visit.is ∙ ap Visit c.in-None.is;
      stuck = unknown-at c.args.entries.now (leaves (reverse c.args.self.now.tasks.items));
    })
