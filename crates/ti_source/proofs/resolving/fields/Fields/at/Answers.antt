use Rattle.std.proofs.Common.{◌<◌, length, subst, sym}
use Rattle.ti_source.proofs.GoodLaws.{good-seen}
use Rattle.ti_source.proofs.resolving.fields.Fields.at.Goals as goal

pub returns-clause-good : goal.returns-clause-good
returns-clause-good c = good-seen (λ s. s.now) c.self.inside.0.items c.args.i c.index.result.now c.self.invariant (subst (λ fs. c.args.i < length fs) (sym c.self.view_is) c.requires) c.index.ensures
