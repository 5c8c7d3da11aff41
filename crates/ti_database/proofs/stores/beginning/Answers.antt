use Rattle.std.proofs.Common.{◌∙◌, ap, length, refl, take}
use Rattle.ti_database.proofs.SearchLaws.{take_least}
use Rattle.ti_database.proofs.stores.beginning.Goals as goal

pub returns-clause-value : goal.returns-clause-value
returns-clause-value c = ap (λ n. take n c.args.file.now) c.min.ensures ∙ take_least (length c.args.file.now) 32769 c.args.file.now refl
