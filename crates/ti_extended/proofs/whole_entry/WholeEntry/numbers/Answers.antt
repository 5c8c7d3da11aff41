use Rattle.std.proofs.Common.{◌∙◌, ap, length, sym}
use Rattle.ti_extended.specs.Whole.{Whole}
use Rattle.ti_extended.proofs.EntryLaws.{many_of}
use Rattle.ti_extended.proofs.whole_entry.WholeEntry.numbers.Goals as goal

pub returns-clause-many : goal.returns-clause-many
returns-clause-many c =
    ap (λ (w : Whole). length w.numbers) (sym c.self.view_is) ∙ many_of c.self.inside.entry c.self.inside.numbers.items c.names-own.ensures.described c.self.invariant.clamps
