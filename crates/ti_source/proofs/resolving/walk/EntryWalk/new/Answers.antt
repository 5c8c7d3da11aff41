use Rattle.std.proofs.Common.{◌∙◌, ap, replicate, refl}
use Rattle.ti_source.specs.declared.resolving.marks.Mark.TheVariants.{New}
use Rattle.ti_source.proofs.WalkLaws.{walk-new}
use Rattle.ti_source.proofs.resolving.walk.EntryWalk.new.Goals as goal

pub returns-clause-ready : goal.returns-clause-ready
returns-clause-ready c = (
  walk-new c.args.entries.now c.in_ok-new_marks.field-0.items c.new.result.items (c.in_ok-new_marks.ensures ∙ ap (λ n. replicate n New) c.len.ensures),
  rw c.new-2.ensures.items refl,
)
