use Rattle.std.proofs.Common.{◌++◌, ◌∙◌, ap, subst, sym}
use Rattle.ti_source.specs.Code.EntryWalk.{Gathers}
use Rattle.ti_source.proofs.resolving.walk.gathered.Goals as goal

pub returns : goal.returns
returns c =
    let added = c.in_ok-add_gathered.ensures in
    subst (λ fs. Gathers c.args.entries.now c.args.entry.now fs) (sym (added.1 ∙ ap (λ fs. fs ++ added.0) c.new-fields.ensures)) added.2
