use Rattle.std.proofs.Common.{◌∙◌, ◌++◌, ap}
use Rattle.ti_source.proofs.AloneLaws.{alone-merged, ok-more}
use Rattle.ti_source.proofs.resolving.resolver.alone.Goals as goal

pub returns-clause-ok : goal.returns-clause-ok
returns-clause-ok c =
    ok-more c.merge.result _ _ c.merge.ensures.ok (λ e is. is ∙ alone-merged c.args.entry.now c.names.result.now c.extend_from_slice.new.self c.names.ensures.value (c.in_ok-extend_from_slice.ensures ∙ ap (λ fs. fs ++ c.statements.result.now) c.new-fields.ensures ∙ c.statements.ensures.value))
