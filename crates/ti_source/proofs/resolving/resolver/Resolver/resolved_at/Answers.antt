use Rattle.std.proofs.Common.{[], ◌∙◌, ap, refl, subst, sym}
use Rattle.ti_source.specs.Resolving.Named.{index_of}
use Rattle.ti_source.specs.Resolving.Uses.{Resolved, merged}
use Rattle.ti_source.proofs.AloneLaws.{alone-resolves, ok-more}
use Rattle.ti_source.proofs.resolving.resolver.Resolver.resolved_at.Goals as goal

pub returns-in-Some-clause-ok : goal.returns-in-Some-clause-ok
returns-in-Some-clause-ok c =
    ok-more c.alone.result _ _ c.alone.ensures.ok (λ e is name index. subst (λ d. Resolved c.args.self.now name d) (sym is)
    (subst (λ es. Resolved es name (merged c.in-Some.entry [])) c.self.view_is (alone-resolves c.self.inside.entries.now name c.args.index c.in-Some.entry [] (sym index ∙ ap (λ es. index_of es name) (sym c.self.view_is)) c.in-Some.ensures refl)))
