use Rattle.std.specs.Prelude.{is_none}
use Rattle.std.proofs.Common.{◌≡◌, ◌∙◌, ap, false, inr, subst, sym, rules}
use Rattle.ti_source.specs.declared.faults.SourceFault.TheVariants.{UnknownName}
use Rattle.ti_source.specs.Resolving.Named.{index_of}
use Rattle.ti_source.specs.Resolving.Uses.{Unresolved}
use Rattle.ti_source.proofs.AloneLaws.{has-index, no-name}
use Rattle.ti_source.proofs.OnceLaws.{err-at, good-answer}
use Rattle.ti_source.proofs.resolving.resolver.Resolver.resolve.Goals as goal

pub returns-then-is_none-clause-err : goal.returns-then-is_none-clause-err
returns-then-is_none-clause-err c =
    inr (subst (λ es. Unresolved es c.args.name.now UnknownName) c.self.view_is (no-name c.self.inside.entries.now c.args.name.now c.index_of-index.result c.index_of-index.ensures (search rules)))

pub returns-clause-good : goal.returns-clause-good
returns-clause-good c =
    let at = c.index_of-index.ensures ∙ ap (λ es. index_of es c.args.name.now) c.self.view_is in
    good-answer c.args.self.now c.args.name.now c.resolved_at.result (err-at c.args.self.now c.args.name.now c.index_of-index.result c.resolved_at.result (sym at) c.resolved_at.ensures.err)

pub returns-clause-unknown : goal.returns-clause-unknown
returns-clause-unknown c none =
    let some : is_none c.index_of-index.result ≡ false = search rules in
    absurd (has-index c.args.self.now c.args.name.now c.index_of-index.result (c.index_of-index.ensures ∙ ap (λ es. index_of es c.args.name.now) c.self.view_is) some none)
