use Rattle.std.proofs.Common.{◌≡◌, ◌∙◌, slice_get, Some, ap, refl, arith, reverse, ◌++◌}
use Rattle.ti_source.specs.Code.EntryWalk.{visits}
use Rattle.ti_source.proofs.IndexLaws.{get-lt, reverse-push}
use Rattle.ti_source.proofs.WalkLaws.{entered-stepped}
use Rattle.ti_source.proofs.resolving.walk.EntryWalk.enter.Goals as goal

pub returns-clause-ok : goal.returns-clause-ok
returns-clause-ok c =
    let entries = c.args.entries.now in
    let at : slice_get entries c.args.i ≡ Some c.at-entry.result = c.at-entry.ensures in
    entered-stepped entries c.args.self.now.marks.items _ c.args.self.now.kept.items c.args.i c.at-entry.result (reverse c.args.self.now.tasks.items) _ c.requires.walk c.requires.new at c.uses.ensures.few refl
    (c.in_ok-put_visits.ensures ∙ ap (λ us. visits entries us ++ reverse c.push.new.self.items) c.uses.ensures.value ∙ ap (λ ts. visits entries c.at-entry.result.uses ++ ts) (ap reverse c.in_ok-push.ensures.items ∙ reverse-push c.args.self.now.tasks.items _))

pub at-entry-requires : goal.at-entry-requires
at-entry-requires c =
    let few = get-lt c.args.self.now.marks.items c.args.i _ c.requires.new in
    omega (arith, few, c.requires.walk.sized)
