use Rattle.std.proofs.Common.{◌≡◌, ◌∙◌, ap, Some, subst, sym, rules}
use Rattle.ti_source.specs.Code.EntryWalk.{ResolvedAt, known}
use Rattle.ti_source.proofs.AloneLaws.{ok-more}
use Rattle.ti_source.proofs.GatherLaws.{effective-entry, known-resolved}
use Rattle.ti_source.proofs.IndexLaws.{get-lt}
use Rattle.ti_source.proofs.resolving.walk.EntryWalk.entry.Goals as goal

pub effective_at-requires-clause-known : goal.effective_at-requires-clause-known
effective_at-requires-clause-known c =
    let index : c.args.index ≡ Some c.unwrap-i.result = search rules in
    rw c.deref.ensures.value (ap (known c.args.self.now.marks.items) (sym index) ∙ c.requires.known)

pub at-requires : goal.at-requires
at-requires c =
    let index : c.args.index ≡ Some c.unwrap-i.result = search rules in
    let there = ap (known c.args.self.now.marks.items) (sym index) ∙ c.requires.known in
    let r = known-resolved c.args.entries.now c.args.self.now.marks.items c.args.self.now.kept.items c.unwrap-i.result c.requires.kept there in
    get-lt c.args.entries.now c.unwrap-i.result r.entry r.at

pub returns-clause-ok : goal.returns-clause-ok
returns-clause-ok c =
    let index : c.args.index ≡ Some c.unwrap-i.result = search rules in
    ok-more c.merge.result _ _ c.merge.ensures.ok (λ e is. subst (λ p. ResolvedAt c.args.entries.now p e) (sym index) (effective-entry c.args.entries.now c.unwrap-i.result c.at.result c.names.result.now c.in_ok-fields.fields e c.at.ensures c.in_ok-fields.ensures c.names.ensures.value is))
