use Rattle.std.proofs.Common.{◌≡◌, ◌∙◌, ◌++◌, true, ap, subst, sym, rules}
use Rattle.ti_source.specs.Code.Leading.{AddNothing, IsUseAt}
use Rattle.ti_source.proofs.LeadingLaws.{add-first-use, known-use, leads-only, leads-use, some-of}
use Rattle.ti_source.proofs.resolving.leading.leading_use.Goals as goal

pub returns-in-Some : goal.returns-in-Some
returns-in-Some c =
    some-of c.index_of.result _ (λ i is. leads-only c.args.entries.now c.args.entry.now c.in-Some.other.now i c.in-Some.ensures (sym c.index_of.ensures ∙ is))

pub effective_at-requires-clause-known : goal.effective_at-requires-clause-known
effective_at-requires-clause-known c =
    let at : IsUseAt c.args.entries.now c.uses.result.now 0 c.in-Some-used_at.used = search rules in
    known-use c.args.entries.now c.args.marks.now c.args.entry.now.uses 0 c.in-Some-used_at.used c.requires.known (subst (λ us. IsUseAt c.args.entries.now us 0 c.in-Some-used_at.used) c.uses.ensures.value at)

pub add_nothing-requires-clause-first : goal.add_nothing-requires-clause-first
add_nothing-requires-clause-first c =
    let at : IsUseAt c.args.entries.now c.uses.result.now 0 c.in-Some-used_at.used = search rules in
    rw c.uses-2.ensures.value (add-first-use c.args.entries.now c.args.entry.now.uses c.in-Some-used_at.used c.extend.new.self c.in_ok-effective_at.field-0 (subst (λ us. IsUseAt c.args.entries.now us 0 c.in-Some-used_at.used) c.uses.ensures.value at) c.in_ok-effective_at.ensures)

pub returns-then-branch : goal.returns-then-branch
returns-then-branch c =
    let at : IsUseAt c.args.entries.now c.uses.result.now 0 c.in-Some-used_at.used = search rules in
    let some = c.in_ok-effective_at.field-0 in
    let yes : c.in_ok-add_nothing.field-0 ≡ true = search rules in
    let own = c.in_ok-extend_from_slice.ensures ∙ ap (λ fs. fs ++ c.statements.result.now) c.new-fields.ensures ∙ c.statements.ensures.value in
    leads-use c.args.entries.now c.args.entry.now c.in-Some-used_at.used some c.extend.new.self
    (subst (λ us. IsUseAt c.args.entries.now us 0 c.in-Some-used_at.used) c.uses.ensures.value at)
    c.in_ok-effective_at.ensures (c.in_ok-extend.ensures ∙ ap (λ fs. fs ++ some) own)
    (subst (λ us. AddNothing c.args.entries.now us c.extend.new.self) c.uses-2.ensures.value (c.in_ok-add_nothing.ensures yes))
