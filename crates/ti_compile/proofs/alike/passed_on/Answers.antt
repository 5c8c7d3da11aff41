use Rattle.std.specs.Prelude.{IfSome}
use Rattle.std.proofs.Common.{inl, inr, subst, sym}
use Rattle.ti_binary.specs.Canonical.{renamed}
use Rattle.ti_compile.specs.Alike.{AreAlike}
use Rattle.ti_compile.proofs.AlikeLaws.{alike-at, alike-resolved, err-more, ok-more}
use Rattle.ti_compile.proofs.alike.passed_on.Goals as goal

pub returns-clause-alike : goal.returns-clause-alike
returns-clause-alike c =
    let entries = c.args.resolver.now in
    c.in-Some.ensures.alike c.args.own.now c.requires.passes (subst (λ o. IfSome o (AreAlike entries)) (sym c.take.ensures.value) c.requires.alike)

pub returns-clause-ok : goal.returns-clause-ok
returns-clause-ok c =
    let entries = c.args.resolver.now in
    let e = c.in-Some.found.resolved in
    let alike = c.in-Some.ensures.alike c.args.own.now c.requires.passes (subst (λ o. IfSome o (AreAlike entries)) (sym c.take.ensures.value) c.requires.alike) in
    let resolved = alike-resolved c.entries_pass_on.ensures.back entries c.args.name.now c.args.own.now c.args.other.now e c.requires.passes
    (alike-at entries c.in-Some.found.last.now c.args.name.now e c.in-Some.ensures.last alike.1) in
    ok-more c.compiled_entry-compiled.result _ _ c.compiled_entry-compiled.ensures.ok (λ x h. (renamed e c.args.own.now, resolved, h.0, h.1))

pub returns-clause-err : goal.returns-clause-err
returns-clause-err c =
    let entries = c.args.resolver.now in
    let e = c.in-Some.found.resolved in
    let alike = c.in-Some.ensures.alike c.args.own.now c.requires.passes (subst (λ o. IfSome o (AreAlike entries)) (sym c.take.ensures.value) c.requires.alike) in
    let resolved = alike-resolved c.entries_pass_on.ensures.back entries c.args.name.now c.args.own.now c.args.other.now e c.requires.passes
    (alike-at entries c.in-Some.found.last.now c.args.name.now e c.in-Some.ensures.last alike.1) in
    err-more c.compiled_entry-compiled.result _ _ c.compiled_entry-compiled.ensures.err (λ f h. elim h [
      | inl none ↦ inl none
      | inr is ↦ inr (inr (renamed e c.args.own.now, resolved, is))
    ])
