use Rattle.std.specs.Prelude.{IfSome}
use Rattle.std.proofs.Common.{refl, subst}
use Rattle.ti_compile.specs.Alike.{AreAlike, IsAlike}
use Rattle.ti_compile.proofs.AlikeLaws.{alike-on}
use Rattle.ti_compile.proofs.alike.found.Goals as goal

pub returns-clause-alike : goal.returns-clause-alike
returns-clause-alike c = λ own p known.
    let entries = c.args.resolver.now in
    c.in-Some-moved.ensures.alike entries own p (subst (λ o. IfSome o (AreAlike entries)) c.in-Some.is known)

pub returns-in-Ok-clause-alike : goal.returns-in-Ok-clause-alike
returns-in-Ok-clause-alike c = λ own p known.
    let entries = c.args.resolver.now in
    let one : IsAlike entries c.args.other.now c.in-Ok.resolved = (c.in-Ok.resolved, c.in-Ok.ensures.ok, refl) in
    (one, alike-on c.entries_pass_on.ensures.on entries c.args.name.now own c.args.other.now c.in-Ok.resolved p one)
