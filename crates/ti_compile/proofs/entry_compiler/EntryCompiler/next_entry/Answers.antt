use Rattle.std.specs.Prelude.{IfSome}
use Rattle.std.proofs.Common.{◌∙◌, inl, inr, subst, rules}
use Rattle.std.proofs.lemmas.Result.{err_from_is_err_and}
use Rattle.ti_source.specs.Resolving.Uses.{Resolved}
use Rattle.ti_compile.specs.Alike.{AreAlike}
use Rattle.ti_compile.specs.Compiling.{names_of}
use Rattle.ti_compile.proofs.CompilingLaws.{compiled-more, next-seen, refused-among, refused-at, refused-seen}
use Rattle.ti_compile.proofs.entry_compiler.EntryCompiler.next_entry.Goals as goal

pub returns-in_err-compiled-clause-err : goal.returns-in_err-compiled-clause-err
returns-in_err-compiled-clause-err c =
    let p = err_from_is_err_and c.from_residual.result c.from_residual.ensures.1 in
    let entries = c.self.inside.source.now.entries in
    let before = c.self.invariant.1 in
    rw (p.1, p.2) (elim c.in_err-compiled.ensures.err [
      | inl h ↦ inl h
      | inr h ↦ inr (refused-seen c.self.view_is (refused-at entries (names_of entries) c.self.inside.next c.name-name.result.now before.0 _ before.1 c.name-name.ensures (refused-among c.self.invariant.0 h)))
    ])

pub returns-clause-more : goal.returns-clause-more
returns-clause-more c =
    let one = c.in_ok-compiled.ensures.ok in (
      next-seen c.self.view_is (record {
        name = c.name-name.result.now;
        at = c.name-name.ensures;
        d = one.0;
        resolved = subst (λ es. Resolved es c.name-name.result.now one.0) c.self.invariant.0 one.1;
        good = one.2;
        compiled = one.3;
      }),
      search rules,
    )

pub invariant_of-self-2 : goal.invariant_of-self-2
invariant_of-self-2 c =
    let entries = c.self.inside.source.now.entries in
    let before = c.self.invariant.1 in
    let one = c.in_ok-compiled.ensures.ok in (
      c.compiled_of.ensures.same ∙ c.self.invariant.0,
      (
        _,
        compiled-more entries (names_of entries) c.self.inside.next c.name-name.result.now before.0 one.0 before.1 c.name-name.ensures (subst (λ es. Resolved es c.name-name.result.now one.0) c.self.invariant.0 one.1) one.2,
      ),
      subst (λ es. IfSome c.compiled_of.new.alike (AreAlike es)) c.self.invariant.0 c.compiled_of.ensures.alike,
    )
