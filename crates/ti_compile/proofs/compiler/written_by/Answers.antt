use Rattle.std.proofs.Common.{[], inl, inr, refl, subst, ◌∙◌, ap}
use Rattle.std.proofs.lemmas.Result.{err_from_is_err_and}
use Rattle.ti_source.specs.Resolving.Uses.{Resolve, Resolved}
use Rattle.ti_compile.specs.Compiling.{names_of}
use Rattle.ti_compile.specs.Progress.{with_entry}
use Rattle.ti_compile.proofs.CompilingLaws.{compiled-more, refused-among, refused-at, written-more}
use Rattle.ti_compile.proofs.compiler.written_by.Goals as goal

pub loop-i-init : goal.loop-i-init
loop-i-init c = (c.new-resolver.ensures, ([], record { resolved = Resolve.nothing; good = refl }, c.new-written.ensures))

pub returns-in_err-put_named-clause-err : goal.returns-in_err-put_named-clause-err
returns-in_err-put_named-clause-err c =
    let p = err_from_is_err_and c.from_residual.result c.from_residual.ensures.1 in
    let entries = c.args.source.now.entries in
    let done = c.loop-i.invariant.1 in
    rw (p.1, p.2) (elim c.in_err-put_named.ensures.err [
      | inl h ↦ inl h
      | inr h ↦ inr (refused-at entries (names_of entries) c.loop-i.i c.name.result.now done.0 _ done.1 c.name.ensures (refused-among c.loop-i.invariant.0 h))
    ])

pub loop-i-preserved : goal.loop-i-preserved
loop-i-preserved c =
    let entries = c.args.source.now.entries in
    let done = c.loop-i.invariant.1 in
    let one = c.in_ok-put_named.ensures.ok in (
      c.put_named.ensures.same ∙ c.loop-i.invariant.0,
      (
        _,
        compiled-more entries (names_of entries) c.loop-i.i c.name.result.now done.0 one.0 done.1 c.name.ensures (subst (λ es. Resolved es c.name.result.now one.0) c.loop-i.invariant.0 one.1) one.2,
        one.3 ∙ ap (with_entry one.0) done.2 ∙ written-more done.0 one.0,
      ),
    )
