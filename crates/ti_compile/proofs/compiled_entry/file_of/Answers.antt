use Rattle.std.proofs.Common.{◌∙◌, Some, ap, inl, inr, sym}
use Rattle.std.proofs.lemmas.Result.{err_from_is_err_and}
use Rattle.ti_binary.specs.Canonical.{renamed}
use Rattle.ti_compile.proofs.WrittenLaws.{refused-writing, refused-names, not-refused}
use Rattle.ti_compile.proofs.compiled_entry.file_of.Goals as goal

pub returns-in_err-bytes-clause-err : goal.returns-in_err-bytes-clause-err
returns-in_err-bytes-clause-err c =
    let p = err_from_is_err_and c.from_residual.result c.from_residual.ensures.1 in
    rw (p.1, p.2) (elim c.in_err-bytes.ensures.err [
      | inl h ↦ inl h
      | inr h ↦ inr (refused-writing (renamed c.args.entry.now c.args.names.now) _ h)
    ])

pub returns-in_err-references-clause-err : goal.returns-in_err-references-clause-err
returns-in_err-references-clause-err c =
    let p = err_from_is_err_and c.from_residual-in_err-references.result c.from_residual-in_err-references.ensures.1 in
    rw (p.1, p.2) (elim c.in_err-references.ensures.err [
      | inl h ↦ inl h
      | inr h ↦ inr (refused-names (renamed c.args.entry.now c.args.names.now) c.in_ok-bytes.ensures.ok.0 h.1 ∙ ap Some (sym h.0))
    ])

pub returns-clause-good : goal.returns-clause-good
returns-clause-good c =
    not-refused (renamed c.args.entry.now c.args.names.now) c.in_ok-bytes.ensures.ok.0 c.in_ok-references.ensures.ok.0
