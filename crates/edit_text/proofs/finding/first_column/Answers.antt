use Rattle.std.proofs.Common.{◌≡◌, length, drop, sym, ◌∙◌, subst, arith}
use Rattle.std.proofs.lemmas.Slice.{between_to_end}
use Rattle.edit_text.specs.Code.Searches.{IsFirstColumn}
use Rattle.edit_text.proofs.SearchLaws.{none_in_rest, some_in_rest}
use Rattle.edit_text.proofs.finding.first_column.Goals as goal

pub returns-in_err-column : goal.returns-in_err-column
returns-in_err-column c =
    let rest : c.in_ok-rest.rest.now ≡ drop c.args.start c.args.line.now = c.in_ok-rest.ensures.lookup.0.2 ∙ between_to_end c.args.line.now c.args.start (length c.args.line.now) (omega arith) in
    subst (IsFirstColumn c.args.line.now c.args.start c.args.bytes.now) (sym c.from_residual-in_err-column.ensures) (none_in_rest c.args.line.now c.args.bytes.now c.in_ok-rest.rest.now c.args.start c.requires rest c.in_err-column.ensures)

pub returns : goal.returns
returns c =
    let rest : c.in_ok-rest.rest.now ≡ drop c.args.start c.args.line.now = c.in_ok-rest.ensures.lookup.0.2 ∙ between_to_end c.args.line.now c.args.start (length c.args.line.now) (omega arith) in
    some_in_rest c.args.line.now c.args.bytes.now c.in_ok-rest.rest.now c.args.start c.in_ok-column.column c.requires rest c.in_ok-column.ensures
