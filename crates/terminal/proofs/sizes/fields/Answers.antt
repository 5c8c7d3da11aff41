-- A line without its line feed, cut at its first blank.
use Rattle.std.proofs.Common.{◌≡◌, ◌++◌, ◌∷◌, None, Some, arith, rules}
use Rattle.std.proofs.lemmas.Str.Pattern.{strip_suffix_char}
use Rattle.terminal.proofs.SizeLaws.{fields_of}
use Rattle.terminal.proofs.sizes.fields.Goals as goal

pub returns-in_err-strip_suffix : goal.returns-in_err-strip_suffix
returns-in_err-strip_suffix c =
    let none : c.from_residual.result ≡ None = search rules in
    let no_end = strip_suffix_char 10 c.args.line.now None c.in_err-strip_suffix.ensures.cases (omega arith) in
    rw none (λ rows columns. no_end (rows ++ 32 ∷ columns))

pub returns : goal.returns
returns c =
    let whole = strip_suffix_char 10 c.args.line.now (Some c.in_ok-strip_suffix.field-0) c.in_ok-strip_suffix.ensures.cases (omega arith) in
    fields_of c.args.line.now c.in_ok-strip_suffix.field-0.now c.split_once.result whole c.split_once.ensures.cases
