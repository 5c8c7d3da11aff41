use Rattle.std.proofs.Common.{◌∙◌, ◌++◌, ap, subst, sym, arith, []}
use Rattle.std.proofs.lemmas.List.{append-nil}
use Rattle.std.proofs.lemmas.Str.{chars-nil}
use Rattle.std.specs.Str.{chars}
use Rattle.std.specs.String.{string_bytes}
use Rattle.huttavel_c.specs.Texts.{AreRead}
use Rattle.huttavel_c.proofs.TextLaws.{none_left}
use Rattle.huttavel_c.proofs.calls.texts.readable.Goals as goal

pub loop-at-init : goal.loop-at-init
loop-at-init c = record {
  within = omega arith;
  read = λ more read. subst (λ cs. AreRead c.args.bytes.now (cs ++ more)) (sym (ap chars c.new-text.ensures.bytes ∙ chars-nil)) read;
}

pub returns : goal.returns
returns c =
    let all = c.loop-at.invariant.read [] (none_left c.args.bytes.now c.loop-at.at (omega (arith, c.loop-at-test.false))) in
    subst (AreRead c.args.bytes.now) (append-nil (chars (string_bytes c.loop-at.text))) all
