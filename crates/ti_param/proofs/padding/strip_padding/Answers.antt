use Rattle.std.proofs.Common.{rules, sym, ◌∙◌, subst}
use Rattle.ti_param.specs.Padding.{Stripped}
use Rattle.ti_param.proofs.PaddingLaws.{without_mark}
use Rattle.ti_param.proofs.padding.strip_padding.Goals as goal

pub returns-then-not-contains : goal.returns-then-not-contains
returns-then-not-contains c = subst (Stripped c.args.bytes.now) (sym c.in_ok-from_slice.ensures.items) (without_mark c.args.bytes.now (sym c.contains.ensures.value ∙ c.if-not-contains.true))

pub returns : goal.returns
returns c = search rules
