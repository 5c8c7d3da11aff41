use Rattle.std.proofs.Common.{rules, true, ◌≡◌, length, ap, sym, ◌∙◌}
use Rattle.ti_source.specs.Code.Leading.{is_stated}
use Rattle.ti_source.proofs.LeadingLaws.{covers-push}
use Rattle.ti_source.proofs.resolving.leading.covers.Goals as goal

pub loop-i-preserved : goal.loop-i-preserved
loop-i-preserved c =
    let stated : is_stated c.args.index.now (length c.args.fields.now) c.at.result.now ≡ true = sym (c.is_stated.ensures ∙ ap (λ n. is_stated c.args.index.now n c.at.result.now) c.len.ensures) ∙ search rules in
    covers-push c.args.fields.now c.args.more.now c.args.index.now c.loop-i.i c.at.result.now c.requires c.at.ensures.value stated c.loop-i.invariant
