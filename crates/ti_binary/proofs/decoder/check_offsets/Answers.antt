use Rattle.std.proofs.Common.{sym, ◌∙◌}
use Rattle.ti_binary.specs.Files.{words_in}
use Rattle.ti_binary.proofs.NulLaws.{all_inside, none_refused}
use Rattle.ti_binary.proofs.decoder.check_offsets.Goals as goal

pub returns-then-not-any_unended-clause-inside : goal.returns-then-not-any_unended-clause-inside
returns-then-not-any_unended-clause-inside c =
    all_inside c.args.table.now (words_in c.args.offsets.now c.args.count) (sym c.any_unended.ensures ∙ c.if-not-any_unended.true)

pub returns-then-not-any_unended-clause-good : goal.returns-then-not-any_unended-clause-good
returns-then-not-any_unended-clause-good c =
    none_refused c.args.table.now (words_in c.args.offsets.now c.args.count) (sym c.any_unended.ensures ∙ c.if-not-any_unended.true)
