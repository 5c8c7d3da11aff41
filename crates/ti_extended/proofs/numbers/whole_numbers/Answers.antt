use Rattle.std.proofs.Common.{◌∙◌}
use Rattle.ti_extended.proofs.ReadingLaws.{padded_read}
use Rattle.ti_extended.proofs.numbers.whole_numbers.Goals as goal

pub returns-clause-value : goal.returns-clause-value
returns-clause-value c =
    padded_read c.args.width c.args.bytes.now c.numbers_section-section.result.now c.from-count.result c.in_ok-numbers.numbers.items c.add_numbers.new.numbers.items c.add_absent.new.numbers.items
    c.in_ok-numbers.ensures.items c.in_ok-add_numbers.ensures.value c.in_ok-add_absent.ensures.value c.numbers_section-section.ensures.value (c.from-count.ensures ∙ c.word.ensures)
