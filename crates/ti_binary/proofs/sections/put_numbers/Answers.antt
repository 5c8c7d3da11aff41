use Rattle.std.proofs.Common.{◌<◌, ◌++◌, sym, ◌∙◌, ap, arith, length, map, append_assoc, take, get_or, None}
use Rattle.ti_binary.specs.Canonical.{number_word, word, words}
use Rattle.ti_binary.proofs.OffsetLaws.{numbers_more}
use Rattle.ti_binary.proofs.sections.put_numbers.Goals as goal

pub loop-slot-preserved : goal.loop-slot-preserved
loop-slot-preserved c =
    let numbers = c.args.entry.now.numbers in
    let i = c.loop-slot.slot in
    let inside : i < length numbers = omega (arith, c.loop-slot-test.true, c.requires.few, c.requires.described.numbers) in
    let here = word (number_word (get_or numbers i None)) in
    c.in_ok-put_number.ensures
    ∙ ap (λ o. o ++ here) c.loop-slot.invariant
    ∙ append_assoc c.args.out.now.items (words (map number_word (take i numbers))) here
    ∙ ap (λ w. c.args.out.now.items ++ w) (sym (numbers_more numbers i inside))
