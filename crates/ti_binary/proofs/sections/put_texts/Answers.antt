use Rattle.std.proofs.Common.{◌<◌, ◌++◌, sym, ◌∙◌, ap, arith, length, append_assoc, take, get_or, None}
use Rattle.ti_binary.specs.Canonical.{ended, table_of}
use Rattle.ti_binary.proofs.OffsetLaws.{table_more}
use Rattle.ti_binary.proofs.sections.put_texts.Goals as goal

pub loop-slot-preserved : goal.loop-slot-preserved
loop-slot-preserved c =
    let texts = c.args.entry.now.texts in
    let i = c.loop-slot.slot in
    let inside : i < length texts = omega (arith, c.loop-slot-test.true, c.requires.few, c.requires.described.texts) in
    c.in_ok-put_text.ensures
    ∙ ap (λ o. o ++ ended (get_or texts i None)) c.loop-slot.invariant
    ∙ append_assoc c.args.out.now.items (table_of (take i texts)) (ended (get_or texts i None))
    ∙ ap (λ t. c.args.out.now.items ++ t) (sym (table_more texts i inside))
