use Rattle.std.proofs.Common.{◌≤◌, ◌<◌, ◌++◌, sym, ◌∙◌, ap, arith, length, length-append, append_assoc, take, get_or, None}
use Rattle.ti_binary.specs.Canonical.{ended, offset_of, offsets_from, table_of, word, words}
use Rattle.ti_binary.proofs.OffsetLaws.{offsets_more, table_more, text_fits}
use Rattle.ti_binary.proofs.sections.put_offsets.Goals as goal

pub offset-requires : goal.offset-requires
offset-requires c =
    let few : c.args.count ≤ length c.args.entry.now.texts = omega (arith, c.requires.few, c.requires.described.texts) in
    omega (arith, c.loop-slot.invariant.size, text_fits c.args.entry.now.texts c.args.count c.loop-slot.slot c.loop-slot-test.true few c.requires.small)

pub ended_length-size-requires : goal.ended_length-size-requires
ended_length-size-requires c =
    let few : c.args.count ≤ length c.args.entry.now.texts = omega (arith, c.requires.few, c.requires.described.texts) in
    omega (arith, ap (λ t. length (ended t)) c.text-text.ensures.value, text_fits c.args.entry.now.texts c.args.count c.loop-slot.slot c.loop-slot-test.true few c.requires.small)

pub loop-slot-preserved : goal.loop-slot-preserved
loop-slot-preserved c =
    let texts = c.args.entry.now.texts in
    let i = c.loop-slot.slot in
    let inside : i < length texts = omega (arith, c.loop-slot-test.true, c.requires.few, c.requires.described.texts) in
    let before = table_of (take i texts) in
    let text = get_or texts i None in
    record {
      size = omega (
        arith,
        c.loop-slot.invariant.size,
        c.ended_length-size.ensures,
        ap (λ t. length (ended t)) c.text-text.ensures.value,
        ap length (table_more texts i inside),
        length-append before (ended text),
      );
      put =
          c.in_ok-put_word.ensures
          ∙ ap (λ w. c.loop-slot.out.items ++ word w) (c.offset.ensures ∙ ap (offset_of c.loop-slot.size) c.text-text.ensures.value ∙ ap (λ n. offset_of n text) c.loop-slot.invariant.size)
          ∙ ap (λ o. o ++ word (offset_of (length before) text)) c.loop-slot.invariant.put
          ∙ append_assoc c.args.out.now.items (words (offsets_from 0 (take i texts))) (word (offset_of (length before) text))
          ∙ ap (λ w. c.args.out.now.items ++ w) (sym (offsets_more texts i inside));
    }
