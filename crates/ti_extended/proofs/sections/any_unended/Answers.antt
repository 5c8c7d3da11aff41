use Rattle.std.proofs.Common.{◌||◌, ◌*◌, sym, ◌∙◌, ap}
use Rattle.std.specs.List.{list_any}
use Rattle.ti_binary.specs.Files.{is_unended, word_at, words_in}
use Rattle.ti_extended.proofs.ListLaws.{any_more}
use Rattle.ti_extended.proofs.sections.any_unended.Goals as goal

pub loop-i-preserved : goal.loop-i-preserved
loop-i-preserved c =
    let p = is_unended c.args.table.now in
    ap (λ b. b || c.is_unended-found.result) c.loop-i.invariant
    ∙ ap (λ b. list_any p (words_in c.args.offsets.now c.loop-i.i) || b) (c.is_unended-found.ensures ∙ ap p c.word.ensures)
    ∙ sym (any_more p (λ i. word_at c.args.offsets.now (2 * i)) c.loop-i.i)
