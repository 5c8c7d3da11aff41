use Rattle.std.proofs.Common.{◌||◌, ◌*◌, sym, ◌∙◌, ap}
use Rattle.std.specs.List.{list_any}
use Rattle.ti_binary.specs.Files.{word_at, words_in}
use Rattle.ti_extended.specs.Sections.{is_unnamed}
use Rattle.ti_extended.proofs.ListLaws.{any_more}
use Rattle.ti_extended.proofs.sections.any_unnamed.Goals as goal

pub loop-i-preserved : goal.loop-i-preserved
loop-i-preserved c =
    let p = is_unnamed c.args.names.now in
    ap (λ b. b || c.is_unnamed-found.result) c.loop-i.invariant
    ∙ ap (λ b. list_any p (words_in c.args.offsets.now c.loop-i.i) || b) (c.is_unnamed-found.ensures ∙ ap p c.word.ensures)
    ∙ sym (any_more p (λ i. word_at c.args.offsets.now (2 * i)) c.loop-i.i)
