use Rattle.std.proofs.Common.{◌&&◌, not, ◌∙◌}
use Rattle.std.specs.List.{list_any}
use Rattle.ti_binary.specs.Files.{is_negative, words_in}
use Rattle.ti_binary.proofs.decoder.any_unended.Goals as goal

pub returns : goal.returns
returns c =
    let words = words_in c.args.offsets.now c.args.count in
    c.any_outside.ensures ∙ (λ i. list_any (λ offset. not (is_negative offset) && not (c.through_last_nul.ensures offset i)) words)
