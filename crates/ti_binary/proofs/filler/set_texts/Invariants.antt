use Rattle.std.proofs.Common.{◌≡◌, map, None}
use Rattle.ti_binary.specs.Files.{text_said, padded, words_in}
use Rattle.ti_binary.proofs.filler.set_texts.Given as goal

abbrev pub invariant-loop-slot : goal.invariant-loop-slot
invariant-loop-slot l = l.entry ≡ record l.fn.entry { texts = padded 512 None (map (text_said l.table) (words_in l.offsets l.slot)) }
