use Rattle.std.proofs.Common.{◌≡◌, ◌++◌, is_some, map}
use Rattle.ti_binary.specs.Files.{text_said, words_in}
use Rattle.ti_extended.specs.Sections.{present}
use Rattle.ti_extended.proofs.reading.texts_in.Given as goal

abbrev pub invariant-loop-i : goal.invariant-loop-i
invariant-loop-i l = record {
  there : l.there.items ≡ l.fn.there.items ++ map is_some (map (text_said l.table) (words_in l.offsets l.i));
  value : l.texts.items ≡ present (map (text_said l.table) (words_in l.offsets l.i));
}
