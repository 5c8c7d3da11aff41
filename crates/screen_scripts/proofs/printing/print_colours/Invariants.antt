use Rattle.std.proofs.Common.{◌≡◌, ◌++◌, ◌∷◌, take}
use Rattle.std.specs.List.{flat_map}
use Rattle.screen_scripts.specs.Printing.{colour_digits}
use Rattle.screen_scripts.proofs.printing.print_colours.Given as goal

abbrev pub invariant-loop-look : goal.invariant-loop-look
invariant-loop-look l = l.text.items ≡ l.fn.text.items ++ 61 ∷ flat_map colour_digits (take l.look-index l.looks)
