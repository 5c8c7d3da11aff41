use Rattle.std.proofs.Common.{◌≡◌, ◌++◌, ◌∷◌, encode_utf8, flat_map, take}
use Rattle.screen_scripts.proofs.printing.print_characters.Given as goal

abbrev pub invariant-loop-look : goal.invariant-loop-look
invariant-loop-look l = l.text.items ≡ l.fn.text.items ++ 124 ∷ flat_map (λ look. encode_utf8 look.character) (take l.look-index l.looks)
