use Rattle.std.proofs.Common.{◌≡◌, take, ◌∷◌, ◌++◌}
use Rattle.std.specs.List.{flat_map}
use Rattle.edit_text.proofs.lines.append_lines.Given as goal

abbrev pub invariant-loop-line : goal.invariant-loop-line
invariant-loop-line l = l.bytes.items ≡ l.initial.bytes.items ++ flat_map (λ line. 10 ∷ line) (take l.line-index l.lines)
