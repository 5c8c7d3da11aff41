use Rattle.std.proofs.Common.{◌≡◌, take, length, ◌==◌}
use Rattle.std.specs.List.{slice_split}
use Rattle.edit_text.proofs.lines.Lines.read.Given as goal

abbrev pub invariant-loop-line : goal.invariant-loop-line
invariant-loop-line l = l.lines.items ≡ take (length l.yielded) (slice_split (λ byte. byte == 10) l.bytes)
