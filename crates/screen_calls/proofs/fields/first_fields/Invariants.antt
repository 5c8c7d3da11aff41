use Rattle.std.proofs.Common.{◌≡◌, ◌≤◌, length, map, take}
use Rattle.screen_calls.specs.Fields.{fields_of}
use Rattle.screen_calls.proofs.fields.first_fields.Given as goal

abbrev pub invariant-loop-field : goal.invariant-loop-field
invariant-loop-field l =
    (map (λ field. field.now) l.list.items ≡ take (length l.yielded) (fields_of l.text)) × (length l.list.items ≡ length l.yielded)
    × (length l.list.items ≤ 10)
