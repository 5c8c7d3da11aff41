use Rattle.std.proofs.Common.{◌≡◌, take, length, Some}
use Rattle.screen_calls.specs.Fields.{each, fields_of, hexadecimal_byte}
use Rattle.screen_calls.proofs.fields.hexadecimal_bytes.Given as goal

abbrev pub invariant-loop-field : goal.invariant-loop-field
invariant-loop-field l = each hexadecimal_byte (take (length l.yielded) (fields_of l.text)) ≡ Some l.bytes.items
