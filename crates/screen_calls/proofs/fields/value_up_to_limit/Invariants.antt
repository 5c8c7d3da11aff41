use Rattle.std.proofs.Common.{◌≡◌, ◌^◌, min, take}
use Rattle.std.specs.Str.Parse.{digits_value}
use Rattle.screen_calls.proofs.fields.value_up_to_limit.Given as goal

abbrev pub invariant-loop-digit : goal.invariant-loop-digit
invariant-loop-digit l = l.value ≡ min (digits_value 10 (take l.digit-index l.digits)) (2 ^ 32)
