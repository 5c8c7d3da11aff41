use Rattle.std.proofs.Common.{length, ◌-◌, ◌≤◌, drop}
use Rattle.std.specs.Str.{chars}
use Rattle.std.specs.String.{string_bytes}
use Rattle.huttavel_c.specs.Texts.{AreReadFirst}
use Rattle.huttavel_c.proofs.calls.texts.readable.Given as goal

-- the bytes up to one place are read
abbrev pub invariant-loop-at : goal.invariant-loop-at
invariant-loop-at l = record {
  within : l.at ≤ length l.bytes;
  read : AreReadFirst l.bytes (drop l.at l.bytes) (chars (string_bytes l.text));
}

abbrev pub decreases-loop-at : goal.decreases-loop-at
decreases-loop-at l = length l.bytes - l.at
