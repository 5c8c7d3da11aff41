use Rattle.std.proofs.Common.{◌≡◌, ◌++◌, drop}
use Rattle.ti_extended.specs.Printed.{printed_after}
use Rattle.ti_extended.proofs.escapes.put_escaped.Given as goal

-- what is printed and what the rest gives is what all gives
abbrev pub invariant-loop-byte : goal.invariant-loop-byte
invariant-loop-byte l = l.out.items ++ printed_after l.before (drop l.byte-index l.text) ≡ l.fn.out.items ++ printed_after 0 l.text
