use Rattle.std.proofs.Common.{◌≡◌, ◌++◌, take}
use Rattle.ti_source.specs.Reading.Escape.{printed_text}
use Rattle.ti_source.proofs.printing.printer.push_escaped.Given as goal

abbrev pub invariant-loop-b : goal.invariant-loop-b
invariant-loop-b l = l.out.items ≡ l.fn.out.items ++ printed_text (take l.b-index l.text)
