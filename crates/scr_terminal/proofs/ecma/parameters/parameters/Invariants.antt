use Rattle.std.proofs.Common.{◌≡◌, take, length, Some}
use Rattle.scr_term.specs.Ecma.Meanings.{each_parameter}
use Rattle.scr_terminal.proofs.EcmaParameterLaws.{parts_of}
use Rattle.scr_terminal.proofs.ecma.parameters.parameters.Given as goal

abbrev pub invariant-loop-part : goal.invariant-loop-part
invariant-loop-part l =
    (each_parameter (take (length l.yielded) (parts_of l.bytes)) ≡ Some l.list.items) × (length l.list.items ≡ length l.yielded)
