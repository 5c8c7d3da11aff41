use Rattle.std.proofs.Common.{take}
use Rattle.scr_terminal.specs.Ecma.Screens.{IsFed}
use Rattle.scr_terminal.proofs.ecma.screens.EcmaScreen.feed.Given as goal

abbrev pub invariant-loop-byte : goal.invariant-loop-byte
invariant-loop-byte l = IsFed l.fn.self (take l.byte-index l.piece) l.self
