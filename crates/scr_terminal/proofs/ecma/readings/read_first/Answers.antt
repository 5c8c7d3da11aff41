use Rattle.std.proofs.Common.{◌⊎◌, ◌<◌, sym, ◌∙◌, arith}
use Rattle.std.proofs.lemmas.Bool.Decides.{nat_tests}
use Rattle.scr_terminal.proofs.EcmaReadingLaws.{first_escape, first_other, first_waits}
use Rattle.scr_terminal.proofs.ecma.readings.read_first.Goals as goal
use Rattle.scr_terminal.proofs.ecma.readings.read_first.Goals.{then-byte-eq27, else-byte-eq27}

pub returns-then-is_first : goal.returns-then-is_first
returns-then-is_first c =
    elim c.if-byte-eq27.branch [
      | then-byte-eq27 w ↦ first_escape c.args.charset c.args.byte w.if-byte-eq27.true
      | else-byte-eq27 w ↦ first_waits c.args.charset c.args.byte (sym w.is_first.ensures ∙ sym w.value-is ∙ c.if-is_first.true)
    ]

pub returns-else-byte-eq13 : goal.returns-else-byte-eq13
returns-else-byte-eq13 c =
    let graphic : (c.args.byte < 32) ⊎ (126 < c.args.byte) = grind (arith, nat_tests, c.is_ascii.ensures.value) in
    elim c.if-byte-eq27.branch [
      | then-byte-eq27 w ↦ absurd (grind (arith, nat_tests, w.value-is))
      | else-byte-eq27 w ↦
          first_other c.args.charset c.args.byte graphic w.if-byte-eq27.false c.if-byte-eq13.false.0 c.if-byte-eq13.false.1
          (sym w.is_first.ensures ∙ sym w.value-is ∙ c.if-is_first.false)
    ]
