use Rattle.std.proofs.Common.{◌⊎◌, ◌<◌, ◌≤◌, ◌≢◌, [], length, ap, sym, ◌∙◌, arith}
use Rattle.std.proofs.lemmas.List.{nil_from_length}
use Rattle.std.proofs.lemmas.Bool.Decides.{nat_tests}
use Rattle.scr_terminal.proofs.EcmaReadingLaws.{second_bracket, second_other, later_parameter, later_last, later_full, later_other}
use Rattle.scr_terminal.proofs.ecma.readings.read_control.Goals as goal

pub returns-then-byte-eq91 : goal.returns-then-byte-eq91
returns-then-byte-eq91 c =
    let none = nil_from_length c.args.after.now (grind (arith, nat_tests, c.if-is_empty.ensures)) in
    second_bracket c.args.charset c.args.after.now c.args.byte none (omega arith)

pub returns-else-byte-eq91 : goal.returns-else-byte-eq91
returns-else-byte-eq91 c =
    let none = nil_from_length c.args.after.now (grind (arith, nat_tests, c.if-is_empty.ensures)) in
    second_other c.args.charset c.args.after.now c.args.byte none (omega arith)

pub returns-then-after-lt-LONGEST : goal.returns-then-after-lt-LONGEST
returns-then-after-lt-LONGEST c =
    let some : c.args.after.now ≢ [] = λ e. (let none = ap length e in grind (arith, nat_tests, c.if-is_empty.ensures)) in
    later_parameter c.args.charset c.args.after.now c.args.byte c.requires some (sym c.is_parameter_byte.ensures ∙ c.if-is_parameter_byte.true) (omega arith)

pub returns-else-after-lt-LONGEST : goal.returns-else-after-lt-LONGEST
returns-else-after-lt-LONGEST c =
    let some : c.args.after.now ≢ [] = λ e. (let none = ap length e in grind (arith, nat_tests, c.if-is_empty.ensures)) in
    later_full c.args.charset c.args.after.now c.args.byte c.requires some (sym c.is_parameter_byte.ensures ∙ c.if-is_parameter_byte.true) (omega arith)

pub returns-then-contains : goal.returns-then-contains
returns-then-contains c =
    let some : c.args.after.now ≢ [] = λ e. (let none = ap length e in grind (arith, nat_tests, c.if-is_empty.ensures)) in
    let low : 64 ≤ c.args.byte = grind (arith, nat_tests, c.if-contains.ensures.value) in
    let high : c.args.byte ≤ 126 = grind (arith, nat_tests, c.if-contains.ensures.value) in
    later_last c.args.charset c.args.after.now c.args.byte c.requires some low high

pub returns-else-contains : goal.returns-else-contains
returns-else-contains c =
    let some : c.args.after.now ≢ [] = λ e. (let none = ap length e in grind (arith, nat_tests, c.if-is_empty.ensures)) in
    let off : (c.args.byte < 64) ⊎ (126 < c.args.byte) = grind (arith, nat_tests, c.if-contains.ensures.value) in
    later_other c.args.charset c.args.after.now c.args.byte c.requires some (sym c.is_parameter_byte.ensures ∙ c.if-is_parameter_byte.false) off
