use Rattle.std.proofs.Common.{◌≡◌, true, false, ◌+◌, ◌*◌, ap, ◌∙◌, arith, rules}
use Rattle.scr_terminal.specs.Code.Readings.{is_second}
use Rattle.scr_terminal.specs.declared.ecma.readings.Reading.TheVariants.{Spelled}
use Rattle.scr_terminal.proofs.EcmaSpelledLaws.{value_of_two}
use Rattle.scr_terminal.proofs.EcmaReadingLaws.{second_last, second_none, second_waits}
use Rattle.scr_terminal.proofs.ecma.readings.read_second.Goals as goal

pub returns-then-not-is_second : goal.returns-then-not-is_second
returns-then-not-is_second c =
    let off : is_second c.args.first c.args.byte ≡ false = search rules in
    second_none c.args.first c.args.byte c.requires.from off

pub returns-then-first-lt224 : goal.returns-then-first-lt224
returns-then-first-lt224 c =
    let on : is_second c.args.first c.args.byte ≡ true = search rules in
    let value : c.from.result * 64 + c.from-then-first-lt224.result ≡ value_of_two c.args.first c.args.byte = omega (arith, c.from.ensures, c.from-then-first-lt224.ensures) in
    second_last c.args.first c.args.byte c.spelled.result c.requires.from (omega arith) on (c.spelled.ensures ∙ ap Spelled value)

pub returns-else-first-lt224 : goal.returns-else-first-lt224
returns-else-first-lt224 c =
    let on : is_second c.args.first c.args.byte ≡ true = search rules in
    second_waits c.args.first c.args.byte (omega arith) c.requires.end on
