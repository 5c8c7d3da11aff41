use Rattle.std.proofs.Common.{◌⊎◌, ◌<◌, ◌≤◌, ◌≡◌, ◌+◌, ◌*◌, ap, ◌∙◌, arith}
use Rattle.std.proofs.lemmas.Bool.Decides.{nat_tests}
use Rattle.scr_terminal.specs.declared.ecma.readings.Reading.TheVariants.{Spelled}
use Rattle.scr_terminal.proofs.EcmaSpelledLaws.{value_of_three}
use Rattle.scr_terminal.proofs.EcmaReadingLaws.{third_last, third_none}
use Rattle.scr_terminal.proofs.ecma.readings.read_third.Goals as goal

pub returns-then-contains : goal.returns-then-contains
returns-then-contains c =
    let low : 128 ≤ c.args.byte = grind (arith, nat_tests, c.if-contains.ensures.value) in
    let high : c.args.byte ≤ 191 = grind (arith, nat_tests, c.if-contains.ensures.value) in
    let value : c.from.result * 4096 + c.from-then-contains.result * 64 + c.from-then-contains-2.result ≡ value_of_three c.args.first c.args.second c.args.byte =
    omega (arith, c.from.ensures, c.from-then-contains.ensures, c.from-then-contains-2.ensures) in
    third_last c.args.first c.args.second c.args.byte c.spelled.result c.requires.from c.requires.end c.requires.second low high (c.spelled.ensures ∙ ap Spelled value)

pub returns-else-contains : goal.returns-else-contains
returns-else-contains c =
    let off : (c.args.byte < 128) ⊎ (191 < c.args.byte) = grind (arith, nat_tests, c.if-contains.ensures.value) in
    third_none c.args.first c.args.second c.args.byte c.requires.from off
