use Rattle.std.proofs.Common.{◌≡◌, length, rules, arith}
use Rattle.std.proofs.lemmas.Bool.Decides.{nat_tests}
use Rattle.ti_source.specs.Reading.Escape.{decoded}
use Rattle.ti_source.proofs.EscapeLaws.{decoded-more, decoded_after-whole, decoded-end}
use Rattle.ti_source.proofs.reading.escape.decode.Goals as goal

pub loop-rest-preserved : goal.loop-rest-preserved
loop-rest-preserved c =
    decoded-more (decoded c.args.text.now) c.loop-rest.decoded.items c.push.new.self.items c.loop-rest.rest.now c.character-value.result.1 c.character-value.result.0 (search rules) c.character-value.ensures.length c.character-value.ensures.value (search rules) c.loop-rest.invariant

pub returns-clause-whole : goal.returns-clause-whole
returns-clause-whole c =
    let none : length c.loop-rest.rest.now ≡ 0 = grind (arith, nat_tests) in
    rw (decoded-end c.loop-rest.decoded.items (decoded c.args.text.now) c.loop-rest.rest.now none c.loop-rest.invariant) (decoded_after-whole 0 c.args.text.now)
