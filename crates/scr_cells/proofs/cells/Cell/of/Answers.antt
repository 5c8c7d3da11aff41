use Rattle.std.proofs.Common.{◌≡◌, ◌+◌, ◌*◌, ◌/◌, ◌%◌, ◌<◌, ◌∙◌, sym, subst, arith}
use Rattle.scr_cells.specs.Characters.{IsCharacter}
use Rattle.scr_cells.proofs.CharacterLaws.{few_characters}
use Rattle.scr_cells.proofs.cells.Cell.of.Goals as goal

pub invariant_of-result : goal.invariant_of-result
invariant_of-result c =
    let is : IsCharacter c.args.character = sym c.is_character.ensures ∙ c.if-not-is_character.false in
    let few : c.args.character < 65536 = few_characters c.args.character is in
    let same : (c.args.pair * 16777216 + c.from.result * 65536 + c.from-2.result) % 65536 ≡ c.args.character = omega arith in
    record { character = subst IsCharacter (sym same) is; attributes = omega arith; pair = omega arith }

pub returns-clause-holds : goal.returns-clause-holds
returns-clause-holds c =
    let is : IsCharacter c.args.character = sym c.is_character.ensures ∙ c.if-not-is_character.false in
    let few : c.args.character < 65536 = few_characters c.args.character is in
    let character : (c.args.pair * 16777216 + c.from.result * 65536 + c.from-2.result) % 65536 ≡ c.args.character = omega arith in
    let attrs : (c.args.pair * 16777216 + c.from.result * 65536 + c.from-2.result) / 65536 % 256 ≡ c.args.attrs.0 = omega arith in
    let pair : (c.args.pair * 16777216 + c.from.result * 65536 + c.from-2.result) / 16777216 ≡ c.args.pair = omega arith in
    λ i. record { character = character i; attrs = attrs i; pair = pair i }
