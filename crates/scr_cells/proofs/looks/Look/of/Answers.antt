use Rattle.std.proofs.Common.{◌≡◌, ◌+◌, ◌/◌, ◌%◌, ◌<◌, ◌∙◌, ap, sym, subst, arith}
use Rattle.scr_cells.specs.Characters.{IsCharacter}
use Rattle.scr_cells.specs.PenViews.{IsPen}
use Rattle.scr_cells.specs.Code.PackedPens.{coded_pen}
use Rattle.scr_cells.proofs.CharacterLaws.{few_characters}
use Rattle.scr_cells.proofs.looks.Look.of.Goals as goal

pub invariant_of-result : goal.invariant_of-result
invariant_of-result c =
    let is : IsCharacter c.args.character = sym c.is_character.ensures ∙ c.if-not-is_character.false in
    let few : c.args.character < 65536 = few_characters c.args.character is in
    let whole : c.pen.inside.packed % 65536 ≡ 0 = c.pen.invariant.1 in
    let character : (c.pen.inside.packed + c.from.result) % 65536 ≡ c.args.character = omega (arith, whole, few, c.from.ensures) in
    let pen : (c.pen.inside.packed + c.from.result) / 65536 ≡ c.pen.inside.packed / 65536 = omega (arith, whole, few, c.from.ensures) in
    record { character = subst IsCharacter (sym character) is; pen = subst (λ n. IsPen (coded_pen n)) (sym pen) c.pen.invariant.0 }

pub returns-clause-holds : goal.returns-clause-holds
returns-clause-holds c =
    let is : IsCharacter c.args.character = sym c.is_character.ensures ∙ c.if-not-is_character.false in
    let few : c.args.character < 65536 = few_characters c.args.character is in
    let whole : c.pen.inside.packed % 65536 ≡ 0 = c.pen.invariant.1 in
    let character : (c.pen.inside.packed + c.from.result) % 65536 ≡ c.args.character = omega (arith, whole, few, c.from.ensures) in
    let pen : (c.pen.inside.packed + c.from.result) / 65536 ≡ c.pen.inside.packed / 65536 = omega (arith, whole, few, c.from.ensures) in
    λ i. record { character = character i; pen = (ap coded_pen pen ∙ c.pen.view_is) i }
