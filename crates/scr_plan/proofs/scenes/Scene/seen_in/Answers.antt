use Rattle.std.proofs.Common.{ap, arith, rules, sym, ◌≡◌, ◌∙◌}
use Rattle.scr_cells.specs.Characters.{seen_character}
use Rattle.scr_plan.proofs.scenes.Scene.seen_in.Goals as goal

pub returns-then-eq-clause-code : goal.returns-then-eq-clause-code
returns-then-eq-clause-code c =
    let same : c.cell_in-cell.result.character ≡ 32 = search rules in
    sym (c.character_laws.ensures.seen_itself c.args.self.now.painter.charset 32 (omega arith)) ∙ ap (seen_character c.args.self.now.painter.charset) (sym same ∙ ap (λ cell. cell.character) c.cell_in-cell.ensures)
