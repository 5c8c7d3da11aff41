use Rattle.std.proofs.Common.{◌∙◌}
use Rattle.scr_cells.proofs.CharacterLaws.{character_of}
use Rattle.scr_cells.proofs.cells.Cell.character.Goals as goal

pub returns-clause-value : goal.returns-clause-value
returns-clause-value c = c.unwrap_or.ensures ∙ character_of c.from_u32.result c.code.result c.args.self.character c.code.ensures.value c.code.ensures.cell.character c.from_u32.ensures.value
