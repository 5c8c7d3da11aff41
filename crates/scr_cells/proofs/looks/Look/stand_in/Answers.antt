use Rattle.std.proofs.Common.{ap, subst, sym, ◌∙◌}
use Rattle.scr_cells.specs.Characters.{IsAscii, stand_in}
use Rattle.scr_cells.proofs.CharacterLaws.{stand_in_is_ascii}
use Rattle.scr_cells.proofs.looks.Look.stand_in.Goals as goal

pub returns-clause-ascii : goal.returns-clause-ascii
returns-clause-ascii c = subst IsAscii (sym (c.stand_in.ensures ∙ ap stand_in c.code.ensures.value)) (stand_in_is_ascii c.args.self.character c.code.ensures.look.character)
