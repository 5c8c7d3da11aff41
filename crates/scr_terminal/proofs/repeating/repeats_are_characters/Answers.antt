use Rattle.scr_terminal.proofs.WritingLaws as laws
use Rattle.scr_terminal.proofs.repeating.repeats_are_characters.Goals as goal

pub returns : goal.returns
returns c = laws.repeats_are_characters c.look_grid_laws.ensures
