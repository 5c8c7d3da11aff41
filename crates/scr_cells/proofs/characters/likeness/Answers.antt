use Rattle.std.proofs.Common.{◌≡◌, sym, ◌∙◌, ap, refl}
use Rattle.scr_cells.specs.Characters.{likeness_in, likenesses}
use Rattle.scr_cells.proofs.characters.likeness.Goals as goal

pub returns-in-9670 : goal.returns-in-9670
unfolding likenesses likeness_in
returns-in-9670 c = let is : 43 ≡ likeness_in likenesses 9670 = refl in is ∙ sym (ap (likeness_in likenesses) c.in-9670.is)
