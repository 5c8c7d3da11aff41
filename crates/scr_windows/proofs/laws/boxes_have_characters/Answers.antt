use Rattle.std.proofs.Common.{refl}
use Rattle.ucd_category.specs.GeneralCategory.{general_category}
use Rattle.unicode_width.proofs.Computing.{unicode_width}
use Rattle.scr_cells.specs.Characters.{is_beyond_ascii}
use Rattle.scr_windows.proofs.laws.boxes_have_characters.Goals as goal

pub returns-clause-single : goal.returns-clause-single
unfolding is_beyond_ascii unicode_width general_category
returns-clause-single c = refl

pub returns-clause-double : goal.returns-clause-double
unfolding is_beyond_ascii unicode_width general_category
returns-clause-double c = refl

pub returns-clause-round : goal.returns-clause-round
unfolding is_beyond_ascii unicode_width general_category
returns-clause-round c = refl
