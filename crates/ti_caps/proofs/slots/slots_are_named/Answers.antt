use Rattle.std.proofs.Common.{refl}
use Rattle.ti_caps.specs.Table.{name_at, runs, flag_names, number_names, text_names_from_0, text_names_from_55, text_names_from_90, text_names_from_139, text_names_from_158, text_names_from_216, text_names_from_297, text_names_from_359}
use Rattle.ti_caps.proofs.slots.slots_are_named.Goals as goal

pub returns : goal.returns
unfolding name_at runs flag_names number_names text_names_from_0 text_names_from_55 text_names_from_90 text_names_from_139 text_names_from_158 text_names_from_216 text_names_from_297 text_names_from_359
returns c = record { flags = refl; numbers = refl; texts = refl }
