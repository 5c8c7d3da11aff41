use Rattle.std.proofs.Common.{refl}
use Rattle.ti_caps.specs.Table.{name_at, runs, flag_names, number_names, text_names_from_0, text_names_from_55, text_names_from_90, text_names_from_139, text_names_from_158, text_names_from_216, text_names_from_297, text_names_from_359}
use Rattle.ti_caps.specs.Standard.{standard_name_at, standard_runs, other_runs, flag_names_from_37, number_names_from_33, text_names_from_186, text_names_from_270, text_names_from_298, text_names_from_361}
use Rattle.scr_keys.proofs.names.keys_are_named.Goals as goal

pub returns : goal.returns
unfolding name_at runs flag_names number_names text_names_from_0 text_names_from_55 text_names_from_90 text_names_from_139 text_names_from_158 text_names_from_216 text_names_from_297 text_names_from_359 standard_name_at standard_runs other_runs flag_names_from_37 number_names_from_33 text_names_from_186 text_names_from_270 text_names_from_298 text_names_from_361
returns c = record { first = refl; second = refl; third = refl; fourth = refl; fifth = refl; sixth = refl; shifted = refl; more_shifted = refl }
