use Rattle.ti_caps.proofs.Once.{found_is_named_standard, standard_name_is_found}
use Rattle.ti_caps.proofs.StandardLaws.{table_name_stands}
use Rattle.ti_caps.proofs.standard.names_stand_once.Goals as goal

pub returns-clause-found : goal.returns-clause-found
returns-clause-found c = standard_name_is_found

pub returns-clause-named : goal.returns-clause-named
returns-clause-named c = found_is_named_standard

pub returns-clause-table : goal.returns-clause-table
returns-clause-table c = table_name_stands
