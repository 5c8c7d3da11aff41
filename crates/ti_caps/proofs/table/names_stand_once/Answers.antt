use Rattle.ti_caps.proofs.Once.{name_is_found, found_is_named}
use Rattle.ti_caps.proofs.table.names_stand_once.Goals as goal

pub returns-clause-found : goal.returns-clause-found
returns-clause-found c = name_is_found

pub returns-clause-named : goal.returns-clause-named
returns-clause-named c = found_is_named
