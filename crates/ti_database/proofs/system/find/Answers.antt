use Rattle.std.proofs.Common.{rules, None}
use Rattle.ti_database.proofs.SearchLaws.{any_variables}
use Rattle.ti_database.proofs.system.find.Goals as goal

pub returns-in_err-variables : goal.returns-in_err-variables
returns-in_err-variables g c = search rules

pub returns-clause-entry : goal.returns-clause-entry
returns-clause-entry g c =
    any_variables None c.in_ok-variables.variables c.args.name.now c.as_bytes-2.result.now c.find_in.result c.as_bytes-2.ensures.value c.find_in.ensures.entry
