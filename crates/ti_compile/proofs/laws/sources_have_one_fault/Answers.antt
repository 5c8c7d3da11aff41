use Rattle.ti_compile.proofs.OnceLaws.{faulty-once}
use Rattle.ti_compile.proofs.laws.sources_have_one_fault.Goals as goal

pub returns : goal.returns
returns c = faulty-once c.names_resolve_once.ensures c.names_have_one_fault.ensures c.resolved_names_have_no_fault.ensures
