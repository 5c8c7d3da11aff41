use Rattle.ti_compile.proofs.OnceLaws.{compiled-or-faulty}
use Rattle.ti_compile.proofs.laws.compiled_sources_have_no_fault.Goals as goal

pub returns : goal.returns
returns c = compiled-or-faulty c.names_resolve_once.ensures c.resolved_names_have_no_fault.ensures
