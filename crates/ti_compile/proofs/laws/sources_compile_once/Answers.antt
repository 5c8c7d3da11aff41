use Rattle.ti_compile.proofs.OnceLaws.{compile-once}
use Rattle.ti_compile.proofs.laws.sources_compile_once.Goals as goal

pub returns : goal.returns
returns c = compile-once c.names_resolve_once.ensures
