use Rattle.ti_source.proofs.OnceLaws.{resolve-or-fault}
use Rattle.ti_source.proofs.resolving.resolver.resolved_names_have_no_fault.Goals as goal

pub returns : goal.returns
returns c = resolve-or-fault
