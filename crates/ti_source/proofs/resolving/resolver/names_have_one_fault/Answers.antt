use Rattle.ti_source.proofs.OnceLaws.{fault-is-once}
use Rattle.ti_source.proofs.resolving.resolver.names_have_one_fault.Goals as goal

pub returns : goal.returns
returns c = fault-is-once
