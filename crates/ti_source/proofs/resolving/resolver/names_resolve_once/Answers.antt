use Rattle.ti_source.proofs.OnceLaws.{resolve-once}
use Rattle.ti_source.proofs.resolving.resolver.names_resolve_once.Goals as goal

pub returns : goal.returns
returns c = λ entries names ds es r q. resolve-once r q
