use Rattle.ti_binary.proofs.CanonicalLaws.{names_short}
use Rattle.ti_binary.proofs.encoder.encode_whatever_names.Goals as goal

pub of-shape-requires-clause-names : goal.of-shape-requires-clause-names
of-shape-requires-clause-names c = names_short c.args.names.now c.requires
