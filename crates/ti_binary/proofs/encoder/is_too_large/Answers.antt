use Rattle.ti_binary.proofs.CanonicalLaws.{renamed-described, too_large}
use Rattle.ti_binary.specs.Canonical.{renamed}
use Rattle.ti_binary.proofs.encoder.is_too_large.Goals as goal

pub returns : goal.returns
returns c =
    too_large (renamed c.args.entry.now c.args.names.now) c.args.shape.now c.file_size.result
    (renamed-described c.args.entry.now c.args.names.now c.requires.described c.requires.named) c.requires.shape c.file_size.ensures
