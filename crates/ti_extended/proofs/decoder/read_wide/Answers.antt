use Rattle.ti_extended.proofs.RefusedLaws.{refused_both}
use Rattle.ti_extended.proofs.decoder.read_wide.Goals as goal

pub returns-in-Err-clause-err : goal.returns-in-Err-clause-err
returns-in-Err-clause-err c = refused_both c.files_are_not_refused.ensures c.args.bytes.now c.args.first c.in-Err.fault c.refused.result c.refused.ensures.first c.refused.ensures.fault c.requires c.in-Err.ensures.refused
