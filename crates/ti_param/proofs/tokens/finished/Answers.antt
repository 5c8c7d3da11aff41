use Rattle.std.proofs.Common.{rules}
use Rattle.ti_param.proofs.tokens.finished.Goals as goal

pub returns-in-None-clause-gives : goal.returns-in-None-clause-gives
returns-in-None-clause-gives c = search rules

pub returns-in-None-2-clause-gives : goal.returns-in-None-2-clause-gives
returns-in-None-2-clause-gives c = search rules
