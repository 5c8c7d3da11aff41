use Rattle.std.proofs.Common.{rules}
use Rattle.screen_sessions.proofs.faulty.Faulty.with_faults.Goals as goal

pub returns : goal.returns
returns c = search rules
