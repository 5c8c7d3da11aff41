use Rattle.std.proofs.Common.{rules}
use Rattle.screen_sessions.proofs.faulty.FaultyWrite.write.Goals as goal

pub returns-clause-answered : goal.returns-clause-answered
returns-clause-answered c = search rules
