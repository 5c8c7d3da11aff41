use Rattle.std.proofs.Common.{rules}
use Rattle.screen_sessions.proofs.faulty.FaultyWrite.flush.Goals as goal

pub returns-then-eq-clause-answered : goal.returns-then-eq-clause-answered
returns-then-eq-clause-answered c = search rules

pub returns-clause-answered : goal.returns-clause-answered
returns-clause-answered c = search rules
