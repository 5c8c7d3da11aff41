use Rattle.screen_sessions.proofs.MarkLaws.{holds_again}
use Rattle.screen_sessions.proofs.sessions.disturbed_rows_hold_again.Goals as goal

pub returns : goal.returns
returns c = holds_again c.memory_laws.ensures
