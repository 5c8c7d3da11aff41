use Rattle.curses.proofs.StartingLaws.{closes_plain}
use Rattle.curses.proofs.starting.closing_laws.Goals as goal

pub returns : goal.returns
returns c = closes_plain c.profiles_have.ensures c.run_laws.ensures c.bytes_act_as_their_operations.ensures
