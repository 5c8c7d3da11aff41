use Rattle.screen_sessions.proofs.MakingLaws.{failed_made, shown_made}
use Rattle.screen_sessions.proofs.sessions.make_update.Goals as goal

pub returns-in-Ok : goal.returns-in-Ok
returns-in-Ok g c =
    shown_made c.memory_runs.ensures c.args.screen.now c.doupdate.new.self c.in-Ok.sent (g.W.Counted.told c.args.out.now) (g.W.Counted.told c.doupdate.new.out)
    c.screen-size.ensures.profile c.in-Ok.ensures.ok

pub returns-in-Err : goal.returns-in-Err
returns-in-Err g c = failed_made c.memory_laws.ensures c.args.screen.now c.doupdate.new.self c.in-Err.fault (g.W.Counted.told c.args.out.now) (g.W.Counted.told c.doupdate.new.out) c.in-Err.ensures.err
