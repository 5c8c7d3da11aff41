use Rattle.screen_sessions.proofs.SessionLaws.{made_afresh}
use Rattle.screen_sessions.proofs.sessions.make_afresh.Goals as goal

pub returns-clause-ok : goal.returns-clause-ok
returns-clause-ok g c =
    made_afresh c.memory_runs.ensures c.args.screen.now c.make_calls.new.screen c.args.calls.now c.in_ok-report.report (g.W.Counted.told c.args.out.now) (g.W.Counted.told c.make_calls.new.out) c.screen-size.ensures.profile (record { begins = c.requires.begins }) c.in_ok-report.ensures.ok
