use Rattle.screen_scripts.proofs.StageLaws.{blank_first, blank_ready}
use Rattle.screen_scripts.proofs.stages.blank_stage.Goals as goal

pub returns-clause-ready : goal.returns-clause-ready
returns-clause-ready c =
    blank_ready c.bundled_is_ecma48.ensures c.ecma48_laws.ensures c.blank_laws.ensures c.memory_runs.ensures c.args.charset c.args.size c.in_ok-screen.screen c.in_ok-screen.ensures c.in_ok-terminal.terminal c.in_ok-terminal.ensures
    c.size-size.ensures.screen

pub returns-clause-first : goal.returns-clause-first
returns-clause-first c = blank_first c.bundled_is_ecma48.ensures c.ecma48_laws.ensures c.memory_runs.ensures c.args.charset c.args.size c.in_ok-screen.screen c.in_ok-screen.ensures c.in_ok-terminal.terminal
