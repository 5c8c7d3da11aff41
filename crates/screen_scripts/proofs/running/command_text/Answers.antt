use Rattle.screen_scripts.specs.Stories.{continued}
use Rattle.screen_scripts.specs.Showing.{stage_of}
use Rattle.screen_scripts.proofs.RunLaws.{ahead_after, command_written}
use Rattle.screen_scripts.proofs.running.command_text.Goals as goal

pub obey-requires : goal.obey-requires
obey-requires c = c.requires.screen

pub effects_text-requires : goal.effects_text-requires
effects_text-requires c =
    ahead_after c.args.raw c.args.stage.now c.obey.new.screen c.in_ok-effects.effects (continued (stage_of c.args.stage.now.screen) c.args.command) c.requires c.in_ok-effects.ensures.ok

pub returns-clause-text : goal.returns-clause-text
returns-clause-text c =
    command_written c.args.raw c.args.stage.now c.effects_text.new.stage c.obey.new.screen c.in_ok-effects.effects c.args.command c.in_ok-effects_text.field-0.items c.in_ok-effects.ensures.ok
    c.in_ok-effects_text.ensures.screen c.in_ok-effects_text.ensures.ready c.in_ok-effects_text.ensures.text
