use Rattle.std.proofs.Common.{refl}
use Rattle.screen_scripts.proofs.OutputLaws.{after_feeding}
use Rattle.screen_scripts.proofs.showing.feed.Goals as goal

pub returns-clause-shows : goal.returns-clause-shows
returns-clause-shows c =
    (after_feeding c.ecma48_laws.ensures c.bytes_act_as_their_operations.ensures c.screens_follow_texts.ensures c.args.stage.now.screen.profile c.requires.screen.entry
    c.requires.before c.args.stage.now.screen.memory c.requires.virtual c.args.stage.now.screen.virtual.picture c.args.stage.now.terminal c.feed.new.self c.args.bytes.now (c.requires.terminal refl) c.requires.sending
    c.feed.ensures.fed c.feed.ensures.screen).shows

pub returns-clause-ready : goal.returns-clause-ready
returns-clause-ready c = record {
  screen = c.requires.screen;
  terminal = λ on. (after_feeding c.ecma48_laws.ensures c.bytes_act_as_their_operations.ensures c.screens_follow_texts.ensures c.args.stage.now.screen.profile c.requires.screen.entry
      c.requires.before c.args.stage.now.screen.memory c.requires.virtual c.args.stage.now.screen.virtual.picture c.args.stage.now.terminal c.feed.new.self c.args.bytes.now (c.requires.terminal refl) c.requires.sending
      c.feed.ensures.fed c.feed.ensures.screen).ready;
}
