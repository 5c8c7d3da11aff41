use Rattle.screen_scripts.proofs.OutputLaws.{adds_screen}
use Rattle.screen_scripts.proofs.showing.show.Goals as goal

pub returns-clause-text : goal.returns-clause-text
returns-clause-text c =
    adds_screen c.print_screen.result c.args.stage.now.screen.profile.charset c.args.stage.now.screen.virtual.picture c.feed.new.stage.terminal.state c.args.text.now.items c.print_screen.new.text.items c.feed.ensures.shows c.print_screen.ensures
