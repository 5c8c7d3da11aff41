use Rattle.std.proofs.Common.{ap, rules}
use Rattle.scr_terminal.specs.Ecma.Screens.{ScreenView}
use Rattle.scr_terminal.proofs.EcmaStateLaws.{change_fits}
use Rattle.scr_terminal.proofs.ecma.screens.EcmaScreen.apply.Goals as goal

pub make-requires : goal.make-requires
make-requires c =
    change_fits c.args.self.now.rows c.args.self.now.columns c.self.inside.terminal.rows c.self.inside.terminal.columns c.args.change c.in-Some.change
    c.requires c.in-Some.is (ap (λ (s : ScreenView). s.rows) c.self.view_is) (ap (λ (s : ScreenView). s.columns) c.self.view_is)

pub returns : goal.returns
returns c = search rules
