use Rattle.std.proofs.Common.{◌∙◌, ◌++◌, ap}
use Rattle.screen_scripts.specs.Printing.{refusals_of}
use Rattle.screen_scripts.specs.Showing.{events_in}
use Rattle.screen_scripts.proofs.RunLaws.{obeying_refuses}
use Rattle.screen_scripts.proofs.running.add_command_refusals.Goals as goal

pub returns-clause-ok : goal.returns-clause-ok
returns-clause-ok c =
    obeying_refuses c.args.text.now.items c.print_refusals.new.text.items c.args.command c.args.screen.now c.obey.new.screen c.in_ok-effects.effects c.in_ok-effects.ensures.ok
    (c.in_ok-print_refusals.ensures ∙ ap (λ notes. c.args.text.now.items ++ refusals_of (events_in notes)) c.deref.ensures.value)
