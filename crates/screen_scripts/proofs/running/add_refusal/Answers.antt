use Rattle.std.proofs.Common.{OnOk, Some, subst, sym}
use Rattle.scr_cells.specs.declared.charsets.Charset.TheVariants.{Ascii}
use Rattle.screen_scripts.specs.Showing.{AddsRefusals}
use Rattle.screen_scripts.proofs.RunLaws.{on_ok, opened_adds, refusing_adds}
use Rattle.screen_scripts.proofs.running.add_refusal.Goals as goal

pub add_command_refusals-requires : goal.add_command_refusals-requires
add_command_refusals-requires c = (c.requires c.in-Some.stage c.in-Some.is).screen

pub returns-in-None-clause-ok : goal.returns-in-None-clause-ok
returns-in-None-clause-ok c =
    subst (λ old. OnOk c.open.result (AddsRefusals old c.args.line.now c.args.text.now.items c.args.text.now.items c.open.new.stage)) (sym c.in-None.is)
    (on_ok c.open.result (opened_adds Ascii c.args.line.now c.args.text.now.items c.in_ok-command.command c.open.new.stage c.in_ok-command.ensures.ok) c.open.ensures.ok)

pub returns-in-Some-clause-ok : goal.returns-in-Some-clause-ok
returns-in-Some-clause-ok c =
    subst (λ old. OnOk c.add_command_refusals.result (AddsRefusals old c.args.line.now c.args.text.now.items c.add_command_refusals.new.text.items
    (Some (record { screen = c.add_command_refusals.new.screen; terminal = c.in-Some.stage.terminal })))) (sym c.in-Some.is)
    (on_ok c.add_command_refusals.result (refusing_adds c.args.line.now c.args.text.now.items c.add_command_refusals.new.text.items c.in_ok-command.command c.in-Some.stage
    c.add_command_refusals.new.screen c.in_ok-command.ensures.ok) c.add_command_refusals.ensures.ok)
