use Rattle.std.proofs.Common.{IfOk, Some, subst, sym}
use Rattle.screen_scripts.specs.Showing.{LineWrites}
use Rattle.screen_scripts.proofs.RunLaws.{command_writes_if, opened_writes}
use Rattle.screen_scripts.proofs.running.line_text.Goals as goal

pub returns-in_ok-open-in-None-clause-text : goal.returns-in_ok-open-in-None-clause-text
returns-in_ok-open-in-None-clause-text c =
    subst (λ old. LineWrites c.args.output.charset c.args.output.is_raw old c.args.line.now c.new.result.items c.open.new.stage) (sym c.in-None.is)
    (opened_writes c.args.output.charset c.args.output.is_raw c.args.line.now c.new.result.items c.in_ok-command.command c.open.new.stage c.in_ok-command.ensures.ok c.in_ok-open-in-None.ensures.ok c.new.ensures.items)

pub returns-in-Some-clause-text : goal.returns-in-Some-clause-text
returns-in-Some-clause-text c =
    subst (λ old. IfOk c.command_text.result (λ text. LineWrites c.args.output.charset c.args.output.is_raw old c.args.line.now text.items (Some c.command_text.new.stage))) (sym c.in-Some.is)
    (command_writes_if (λ text. text.items) c.args.output.charset c.args.output.is_raw c.in-Some.stage c.command_text.new.stage c.args.line.now c.in_ok-command.command c.command_text.result c.in_ok-command.ensures.ok
    c.command_text.ensures.text)
