use Rattle.std.proofs.Common.{◌∙◌, IfOk, subst, sym}
use Rattle.screen_scripts.specs.Showing.{Obeys, stage_of}
use Rattle.screen_scripts.proofs.MakingLaws.{made_updated, quiet_obeys_if}
use Rattle.screen_scripts.proofs.making.make.Goals as goal

pub returns-then-is_update : goal.returns-then-is_update
returns-then-is_update c =
    subst (λ outcome. IfOk c.update.result (λ effects. Obeys c.args.screen.now c.update.new.screen effects outcome))
    (sym (made_updated (stage_of c.args.screen.now) c.args.call.now (sym c.is_update.ensures ∙ c.if-is_update.true))) c.update.ensures

pub returns : goal.returns
returns c = quiet_obeys_if c.args.screen.now c.make_quietly.new.screen c.args.call.now c.in_ok-fault.fault c.refused.result c.in_ok-fault.ensures c.refused.ensures.notes c.refused.ensures.update
