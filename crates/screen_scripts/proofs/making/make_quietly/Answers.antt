use Rattle.screen_scripts.proofs.MakingLaws.{quietly_if}
use Rattle.screen_scripts.proofs.making.make_quietly.Goals as goal

pub returns : goal.returns
returns c = quietly_if c.args.screen.now c.make_call-answer.new.screen c.args.call.now c.make_call-answer.result c.refusal.result _ _ c.requires.update c.requires.ready c.make_call-answer.ensures.made c.refusal.ensures
