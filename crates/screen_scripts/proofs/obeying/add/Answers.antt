use Rattle.std.proofs.Common.{◌∙◌, sym}
use Rattle.screen_scripts.proofs.MakingLaws.{add_goes_on, add_refused}
use Rattle.screen_scripts.proofs.obeying.add.Goals as goal

pub returns-then-is_some : goal.returns-then-is_some
returns-then-is_some c =
    add_refused c.args.screen.now c.make_quietly.new.screen c.args.row c.args.column c.args.text c.in_ok-moved.moved c.refused.result (sym c.is_some.ensures ∙ c.if-is_some.true) c.in_ok-moved.ensures
    c.refused.ensures.notes c.refused.ensures.update

pub returns : goal.returns
returns c =
    add_goes_on c.args.screen.now c.make_quietly.new.screen c.make.new.screen c.args.row c.args.column c.args.text c.in_ok-moved.moved c.make.result (sym c.is_some.ensures ∙ c.if-is_some.false)
    c.in_ok-moved.ensures c.make.ensures
