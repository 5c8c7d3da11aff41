use Rattle.screen_scripts.proofs.MakingLaws.{shows_taken}
use Rattle.screen_scripts.proofs.obeying.show.Goals as goal

pub returns : goal.returns
returns c =
    shows_taken c.args.screen.now c.make_quietly.new.screen c.update_bytes.new.screen c.in_ok-taken.taken c.in_ok-effects.effects c.and_update.result c.in_ok-bytes.bytes c.in_ok-taken.ensures
    c.in_ok-effects.ensures.notes c.in_ok-bytes.ensures c.and_update.ensures
