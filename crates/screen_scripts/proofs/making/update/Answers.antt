use Rattle.screen_scripts.proofs.MakingLaws.{update_obeys}
use Rattle.screen_scripts.proofs.making.update.Goals as goal

pub returns : goal.returns
returns c = update_obeys c.args.screen.now c.update_bytes.new.screen c.none.result c.and_update.result c.in_ok-bytes.bytes c.in_ok-bytes.ensures c.none.ensures.notes c.and_update.ensures
