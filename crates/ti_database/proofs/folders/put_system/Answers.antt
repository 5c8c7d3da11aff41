use Rattle.ti_database.proofs.FolderLaws.{three_put}
use Rattle.ti_database.proofs.folders.put_system.Goals as goal

pub returns : goal.returns
returns c = three_put c.args.folders.now c.put.new.folders c.put-2.new.folders c.put-3.new.folders _ _ _ c.in_ok-put.ensures c.in_ok-put-2.ensures c.in_ok-put-3.ensures
