use Rattle.ti_database.specs.Places.{paths_of}
use Rattle.ti_database.proofs.SearchLaws.{entry_moved}
use Rattle.ti_database.proofs.searching.find_in.Goals as goal

pub returns-in-Ok-clause-entry : goal.returns-in-Ok-clause-entry
returns-in-Ok-clause-entry g c =
    entry_moved (g.S.Store.has c.args.store.now) c.search.result c.in-Ok.paths (paths_of c.args.variables.now c.args.name.now) c.in-Ok.ensures.ok c.search.ensures.entry
