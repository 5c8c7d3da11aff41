use Rattle.ti_database.proofs.SearchLaws.{absent_found, entry_found, fault_found}
use Rattle.ti_database.proofs.searching.search.Goals as goal

pub returns-in-Ok-Some-clause-entry : goal.returns-in-Ok-Some-clause-entry
returns-in-Ok-Some-clause-entry g c =
    entry_found (g.S.Store.has c.args.store.now) c.args.paths c.as_slice.result.now c.in-Ok-Some.field-0 c.in-Ok-Some.path c.in-Ok-Some.bytes c.deref.result.now c.entry_of.result
    (cc) (cc) c.deref.ensures c.in-Ok-Some.ensures c.entry_of.ensures.entry

pub returns-in-Ok-Some-clause-fault : goal.returns-in-Ok-Some-clause-fault
returns-in-Ok-Some-clause-fault g c =
    fault_found (g.S.Store.has c.args.store.now) (g.S.Store.bars c.args.store.now) c.args.paths c.as_slice.result.now c.in-Ok-Some.field-0 c.in-Ok-Some.path c.in-Ok-Some.bytes c.deref.result.now c.entry_of.result
    (cc) (cc) c.deref.ensures c.in-Ok-Some.ensures c.entry_of.ensures.fault

pub returns-in-Ok-Some-clause-named : goal.returns-in-Ok-Some-clause-named
returns-in-Ok-Some-clause-named g c = c.entry_of.ensures.named c.args.paths

pub returns-in-Ok-None-clause-fault : goal.returns-in-Ok-None-clause-fault
returns-in-Ok-None-clause-fault g c =
    absent_found (g.S.Store.has c.args.store.now) (g.S.Store.bars c.args.store.now) c.args.paths c.as_slice.result.now c.in-Ok-None.field-0 c.absent.result (cc) (cc) c.in-Ok-None.ensures c.absent.ensures.fault
