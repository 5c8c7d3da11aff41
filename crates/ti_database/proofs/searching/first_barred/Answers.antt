use Rattle.std.proofs.Common.{◌≡◌, ◌∙◌, sym}
use Rattle.ti_database.proofs.SearchLaws.{barred_here, none_found}
use Rattle.ti_database.proofs.searching.first_barred.Goals as goal

pub returns-in-Some : goal.returns-in-Some
returns-in-Some g c =
    let copied : c.in_ok-from_slice.field-0.items ≡ c.path-item.result = c.in_ok-from_slice.ensures.items ∙ c.as_slice-in-Some.ensures.value ∙ c.path.view_is in
    barred_here (g.S.Store.bars c.args.store.now) c.args.paths.now c.loop-path.path-index c.path-item.result c.in_ok-from_slice.field-0.items c.as_slice.result.now c.in-Some.obstacle c.obstacle.result
    c.loop-path-test.true c.path-item.is copied (c.as_slice.ensures.value ∙ c.path.view_is ∙ sym copied) c.in-Some.is c.loop-path.invariant c.obstacle.ensures

pub returns : goal.returns
returns g c = none_found (λ obstacle. obstacle) (g.S.Store.bars c.args.store.now) c.args.paths.now c.loop-path.path-index c.loop-path-test.false c.loop-path.invariant
