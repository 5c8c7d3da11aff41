use Rattle.std.proofs.Common.{◌≡◌, ◌-◌, ◌∙◌, sym, ap, arith, drop, length, take}
use Rattle.std.proofs.lemmas.List.{with_items_is}
use Rattle.scr_cells.specs.Grids.{grid_row, line_with_run}
use Rattle.scr_cells.proofs.GridLaws.{part_is, part_length, run_is_put_at}
use Rattle.scr_cells.proofs.grids.Grid.copy.Goals as goal

pub returns : goal.returns
returns g c =
    let n = c.args.end - c.args.start in
    let items = c.self.inside.items.items in
    let run = take n (drop c.args.start (grid_row c.args.self.now.lines c.args.source)) in
    let run_is : take n (drop c.place-from.result items) ≡ run = part_is _ _ _ _ c.args.source c.args.start n c.place-from.result c.self.view_is c.requires.source (omega arith) c.place-from.ensures in
    let len : length run ≡ n = part_length _ _ _ _ c.args.source c.args.start n c.self.view_is c.self.invariant c.requires.source (omega arith) in
    let part : c.copy_run.new.elements ≡ line_with_run items c.place-place.result (take n (drop c.place-from.result items)) =
    c.copy_run.ensures ∙ ap (λ xs. line_with_run xs c.place-place.result (take n (drop c.place-from.result xs))) c.deref_mut.ensures.value in
    let new : c.copy_run.new.elements ≡ line_with_run items c.place-place.result run = part ∙ ap (line_with_run items c.place-place.result) run_is in
    let kept : length c.copy_run.new.elements ≡ c.self.inside.items.len = c.copy_run.auto.elements ∙ ap length c.deref_mut.ensures.value ∙ sym c.self.inside.items.ok.0 in
    run_is_put_at _ _ items run _ _ c.args.row c.args.to c.place-place.result c.self.view_is c.self.invariant c.requires.row (omega (arith, len, c.requires.to)) c.place-place.ensures (with_items_is c.self.inside.items c.copy_run.new.elements kept ∙ new)
