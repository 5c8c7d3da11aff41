use Rattle.std.proofs.Common.{◌≡◌, ◌+◌, ◌-◌, ◌∙◌, ap, arith, drop, length, replicate, take}
use Rattle.std.proofs.lemmas.List.{length-replicate}
use Rattle.scr_cells.specs.Grids.{grid_row}
use Rattle.scr_cells.proofs.GridLaws.{lent_run_is_put, part_is, part_length}
use Rattle.scr_cells.proofs.grids.Grid.fill.Goals as goal

pub returns : goal.returns
returns g c =
    let n = c.args.end - c.args.from in
    let start = c.place-start.result in
    let len : length (replicate n c.args.element) ≡ n = length-replicate n c.args.element in
    let many : start + n - start ≡ n = omega arith in
    let part : take (start + n - start) (drop start c.deref_mut.result.now) ≡ take n (drop c.args.from (grid_row c.args.self.now.lines c.args.row)) =
    (λ i. take (many i) (drop start (c.deref_mut.ensures.value i))) ∙ part_is _ _ _ _ c.args.row c.args.from n start c.self.view_is c.requires.row (omega arith) c.place-start.ensures in
    let wide : length (take n (drop c.args.from (grid_row c.args.self.now.lines c.args.row))) ≡ n = part_length _ _ _ _ c.args.row c.args.from n c.self.view_is c.self.invariant c.requires.row (omega arith) in
    lent_run_is_put _ _ c.self.inside.items _ c.fill_all.new.elements (replicate n c.args.element) _ c.args.row c.args.from start _ c.self.view_is c.self.invariant c.requires.row (omega (arith, len)) c.deref_mut.ensures.value
    (c.fill_all.ensures ∙ ap (λ k. replicate k c.args.element) (ap length part ∙ wide)) c.place-start.ensures (omega (arith, len))
