use Rattle.std.proofs.Common.{◌≡◌, ◌+◌, ◌-◌, ◌∙◌, ap, arith, drop, length, take}
use Rattle.scr_cells.specs.Grids.{changed_run, grid_row}
use Rattle.scr_cells.proofs.GridLaws.{length-changed_run, lent_run_is_put, part_is, part_length}
use Rattle.scr_cells.proofs.grids.Grid.change.Goals as goal

pub returns : goal.returns
returns g c = λ f h.
    let n = c.args.end - c.args.from in
    let start = c.place-start.result in
    let old = take n (drop c.args.from (grid_row c.args.self.now.lines c.args.row)) in
    let run = changed_run f c.args.from old in
    let len : length run ≡ n = length-changed_run f c.args.from old ∙ part_length _ _ _ _ c.args.row c.args.from n c.self.view_is c.self.invariant c.requires.row (omega arith) in
    let many : start + n - start ≡ n = omega arith in
    let part : take (start + n - start) (drop start c.deref_mut.result.now) ≡ old =
    (λ i. take (many i) (drop start (c.deref_mut.ensures.value i))) ∙ part_is _ _ _ _ c.args.row c.args.from n start c.self.view_is c.requires.row (omega arith) c.place-start.ensures in
    lent_run_is_put _ _ c.self.inside.items _ c.change_all.new.elements run _ c.args.row c.args.from start _ c.self.view_is c.self.invariant c.requires.row (omega (arith, len)) c.deref_mut.ensures.value
    (c.change_all.ensures.changed f h ∙ ap (changed_run f c.args.from) part) c.place-start.ensures (omega (arith, len))
