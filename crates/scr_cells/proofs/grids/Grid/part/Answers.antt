use Rattle.std.proofs.Common.{◌≡◌, ◌+◌, ◌-◌, ◌∙◌, arith, drop, take}
use Rattle.scr_cells.proofs.GridLaws.{part_is}
use Rattle.scr_cells.proofs.grids.Grid.part.Goals as goal

pub returns-clause-elements : goal.returns-clause-elements
returns-clause-elements g c =
    let start = c.place-start.result in
    let n = c.args.end - c.args.from in
    let many : start + n - start ≡ n = omega arith in
    (λ i. take (many i) (drop start (c.deref.ensures.value i))) ∙ part_is _ _ _ _ c.args.row c.args.from n start c.self.view_is c.requires.row (omega arith) c.place-start.ensures
