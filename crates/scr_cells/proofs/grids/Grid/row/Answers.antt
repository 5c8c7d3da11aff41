use Rattle.std.proofs.Common.{◌≡◌, ◌+◌, ◌-◌, ◌*◌, ◌∙◌, ap, arith, drop, sym, take}
use Rattle.scr_cells.specs.Grids.{GridView}
use Rattle.scr_cells.proofs.GridLaws.{row_is}
use Rattle.scr_cells.proofs.grids.Grid.row.Goals as goal

pub returns-clause-elements : goal.returns-clause-elements
returns-clause-elements g c =
    let start = c.place-start.result in
    let w = c.self.inside.columns in
    let many : start + w - start ≡ w = omega arith in
    let none : c.args.row * w + 0 ≡ c.args.row * w = omega arith in
    let from : start ≡ c.args.row * w = c.place-start.ensures ∙ ap (λ n. c.args.row * n + 0) (sym (ap (λ (v : GridView _). v.columns) c.self.view_is)) ∙ none in
    (λ i. take (many i) (drop (from i) (c.deref.ensures.value i))) ∙ row_is _ _ _ _ c.args.row c.self.view_is c.requires
