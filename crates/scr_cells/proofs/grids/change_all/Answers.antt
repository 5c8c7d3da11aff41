use Rattle.std.proofs.Common.{◌∙◌, ap, arith, get_or, set}
use Rattle.std.proofs.lemmas.List.{length-set}
use Rattle.scr_cells.proofs.GridLaws.{one_changed}
use Rattle.scr_cells.proofs.grids.change_all.Goals as goal

pub loop-place-preserved : goal.loop-place-preserved
loop-place-preserved g c =
    let place = c.loop-place.place in
    let x = c.index-elements-place.result in
    let y = c.change-element.result in
    record {
      len = length-set c.loop-place.elements place y ∙ c.loop-place.invariant.len;
      changed = λ f h. ap (λ xs. set xs place y) (c.loop-place.invariant.changed f h)
          ∙ one_changed f c.args.from c.args.elements.now place x y (omega arith) (c.index-elements-place.is ∙ ap (λ xs. get_or xs place x) (c.loop-place.invariant.changed f h)) (h _ _ _ c.change-element.ensures);
    }
