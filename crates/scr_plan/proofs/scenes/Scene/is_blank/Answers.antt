use Rattle.std.proofs.Common.{ap, rules, sym, true, None, ◌≡◌, ◌∙◌}
use Rattle.scr_cells.specs.LookViews.{blank}
use Rattle.scr_plan.specs.Code.Painters.{painter_look}
use Rattle.scr_plan.specs.Repaints.{look_eq}
use Rattle.scr_plan.proofs.JoinLaws.{differs_by}
use Rattle.scr_plan.proofs.LookingLaws.{one_place_more}
use Rattle.scr_plan.proofs.scenes.Scene.is_blank.Goals as goal

pub loop-column-preserved : goal.loop-column-preserved
loop-column-preserved c =
    let picture = c.args.self.now.picture.now in
    let column = c.loop-column.column in
    let is : c.is_blank.result ≡ true = search rules in
    one_place_more (λ at. look_eq (painter_look c.args.self.now.painter picture (c.args.row, at)) blank ≡ true) c.args.from column c.loop-column.invariant
    (ap (λ look. look_eq look blank) (sym (differs_by c.args.self.now.painter picture c.args.row None column c.args.cells.now c.seen_in-code.result.0 c.seen_in-code.result.1 c.requires.cells c.seen_in-code.ensures.code c.seen_in-code.ensures.pen))
    ∙ sym c.is_blank.ensures ∙ is)
