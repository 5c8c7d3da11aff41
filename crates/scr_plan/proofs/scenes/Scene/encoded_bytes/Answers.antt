use Rattle.std.proofs.Common.{◌≤◌, ◌∙◌, ap, arith}
use Rattle.scr_cells.specs.Characters.{seen_character}
use Rattle.scr_plan.proofs.LengthLaws.{one_more}
use Rattle.scr_plan.proofs.LookingLaws.{look_by}
use Rattle.scr_plan.proofs.scenes.Scene.encoded_bytes.Goals as goal

pub loop-column-preserved : goal.loop-column-preserved
loop-column-preserved c =
    let scene = c.args.self.now in
    let low : c.args.from ≤ c.loop-column.column = c.loop-column.auto.column in
    record {
      few = omega (arith, low, c.loop-column.invariant.few, c.encoded_length-bytes.ensures.few);
      value = one_more scene.profile.now (c.profiles_have.ensures scene.profile.now c.size-size.ensures.profile) scene.picture.now c.size-picture.ensures.picture scene.painter c.requires.scene.painter c.args.row c.args.from c.loop-column.column
          c.code_of.result c.encoded_length-bytes.result c.loop-column.bytes low
          (c.code_of.ensures.value ∙ ap (λ cell. seen_character scene.painter.charset cell.character) c.cell_in.ensures ∙ ap (λ look. look.character) (look_by scene.painter scene.picture.now c.args.row c.loop-column.column c.row-cells.result.now c.row-cells.ensures.cells))
          c.encoded_length-bytes.ensures.value c.loop-column.invariant.value;
    }
