use Rattle.std.proofs.Common.{◌-◌, ◌∙◌, sym}
use Rattle.scr_plan.proofs.LengthLaws.{each_is_one}
use Rattle.scr_plan.proofs.scenes.Scene.bytes_of_run.Goals as goal

pub returns : goal.returns
returns c =
    let scene = c.args.self.now in
    each_is_one c.character_laws.ensures scene.profile.now (c.profiles_have.ensures scene.profile.now c.size-size.ensures.profile) scene.picture.now c.size-picture.ensures.picture scene.painter c.requires.scene.painter
    (sym c.is_utf8.ensures ∙ c.if-is_utf8.false) c.args.row c.args.from (c.args.end - c.args.from)
