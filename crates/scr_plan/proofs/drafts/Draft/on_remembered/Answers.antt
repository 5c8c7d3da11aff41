use Rattle.std.proofs.Common.{ap, refl, rules, ◌∙◌, ◌++◌}
use Rattle.scr_plan.specs.Code.Painters.{resets_unless_plain}
use Rattle.scr_plan.proofs.JoiningLaws.{begun_joining}
use Rattle.scr_plan.proofs.drafts.Draft.on_remembered.Goals as goal

pub returns : goal.returns
returns c =
    begun_joining c.run_laws.ensures c.profiles_have.ensures _ c.size-size.ensures.profile _ c.requires.scene.painter c.args.memory.now c.size-memory.ensures.memory c.requires.rows c.requires.columns c.requires.pen
    c.args.ops.items (record { ops = c.reset_unless_plain.new.ops; keeps = c.args.keeps; bytes = 0; spot = c.remembered_spot-spot.result; pen = c.remembered_pen-pen.result }) c.count.new.self c.len-begun.result c.remembered_spot-spot.result c.plain.result (search rules)
    (c.in_ok-reset_unless_plain.ensures ∙ ap (λ pen. c.args.ops.items ++ resets_unless_plain c.args.scene.now.painter pen) c.remembered_pen-pen.ensures) refl c.remembered_spot-spot.ensures c.plain.ensures c.count.ensures
