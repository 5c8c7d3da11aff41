use Rattle.std.proofs.Common.{ap, refl, sym, true, [], ◌∙◌, ◌++◌, if◌then◌else◌}
use Rattle.scr_plan.specs.Repaints.{joined_places, without_idle}
use Rattle.scr_plan.specs.Scratch.{places_cursor, resets}
use Rattle.scr_plan.proofs.JoinedLaws.{joined_assoc}
use Rattle.scr_plan.proofs.joined_changes.joined_from.Goals as goal

pub returns : goal.returns
returns c =
    let profile = c.args.scene.now.profile.now in
    let picture = c.args.scene.now.picture.now in
    let memory = c.args.memory.now in
    let all = resets profile ++ joined_places profile picture memory ++ resets profile ++ places_cursor picture.wish in
    let end = c.in_ok-join_changes.ensures.all refl true c.in_ok-ops.ops.items memory.state (resets profile) c.in_ok-joining.ensures in
    end.ops refl
    ∙ ap (λ ops. ops ++ without_idle profile memory.state (resets profile ++ (joined_places profile picture memory ++ resets profile ++ places_cursor picture.wish))) c.in_ok-ops.ensures.items
    ∙ sym (ap (without_idle profile memory.state) (joined_assoc (resets profile) (joined_places profile picture memory) (resets profile) (places_cursor picture.wish)))
    ∙ sym (ap (λ b. if b then [] else without_idle profile memory.state all) c.requires.some)
