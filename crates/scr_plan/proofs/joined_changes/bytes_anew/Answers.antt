use Rattle.std.proofs.Common.{All, ap, false, length, subst, true, [], ◌≡◌, ◌∙◌, ◌++◌, ◌∷◌}
use Rattle.scr_term.specs.declared.operations.operation.Op.TheVariants.{Clear}
use Rattle.scr_term.specs.Operations.States.{blank_state}
use Rattle.scr_term.specs.Operations.Texts.{all_bytes, has}
use Rattle.scr_plan.specs.Code.Joinings.{counted_up}
use Rattle.scr_plan.specs.Code.Painters.{painter_resets}
use Rattle.scr_plan.specs.Repaints.{cleared, joined_places, without_idle}
use Rattle.scr_plan.specs.Scratch.{places_cursor, resets}
use Rattle.scr_plan.proofs.PlanLaws.{anew_counted}
use Rattle.scr_plan.proofs.joined_changes.bytes_anew.Goals as goal

pub returns : goal.returns
returns c =
    let profile = c.args.scene.now.profile.now in
    let picture = c.args.scene.now.picture.now in
    let end = c.in_ok-join_all.ensures false c.push.new.self.items (blank_state profile.rows profile.columns) [] c.on_blanks-joining.ensures in
    let first : c.push.new.self.items ≡ resets profile ++ Clear ∷ [] =
    c.in_ok-push.ensures.items ∙ ap (λ ops. ops ++ Clear ∷ []) (c.in_ok-reset.ensures ∙ ap (λ ops. ops ++ painter_resets c.args.scene.now.painter) c.in_ok-ops.ensures.items ∙ ap painter_resets c.requires.scene.painter) in
    rw c.saturating_add.ensures
    (anew_counted c.run_laws.ensures c.blank_laws.ensures c.profiles_have.ensures profile c.size-size.ensures.profile
    (without_idle profile (blank_state profile.rows profile.columns) (joined_places profile picture (cleared picture) ++ resets profile ++ places_cursor picture.wish))
    c.price_of-cleared.result c.join_all.new.self.bytes (subst (λ ops. All (λ op. has profile op ≡ true) ops → c.price_of-cleared.result ≡ counted_up (length (all_bytes profile ops))) (c.deref.ensures.value ∙ first) c.price_of-cleared.ensures) end.bytes)
