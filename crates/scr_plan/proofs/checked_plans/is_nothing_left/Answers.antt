use Rattle.std.proofs.Common.{ap, rules, sym, ◌∙◌, ◌&&◌, ◌≡◌}
use Rattle.scr_memory.specs.Memories.{is_placed}
use Rattle.scr_plan.proofs.ChangedRowLaws.{changes_left}
use Rattle.scr_plan.proofs.checked_plans.is_nothing_left.Goals as goal

pub returns-then-is_empty : goal.returns-then-is_empty
returns-then-is_empty c =
    let update = c.args.update.now in
    let placed : c.is_placed.result ≡ is_placed update.memory.now update.wanted.now.picture.wish = search rules in
    placed ∙ sym (ap (λ b. b && is_placed update.memory.now update.wanted.now.picture.wish) (changes_left update.scene.profile.now update.wanted.now.picture update.memory.now c.args.changes.now c.requires.changes ∙ sym c.is_empty.ensures ∙ c.if-is_empty.true))

pub returns-else-is_empty : goal.returns-else-is_empty
returns-else-is_empty c =
    let update = c.args.update.now in
    c.if-is_empty.false ∙ sym (ap (λ b. b && is_placed update.memory.now update.wanted.now.picture.wish) (changes_left update.scene.profile.now update.wanted.now.picture update.memory.now c.args.changes.now c.requires.changes ∙ sym c.is_empty.ensures ∙ c.if-is_empty.false))
