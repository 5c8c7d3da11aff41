use Rattle.std.proofs.Common.{ap, rules, sym, ◌∙◌, ◌&&◌, ◌≡◌}
use Rattle.scr_memory.specs.Memories.{is_placed}
use Rattle.scr_plan.proofs.ChangedRowLaws.{changes_left}
use Rattle.scr_plan.proofs.joined_changes.is_shown.Goals as goal

pub returns-then-is_empty : goal.returns-then-is_empty
returns-then-is_empty c =
    let picture = c.args.scene.now.picture.now in
    let memory = c.args.memory.now in
    let placed : c.is_placed.result ≡ is_placed memory picture.wish = search rules in
    placed ∙ sym (ap (λ b. b && is_placed memory picture.wish) (changes_left c.args.scene.now.profile.now picture memory c.args.changes.now c.requires.changes ∙ sym c.is_empty.ensures ∙ c.if-is_empty.true))

pub returns-else-is_empty : goal.returns-else-is_empty
returns-else-is_empty c =
    let picture = c.args.scene.now.picture.now in
    let memory = c.args.memory.now in
    c.if-is_empty.false ∙ sym (ap (λ b. b && is_placed memory picture.wish) (changes_left c.args.scene.now.profile.now picture memory c.args.changes.now c.requires.changes ∙ sym c.is_empty.ensures ∙ c.if-is_empty.false))
