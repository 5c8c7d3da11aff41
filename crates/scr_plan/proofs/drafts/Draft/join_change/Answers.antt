use Rattle.std.proofs.Common.{ap, ◌∙◌, Some, filter}
use Rattle.std.specs.List.{flat_map}
use Rattle.scr_plan.specs.Code.Joinings.{Continues, joined_at}
use Rattle.scr_plan.specs.Code.Painters.{row_differs}
use Rattle.scr_plan.specs.Repaints.{differs}
use Rattle.scr_plan.specs.Scratch.{row_places}
use Rattle.scr_plan.proofs.JoinLaws.{differs_same}
use Rattle.scr_plan.proofs.JoinedRowLaws.{on_ok, shows_row}
use Rattle.scr_plan.proofs.drafts.Draft.join_change.Goals as goal

pub join_row-requires-clause-outside : goal.join_row-requires-clause-outside
join_row-requires-clause-outside c = λ k out wide.
    let profile = c.args.scene.now.profile.now in
    let picture = c.args.scene.now.picture.now in
    let looks = c.looks.result.now in
    let row = c.args.change.now.row in
    ap (λ p. row_differs p picture (Some looks) (row, k)) c.requires.scene.painter
    ∙ differs_same profile picture c.args.memory.now row (Some looks) (shows_row c.args.memory.now picture c.requires.size c.requires.known row looks c.requires.change.row c.looks.ensures.cells) k
    ∙ c.requires.change.outside k out wide

pub returns : goal.returns
returns c =
    let profile = c.args.scene.now.profile.now in
    let picture = c.args.scene.now.picture.now in
    let memory = c.args.memory.now in
    let row = c.args.change.now.row in
    on_ok c.join_row.result _
    (Continues profile c.args.self.now c.join_row.new.self (flat_map (joined_at profile picture memory) (filter (differs profile picture memory) (row_places picture.columns row))))
    (λ goes. goes memory (shows_row memory picture c.requires.size c.requires.known row c.looks.result.now c.requires.change.row c.looks.ensures.cells))
    c.join_row.ensures
