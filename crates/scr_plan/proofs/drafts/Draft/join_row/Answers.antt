use Rattle.std.proofs.Common.{arith, inl, option_map, filter}
use Rattle.std.specs.List.{flat_map}
use Rattle.scr_memory.specs.Memories.{MemoryView}
use Rattle.scr_plan.specs.Code.Joinings.{Continues, ShowsRow, joined_at}
use Rattle.scr_plan.specs.Repaints.{differs}
use Rattle.scr_plan.specs.Scratch.{row_places}
use Rattle.scr_plan.proofs.JoinedRowLaws.{on_ok, row_whole, row_with_rest}
use Rattle.scr_plan.proofs.drafts.Draft.join_row.Goals as goal

pub returns-in_ok-left-in-Some : goal.returns-in_ok-left-in-Some
returns-in_ok-left-in-Some c =
    let before = option_map (λ looks. looks.now) c.args.before in
    on_ok c.join_rest.result _ ((memory : MemoryView) → ShowsRow memory c.args.row before
    → Continues c.args.scene.now.profile.now c.args.self.now c.join_rest.new.self (flat_map (joined_at c.args.scene.now.profile.now c.args.scene.now.picture.now memory) (filter (differs c.args.scene.now.profile.now c.args.scene.now.picture.now memory) (row_places c.args.scene.now.picture.now.columns c.args.row))))
    (λ last memory shows.
    row_with_rest c.args.scene.now.profile.now c.args.scene.now.picture.now c.args.row before c.args.scene.now.painter c.requires.scene.painter c.args.from c.in-Some.column c.in_ok-left-in-Some.left c.in-Some.ensures.inside.0
    (omega (arith, c.in-Some.ensures.inside.1, c.requires.end)) (λ k below wide. c.requires.outside k (inl below) wide) c.in_ok-left-in-Some.ensures.left c.in-Some.ensures.blank
    c.args.self.now c.join_part.new.self c.join_rest.new.self c.in_ok-left-in-Some.ensures.all last memory shows (c.in-Some.ensures.value memory shows))
    c.join_rest.ensures

pub returns-in_ok-_left-in-None : goal.returns-in_ok-_left-in-None
returns-in_ok-_left-in-None c = λ memory shows.
    row_whole c.args.scene.now.profile.now c.args.scene.now.picture.now c.args.row (option_map (λ looks. looks.now) c.args.before) c.args.scene.now.painter c.requires.scene.painter c.args.from c.args.end c.requires.from c.requires.end c.requires.outside
    c.args.self.now c.join_part-in-None.new.self c.in_ok-_left-in-None.ensures.all memory shows (c.in-None.ensures.value memory shows)
