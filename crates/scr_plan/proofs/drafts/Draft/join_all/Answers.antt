use Rattle.std.proofs.Common.{ap, arith, refl, ◌≡◌, ◌<◌, ◌++◌, filter}
use Rattle.scr_plan.specs.Code.Joinings.{Continues}
use Rattle.scr_plan.specs.Repaints.{cleared, differs, joined_places}
use Rattle.scr_plan.specs.Scratch.{places, places_cursor, resets}
use Rattle.scr_plan.proofs.JoinLaws.{cleared_row}
use Rattle.scr_plan.proofs.JoinedRowLaws.{all_of, ended, nothing_of, on_ok, rows_go}
use Rattle.scr_plan.proofs.drafts.Draft.join_all.Goals as goal

pub loop-row-init : goal.loop-row-init
loop-row-init c = nothing_of c.args.scene.now.profile.now c.args.scene.now.picture.now (cleared c.args.scene.now.picture.now) 0 c.args.scene.now.picture.now.columns c.args.self.now refl

pub loop-row-preserved : goal.loop-row-preserved
loop-row-preserved c =
    let high : c.loop-row.row < c.args.scene.now.picture.now.rows = omega (arith, c.loop-row-test.true, c.size-size.ensures.rows) in
    rows_go c.args.scene.now.profile.now c.args.scene.now.picture.now (cleared c.args.scene.now.picture.now) c.loop-row.row c.args.scene.now.picture.now.columns c.args.self.now c.loop-row.self c.join_row.new.self c.loop-row.invariant
    (c.in_ok-join_row.ensures (cleared c.args.scene.now.picture.now) (cleared_row c.args.scene.now.picture.now c.loop-row.row high))

pub returns : goal.returns
returns c =
    let profile = c.args.scene.now.profile.now in
    let picture = c.args.scene.now.picture.now in
    let last : picture.rows ≡ c.loop-row.row = omega (arith, c.loop-row-test.false, c.loop-row.auto.row-end, c.size-size.ensures.rows) in
    on_ok c.finish.result _ (Continues profile c.args.self.now c.finish.new.self (joined_places profile picture (cleared picture) ++ resets profile ++ places_cursor picture.wish))
    (λ end. ended profile c.args.self.now c.loop-row.self c.finish.new.self (joined_places profile picture (cleared picture)) (resets profile) (places_cursor picture.wish)
    (all_of profile picture (cleared picture) picture.rows c.loop-row.row picture.columns c.args.self.now c.loop-row.self (ap (λ n. filter (differs profile picture (cleared picture)) (places n picture.columns)) last) c.loop-row.invariant) end)
    c.finish.ensures
