use Rattle.std.proofs.Common.{arith, length, None, subst, ◌≡◌, ◌≤◌, ◌++◌, filter}
use Rattle.std.specs.List.{flat_map}
use Rattle.scr_plan.specs.Code.Joinings.{Continues, CountsAtMost, joined_at}
use Rattle.scr_plan.specs.Code.Planning.{row_after}
use Rattle.scr_plan.specs.Repaints.{differs, joined_places}
use Rattle.scr_plan.specs.Scratch.{places, places_cursor, resets}
use Rattle.scr_plan.proofs.ChangedRowLaws.{change_goes, changes_go, few_rows}
use Rattle.scr_plan.proofs.JoinedRowLaws.{all_counted, ended, on_ok, rows_counted}
use Rattle.scr_plan.proofs.JoiningLaws.{nothing_goes}
use Rattle.scr_plan.proofs.drafts.Draft.join_changes.Goals as goal

pub loop-change-init : goal.loop-change-init
loop-change-init c = nothing_goes c.args.scene.now.profile.now c.args.self.now

pub loop-change-preserved : goal.loop-change-preserved
loop-change-preserved c =
    change_goes c.args.scene.now.profile.now c.args.scene.now.picture.now c.args.memory.now c.args.changes.now c.args.scene.now.picture.now.rows c.requires.changes c.loop-change.change-index c.loop-change-test.true
    c.args.self.now c.loop-change.self c.join_change.new.self c.loop-change.invariant c.in_ok-join_change.ensures

pub returns-then-is_above-clause-most : goal.returns-then-is_above-clause-most
returns-then-is_above-clause-most c =
    let picture = c.args.scene.now.picture.now in
    let few : row_after c.args.changes.now c.loop-change.change-index ≤ picture.rows = few_rows c.args.scene.now.profile.now picture c.args.memory.now c.args.changes.now c.requires.changes c.loop-change.change-index c.loop-change-test.true in
    rows_counted c.run_laws.ensures c.args.scene.now.profile.now picture c.args.memory.now (row_after c.args.changes.now c.loop-change.change-index) few c.args.self.now c.loop-change.self (resets c.args.scene.now.profile.now) (places_cursor picture.wish) c.loop-change.invariant

-- the changes and what ends a repaint
whole : (c : goal.After-finish) → Continues c.args.scene.now.profile.now c.loop-change.self c.finish.new.self (resets c.args.scene.now.profile.now ++ places_cursor c.args.scene.now.picture.now.wish)
    → Continues c.args.scene.now.profile.now c.args.self.now c.finish.new.self (joined_places c.args.scene.now.profile.now c.args.scene.now.picture.now c.args.memory.now ++ resets c.args.scene.now.profile.now ++ places_cursor c.args.scene.now.picture.now.wish)
whole c end =
    let profile = c.args.scene.now.profile.now in
    let picture = c.args.scene.now.picture.now in
    let memory = c.args.memory.now in
    let changes = c.args.changes.now in
    let last : c.loop-change.change-index ≡ length changes = omega (arith, c.loop-change-test.false, c.loop-change.auto.change-index-end) in
    ended profile c.args.self.now c.loop-change.self c.finish.new.self (joined_places profile picture memory) (resets profile) (places_cursor picture.wish)
    (changes_go profile picture memory changes picture.rows c.requires.changes c.args.self.now c.loop-change.self
    (subst (λ n. Continues profile c.args.self.now c.loop-change.self (flat_map (joined_at profile picture memory) (filter (differs profile picture memory) (places (row_after changes n) picture.columns)))) last c.loop-change.invariant))
    end

pub returns-clause-all : goal.returns-clause-all
returns-clause-all c =
    let profile = c.args.scene.now.profile.now in
    let picture = c.args.scene.now.picture.now in
    let memory = c.args.memory.now in
    on_ok c.finish.result _ (c.args.limit ≡ None → Continues profile c.args.self.now c.finish.new.self (joined_places profile picture memory ++ resets profile ++ places_cursor picture.wish))
    (λ end _. whole c end) c.finish.ensures

pub returns-clause-most : goal.returns-clause-most
returns-clause-most c =
    let profile = c.args.scene.now.profile.now in
    let picture = c.args.scene.now.picture.now in
    let memory = c.args.memory.now in
    on_ok c.finish.result _ (CountsAtMost profile c.args.self.now c.finish.new.self (joined_places profile picture memory ++ resets profile ++ places_cursor picture.wish))
    (λ end. all_counted c.run_laws.ensures profile c.args.self.now c.finish.new.self _ (whole c end)) c.finish.ensures
