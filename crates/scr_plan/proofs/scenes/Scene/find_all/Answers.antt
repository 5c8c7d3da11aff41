use Rattle.std.proofs.Common.{ap, arith, rules, ◌∙◌, ◌+◌, subst, sym, ◌≡◌}
use Rattle.scr_plan.specs.Code.Planning.{AreChanges, IsSameRow}
use Rattle.scr_plan.proofs.ChangedRowLaws.{changes_further, changes_more, no_changes}
use Rattle.scr_plan.proofs.scenes.Scene.find_all.Goals as goal
use Rattle.scr_plan.proofs.scenes.Scene.find_all.Goals.{in-Some+in_ok-push, in_default}

pub loop-row-init : goal.loop-row-init
loop-row-init c =
    let profile = c.args.self.now.profile.now in
    let picture = c.args.self.now.picture.now in
    subst (λ changes. AreChanges profile picture c.args.memory.now changes 0) (sym c.requires.none) (no_changes profile picture c.args.memory.now)

pub loop-row-preserved : goal.loop-row-preserved
loop-row-preserved c =
    let profile = c.args.self.now.profile.now in
    let picture = c.args.self.now.picture.now in
    let memory = c.args.memory.now in
    let row = c.loop-row.row in
    let before = c.loop-row.invariant in
    elim c.match-change_of.branch [
      | in-Some+in_ok-push w ↦
          let at : w.in-Some.change.row ≡ row = search rules in
          subst (λ changes. AreChanges profile picture memory changes (row + 1)) (sym (ap (λ v. v.items) w.changes-is ∙ w.in_ok-push.ensures.ok))
          (changes_more profile picture memory c.loop-row.changes.items row w.in-Some.change at (search rules) before)
      | in_default w ↦
          subst (λ changes. AreChanges profile picture memory changes (row + 1)) (sym (ap (λ v. v.items) w.changes-is))
          (changes_further profile picture memory c.loop-row.changes.items row (row + 1) (omega arith) (λ r low high. let here : row ≡ r = omega (arith, low, high) in subst (IsSameRow profile picture memory) here (c.change_of.ensures.none w.in_default.is)) before)
    ]

pub returns : goal.returns
returns c =
    let profile = c.args.self.now.profile.now in
    let picture = c.args.self.now.picture.now in
    let last : c.loop-row.row ≡ picture.rows = omega (arith, c.loop-row-test.false, c.loop-row.auto.row-end, c.size-size.ensures.rows) in
    subst (AreChanges profile picture c.args.memory.now c.loop-row.changes.items) last c.loop-row.invariant
