use Rattle.std.proofs.Common.{ap, arith, rules, ◌∙◌, ◌+◌, inl, inr, subst, sym, ◌≡◌, ◌<◌, []}
use Rattle.scr_plan.specs.Code.Planning.{AreChanges, IsSameRow, range_by}
use Rattle.scr_plan.proofs.ChangedRowLaws.{changes_further, changes_more, no_changes}
use Rattle.scr_plan.proofs.JoinedRowLaws.{unlooked_same}
use Rattle.scr_plan.proofs.scenes.Update.find_changes.Goals as goal
use Rattle.scr_plan.proofs.scenes.Update.find_changes.Goals.{in-Some+in_ok-push, in_default}

pub loop-row-init : goal.loop-row-init
loop-row-init c =
    let update = c.args.self.now in
    let profile = update.scene.profile.now in
    let picture = update.wanted.now.picture in
    let memory = update.memory.now in
    let first = c.rows-first.result.0 in
    subst (λ changes. AreChanges profile picture memory changes first) (sym c.requires.none)
    (changes_further profile picture memory [] 0 first (omega arith)
    (λ r low below k wide. let high : r < picture.rows = omega (arith, below, c.rows-first.ensures.order, c.rows-first.ensures.end) in
    unlooked_same (range_by update.by) profile memory update.wanted.now c.requires.update.same c.requires.update.size c.requires.known r k high wide (c.rows-first.ensures.others r (inl below) high))
    (no_changes profile picture memory))

pub loop-row-preserved : goal.loop-row-preserved
loop-row-preserved c =
    let update = c.args.self.now in
    let profile = update.scene.profile.now in
    let picture = update.wanted.now.picture in
    let memory = update.memory.now in
    let row = c.loop-row.row in
    let before = c.loop-row.invariant in
    elim c.match-change_in.branch [
      | in-Some+in_ok-push w ↦
          let at : w.in-Some.change.row ≡ row = search rules in
          subst (λ changes. AreChanges profile picture memory changes (row + 1)) (sym (ap (λ v. v.items) w.changes-is ∙ w.in_ok-push.ensures.ok))
          (changes_more profile picture memory c.loop-row.changes.items row w.in-Some.change at (search rules) before)
      | in_default w ↦
          subst (λ changes. AreChanges profile picture memory changes (row + 1)) (sym (ap (λ v. v.items) w.changes-is))
          (changes_further profile picture memory c.loop-row.changes.items row (row + 1) (omega arith) (λ r low high. let here : row ≡ r = omega (arith, low, high) in subst (IsSameRow profile picture memory) here (c.change_in.ensures.none w.in_default.is)) before)
    ]

pub returns : goal.returns
returns c =
    let update = c.args.self.now in
    let profile = update.scene.profile.now in
    let picture = update.wanted.now.picture in
    let memory = update.memory.now in
    let last : c.loop-row.row ≡ c.rows-first.result.1 = omega (arith, c.loop-row-test.false, c.loop-row.auto.row-end c.rows-first.ensures.order) in
    changes_further profile picture memory c.loop-row.changes.items c.loop-row.row picture.rows (omega (arith, last, c.rows-first.ensures.end))
    (λ r low high k wide. unlooked_same (range_by update.by) profile memory update.wanted.now c.requires.update.same c.requires.update.size c.requires.known r k high wide (c.rows-first.ensures.others r (inr (omega (arith, last, low))) high))
    c.loop-row.invariant
