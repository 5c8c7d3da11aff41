use Rattle.std.proofs.Common.{ap, false, length, refl, subst, sym, [], ◌∙◌, ◌&&◌, ◌++◌, ◌≡◌, ◌≤◌, if◌then◌else◌}
use Rattle.scr_memory.specs.Memories.{is_placed}
use Rattle.scr_term.specs.Operations.Texts.{all_bytes}
use Rattle.scr_plan.specs.Code.Joinings.{counted_up}
use Rattle.scr_plan.specs.Code.Planning.{AreChanges}
use Rattle.scr_plan.specs.Repaints.{IsSizeOf, differing, is_none_left, joined_of, joined_places, without_idle}
use Rattle.scr_plan.specs.Scratch.{places_cursor, resets}
use Rattle.scr_plan.proofs.JoinedLaws.{joined_assoc}
use Rattle.scr_plan.proofs.joined_changes.bytes_of_joined.Goals as goal

pub join_changes-requires-clause-size : goal.join_changes-requires-clause-size
join_changes-requires-clause-size c =
    let update = c.args.update.now in
    subst (λ picture. IsSizeOf picture update.memory.now) (sym c.requires.update.picture) c.requires.update.size

pub join_changes-requires-clause-changes : goal.join_changes-requires-clause-changes
join_changes-requires-clause-changes c =
    let update = c.args.update.now in
    subst (λ picture. AreChanges update.scene.profile.now picture update.memory.now c.args.changes.now picture.rows) (sym c.requires.update.picture) c.requires.changes

pub returns-clause-bytes : goal.returns-clause-bytes
returns-clause-bytes c =
    let profile = c.args.update.now.scene.profile.now in
    let picture = c.args.update.now.scene.picture.now in
    let memory = c.args.update.now.memory.now in
    let all = resets profile ++ joined_places profile picture memory ++ resets profile ++ places_cursor picture.wish in
    let some : (is_none_left (differing profile picture memory) && is_placed memory picture.wish) ≡ false = subst (λ p. (is_none_left (differing profile p memory) && is_placed memory p.wish) ≡ false) (sym c.requires.update.picture) c.requires.some in
    subst (λ p. c.join_changes.new.self.bytes ≤ counted_up (length (all_bytes profile (joined_of profile memory p)))) c.requires.update.picture
    (subst (λ ops. c.join_changes.new.self.bytes ≤ counted_up (length (all_bytes profile ops)))
    (sym (ap (without_idle profile memory.state) (joined_assoc (resets profile) (joined_places profile picture memory) (resets profile) (places_cursor picture.wish)))
    ∙ sym (ap (λ b. if b then [] else without_idle profile memory.state all) some))
    (c.in_ok-join_changes.ensures.most false _ memory.state (resets profile) c.in_ok-joining.ensures).0)

pub returns-clause-ops : goal.returns-clause-ops
returns-clause-ops c = (c.in_ok-join_changes.ensures.most false _ c.args.update.now.memory.now.state (resets c.args.update.now.scene.profile.now) c.in_ok-joining.ensures).1 refl
