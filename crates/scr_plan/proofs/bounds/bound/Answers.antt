use Rattle.std.proofs.Common.{ℕ, List, ap, subst, sym, ◌∙◌, ◌≡◌, ◌-◌, ◌^◌, ◌&&◌, All, length, min, not, false, true, if◌then◌else◌, rules}
use Rattle.scr_term.specs.declared.operations.operation.Op.{Op}
use Rattle.scr_term.specs.Operations.Texts.{all_bytes, has}
use Rattle.scr_memory.specs.Memories.{is_known}
use Rattle.scr_plan.specs.Repaints.{joined_of}
use Rattle.scr_plan.specs.Scratch.{scratch_of}
use Rattle.scr_plan.proofs.BoundLaws.{joined_had}
use Rattle.scr_plan.proofs.ScratchLaws.{scratch_had}
use Rattle.scr_plan.proofs.bounds.bound.Goals as goal

pub returns-then-wants_changes_alone : goal.returns-then-wants_changes_alone
returns-then-wants_changes_alone c =
    let profile = c.args.profile.now in
    let memory = c.args.memory.now in
    let wanted = c.args.wanted.now in
    let most : List Op → ℕ = λ ops. min (length (all_bytes profile ops)) (2 ^ 64 - 1) in
    let joined = joined_of profile memory wanted.picture in
    let scratch = scratch_of profile wanted.picture in
    let had : All (λ op. has profile op ≡ true) joined =
    joined_had c.joined_shows.ensures c.run_laws.ensures profile c.size-profile.ensures.profile wanted.picture c.size-wanted.ensures.screen.picture c.requires.fits memory (search rules) c.requires.possible (search rules) in
    let same : c.deref.result.now ≡ joined = search rules in
    let due : (is_known memory && not wanted.repaint) ≡ true = search rules in
    c.price_of.ensures (subst (All (λ op. has profile op ≡ true)) (sym same) had) ∙ ap most same ∙ sym (ap (λ b. most (if b then joined else scratch)) due)

pub returns : goal.returns
returns c =
    let profile = c.args.profile.now in
    let memory = c.args.memory.now in
    let wanted = c.args.wanted.now in
    let most : List Op → ℕ = λ ops. min (length (all_bytes profile ops)) (2 ^ 64 - 1) in
    let joined = joined_of profile memory wanted.picture in
    let scratch = scratch_of profile wanted.picture in
    let had : All (λ op. has profile op ≡ true) scratch =
    scratch_had c.scratch_shows.ensures c.run_laws.ensures c.blank_laws.ensures profile c.size-profile.ensures.profile wanted.picture c.size-wanted.ensures.screen.picture c.requires.fits in
    let same : c.deref-2.result.now ≡ scratch = search rules in
    let due : (is_known memory && not wanted.repaint) ≡ false = search rules in
    c.price_of-2.ensures (subst (All (λ op. has profile op ≡ true)) (sym same) had) ∙ ap most same ∙ sym (ap (λ b. most (if b then joined else scratch)) due)
