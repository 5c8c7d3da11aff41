use Rattle.std.proofs.Common.{ap, arith, sym, subst, take, true, false, ◌≡◌, ◌∙◌}
use Rattle.std.proofs.lemmas.Bool.Decides.{nat_tests}
use Rattle.scr_memory.proofs.FollowingLaws.{same_columns, same_rows}
use Rattle.scr_memory.proofs.TryingLaws.{none_followed, one_followed, one_sure, one_unsure}
use Rattle.scr_memory.specs.Memories.{all_followed}
use Rattle.scr_memory.specs.Spares.{are_sure}
use Rattle.scr_memory.proofs.memories.Memory.follow_sure.Goals as goal

pub returns-then-characters-gt0-clause-rows : goal.returns-then-characters-gt0-clause-rows
returns-then-characters-gt0-clause-rows c = same_rows c.args.profile.now (take c.follow_known-characters.result c.args.ops.now) c.args.self.now c.follow_known-characters.new.self c.follow_known-characters.ensures.followed

pub returns-then-characters-gt0-clause-columns : goal.returns-then-characters-gt0-clause-columns
returns-then-characters-gt0-clause-columns c = same_columns c.args.profile.now (take c.follow_known-characters.result c.args.ops.now) c.args.self.now c.follow_known-characters.new.self c.follow_known-characters.ensures.followed

pub returns-then-follow_one-clause-sure : goal.returns-then-follow_one-clause-sure
returns-then-follow_one-clause-sure c =
    let none : c.follow_known-characters.result ≡ 0 = grind (arith, nat_tests, c.if-characters-gt0.false) in
    let is = none_followed c.args.profile.now c.args.ops.now c.follow_known-characters.result c.args.self.now c.follow_known-characters.new.self none c.follow_known-characters.ensures.followed in
    subst (λ memory. are_sure c.args.profile.now (take 1 c.args.ops.now) memory ≡ true) is
    (one_sure c.args.profile.now c.args.ops.now c.follow_known-characters.new.self c.requires.some (sym c.follow_one.ensures.answer ∙ c.if-follow_one.true))

pub returns-then-follow_one-clause-followed : goal.returns-then-follow_one-clause-followed
returns-then-follow_one-clause-followed c =
    let none : c.follow_known-characters.result ≡ 0 = grind (arith, nat_tests, c.if-characters-gt0.false) in
    let is = none_followed c.args.profile.now c.args.ops.now c.follow_known-characters.result c.args.self.now c.follow_known-characters.new.self none c.follow_known-characters.ensures.followed in
    one_followed c.args.profile.now c.args.ops.now c.follow_known-characters.new.self c.follow_one.new.self c.requires.some (c.follow_one.ensures.followed c.if-follow_one.true)
    ∙ ap (all_followed c.args.profile.now (take 1 c.args.ops.now)) is

pub returns-then-follow_one-clause-rows : goal.returns-then-follow_one-clause-rows
returns-then-follow_one-clause-rows c =
    same_rows c.args.profile.now (take 1 c.args.ops.now) c.follow_known-characters.new.self c.follow_one.new.self (one_followed c.args.profile.now c.args.ops.now c.follow_known-characters.new.self c.follow_one.new.self c.requires.some (c.follow_one.ensures.followed c.if-follow_one.true))
    ∙ same_rows c.args.profile.now (take c.follow_known-characters.result c.args.ops.now) c.args.self.now c.follow_known-characters.new.self c.follow_known-characters.ensures.followed

pub returns-then-follow_one-clause-columns : goal.returns-then-follow_one-clause-columns
returns-then-follow_one-clause-columns c =
    same_columns c.args.profile.now (take 1 c.args.ops.now) c.follow_known-characters.new.self c.follow_one.new.self (one_followed c.args.profile.now c.args.ops.now c.follow_known-characters.new.self c.follow_one.new.self c.requires.some (c.follow_one.ensures.followed c.if-follow_one.true))
    ∙ same_columns c.args.profile.now (take c.follow_known-characters.result c.args.ops.now) c.args.self.now c.follow_known-characters.new.self c.follow_known-characters.ensures.followed

pub returns-else-follow_one-clause-unsure : goal.returns-else-follow_one-clause-unsure
returns-else-follow_one-clause-unsure c =
    let none : c.follow_known-characters.result ≡ 0 = grind (arith, nat_tests, c.if-characters-gt0.false) in
    let is = none_followed c.args.profile.now c.args.ops.now c.follow_known-characters.result c.args.self.now c.follow_known-characters.new.self none c.follow_known-characters.ensures.followed in
    subst (λ memory. are_sure c.args.profile.now c.args.ops.now memory ≡ false) is
    (one_unsure c.args.profile.now c.args.ops.now c.follow_known-characters.new.self c.requires.some (sym c.follow_one.ensures.answer ∙ c.if-follow_one.false))
