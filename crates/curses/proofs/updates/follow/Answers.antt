use Rattle.std.proofs.Common.{subst, sym}
use Rattle.curses.specs.ScreenStates.{IsRemembered}
use Rattle.curses.proofs.RememberedLaws.{remembers_followed}
use Rattle.curses.proofs.updates.follow.Goals as goal

pub returns-clause-remembered : goal.returns-clause-remembered
returns-clause-remembered c =
    subst (λ memory. IsRemembered c.args.profile.now memory c.settle.new.self) (sym c.catch_up.ensures.followed)
    (subst (IsRemembered c.args.profile.now _) (sym c.settle.ensures)
    (remembers_followed c.up_to_date_laws.ensures c.memory_runs.ensures c.args.profile.now c.size-profile.ensures.profile c.args.memory.now c.args.wanted.now c.args.ops.now c.size-wanted.ensures.screen.picture
    c.requires.remembered c.requires.plan))
