use Rattle.std.proofs.Common.{subst, sym}
use Rattle.curses.specs.ScreenStates.{IsRemembered}
use Rattle.curses.proofs.RememberedLaws.{remembers_nothing}
use Rattle.curses.proofs.updates.lose.Goals as goal

pub returns-clause-remembered : goal.returns-clause-remembered
returns-clause-remembered c =
    subst (λ memory. IsRemembered c.args.profile.now memory c.args.wanted.now) (sym c.forget.ensures)
    (remembers_nothing c.up_to_date_laws.ensures c.memory_laws.ensures c.args.profile.now c.args.memory.now c.args.wanted.now c.requires.remembered)
