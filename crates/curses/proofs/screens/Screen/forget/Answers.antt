use Rattle.std.proofs.Common.{subst, sym}
use Rattle.scr_memory.specs.Spares.{IsReady}
use Rattle.curses.specs.ScreenStates.{IsRemembered}
use Rattle.curses.proofs.RememberedLaws.{ready_forgotten, remembers_nothing}
use Rattle.curses.proofs.screens.Screen.forget.Goals as goal

pub invariant_of-self : goal.invariant_of-self
invariant_of-self c = (
  record {
    desk_rows = c.self.invariant.0.desk_rows;
    desk_columns = c.self.invariant.0.desk_columns;
    memory = subst (λ memory. IsRemembered c.self.inside.profile memory c.self.inside.wanted) (sym c.forget.ensures)
        (remembers_nothing c.up_to_date_laws.ensures c.memory_laws.ensures c.self.inside.profile c.self.inside.memory c.self.inside.wanted c.self.invariant.0.memory);
  },
  c.self.invariant.1,
  c.self.invariant.2,
  subst (λ memory. IsReady memory c.self.inside.spare) (sym c.forget.ensures) (ready_forgotten c.self.inside.memory c.self.inside.spare c.self.invariant.3),
)
