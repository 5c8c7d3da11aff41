use Rattle.std.proofs.Common.{ap, subst, sym, ◌∙◌, rules}
use Rattle.scr_virtual.specs.Laws.{HoldsChanges}
use Rattle.scr_memory.specs.Spares.{IsReady}
use Rattle.curses.specs.ScreenStates.{IsRemembered}
use Rattle.curses.proofs.RememberedLaws.{ready_disturbed, remembers_disturbed, remembers_held}
use Rattle.curses.proofs.screens.Screen.redraw_lines.Goals as goal

pub invariant_of-self : goal.invariant_of-self
invariant_of-self c =
    let sizes = c.sizes_stay.ensures.mark c.self.inside.wanted c.self.inside.desk c.in_ok-row.row c.in_ok-row.count in
    let changes = subst (HoldsChanges c.self.inside.wanted) (sym c.mark.ensures) (c.ranges_hold_changes.ensures.mark c.self.inside.wanted c.in_ok-row.row c.in_ok-row.count c.size-size.ensures.screen) in
    let held = remembers_held c.up_to_date_laws.ensures c.self.inside.profile c.self.inside.memory c.self.inside.wanted c.mark.new.self c.self.invariant.0.memory changes
    (ap (λ v. v.picture.rows) c.mark.ensures ∙ sizes.rows) (ap (λ v. v.picture.columns) c.mark.ensures ∙ sizes.columns) in (
      record {
        desk_rows = c.self.invariant.0.desk_rows;
        desk_columns = c.self.invariant.0.desk_columns;
        memory = subst (λ memory. IsRemembered c.self.inside.profile memory c.mark.new.self) (sym c.disturb.ensures)
            (remembers_disturbed c.up_to_date_laws.ensures c.memory_laws.ensures c.self.inside.profile c.self.inside.memory c.mark.new.self _ _ held);
      },
      c.self.invariant.1,
      c.self.invariant.2,
      subst (λ memory. IsReady memory c.self.inside.spare) (sym c.disturb.ensures) (ready_disturbed c.self.inside.memory _ _ c.self.inside.spare c.self.invariant.3),
    )

pub returns : goal.returns
returns c = search rules
