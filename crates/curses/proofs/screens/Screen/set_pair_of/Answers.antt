use Rattle.std.proofs.Common.{ap, subst, sym, ◌∙◌}
use Rattle.scr_virtual.specs.Laws.{HoldsChanges}
use Rattle.curses.proofs.RememberedLaws.{remembers_held}
use Rattle.curses.proofs.screens.Screen.set_pair_of.Goals as goal

pub invariant_of-self : goal.invariant_of-self
invariant_of-self c =
    let sizes = c.sizes_stay.ensures.pair c.self.inside.wanted c.self.inside.desk c.args.pair c.args.foreground c.args.background in
    let set = ap (λ p. p.0) c.set_pair_of.ensures in
    let changes = subst (HoldsChanges c.self.inside.wanted) (sym set) (c.ranges_hold_changes.ensures.pair c.self.inside.wanted c.args.pair c.args.foreground c.args.background c.size-size.ensures.screen) in (
      record {
        desk_rows = c.self.invariant.0.desk_rows;
        desk_columns = c.self.invariant.0.desk_columns;
        memory = remembers_held c.up_to_date_laws.ensures c.self.inside.profile c.self.inside.memory c.self.inside.wanted c.set_pair_of.new.self c.self.invariant.0.memory changes
            (ap (λ v. v.picture.rows) set ∙ sizes.rows) (ap (λ v. v.picture.columns) set ∙ sizes.columns);
      },
      c.self.invariant.1,
      c.self.invariant.2,
      c.self.invariant.3,
    )
