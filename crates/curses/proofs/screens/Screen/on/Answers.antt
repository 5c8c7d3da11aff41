use Rattle.std.proofs.Common.{ap, subst, sym}
use Rattle.curses.specs.ScreenStates.{IsRemembered}
use Rattle.curses.proofs.RememberedLaws.{remembers_at_first}
use Rattle.curses.proofs.screens.Screen.on.Goals as goal

pub invariant_of-result : goal.invariant_of-result
invariant_of-result c =
    let profile = c.args.profile in (
      record {
        desk_rows = ap (λ d. d.rows) c.in_ok-blank.ensures.desk;
        desk_columns = ap (λ d. d.columns) c.in_ok-blank.ensures.desk;
        memory = subst (λ m. IsRemembered profile m c.in_ok-blank.blank.surfaces.wanted) (sym c.in_ok-blank.ensures.memory)
            (remembers_at_first c.up_to_date_laws.ensures c.memory_runs.ensures profile c.size-size.ensures.profile c.in_ok-blank.blank.surfaces.wanted
            (record { rows = ap (λ v. v.picture.rows) c.in_ok-blank.ensures.wanted; columns = ap (λ v. v.picture.columns) c.in_ok-blank.ensures.wanted }));
      },
      c.in_ok-blank.ensures.room,
      c.in_ok-blank.ensures.text_room,
      c.in_ok-blank.ensures.ready,
    )
