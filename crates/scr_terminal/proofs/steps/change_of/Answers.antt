use Rattle.std.proofs.Common.{subst, sym}
use Rattle.scr_cells.specs.declared.charsets.Charset.TheVariants.{Utf8}
use Rattle.scr_term.specs.Operations.Abilities.{full_abilities}
use Rattle.scr_term.specs.Operations.States.{IsShownPen}
use Rattle.scr_term.specs.Operations.States.{moved_down, moved_left, moved_right, moved_to_column, moved_to_row, moved_up}
use Rattle.scr_terminal.proofs.ChangeLaws.{motion_makes, next_is_shown}
use Rattle.scr_terminal.proofs.steps.change_of.Goals as goal

pub returns-in-Reset-clause-change : goal.returns-in-Reset-clause-change
returns-in-Reset-clause-change c =
    subst (IsShownPen (full_abilities Utf8 c.args.profile.now.rows c.args.profile.now.columns)) (sym c.next_pen.ensures) (next_is_shown c.shown_pen_laws.ensures c.args.profile.now c.args.pen c.args.op c.requires.has c.requires.pen)

pub returns-in-Up-clause-value : goal.returns-in-Up-clause-value
returns-in-Up-clause-value c =
    rw c.in-Up.is (motion_makes c.args.profile.now c.size-size.result.rows c.size-size.result.columns c.args.spot c.args.pen c.moved_up.result c.motion-in-Up.result (λ rows columns state. moved_up rows columns state c.in-Up.count) c.size-size.ensures.rows c.size-size.ensures.columns c.moved_up.ensures.value c.motion-in-Up.ensures.value)

pub returns-in-Down-clause-value : goal.returns-in-Down-clause-value
returns-in-Down-clause-value c =
    rw c.in-Down.is (motion_makes c.args.profile.now c.size-size.result.rows c.size-size.result.columns c.args.spot c.args.pen c.moved_down.result c.motion-in-Down.result (λ rows columns state. moved_down rows columns state c.in-Down.count) c.size-size.ensures.rows c.size-size.ensures.columns c.moved_down.ensures.value c.motion-in-Down.ensures.value)

pub returns-in-Left-clause-value : goal.returns-in-Left-clause-value
returns-in-Left-clause-value c =
    rw c.in-Left.is (motion_makes c.args.profile.now c.size-size.result.rows c.size-size.result.columns c.args.spot c.args.pen c.moved_left.result c.motion-in-Left.result (λ rows columns state. moved_left rows columns state c.in-Left.count) c.size-size.ensures.rows c.size-size.ensures.columns c.moved_left.ensures.value c.motion-in-Left.ensures.value)

pub returns-in-Right-clause-value : goal.returns-in-Right-clause-value
returns-in-Right-clause-value c =
    rw c.in-Right.is (motion_makes c.args.profile.now c.size-size.result.rows c.size-size.result.columns c.args.spot c.args.pen c.moved_right.result c.motion-in-Right.result (λ rows columns state. moved_right rows columns state c.in-Right.count) c.size-size.ensures.rows c.size-size.ensures.columns c.moved_right.ensures.value c.motion-in-Right.ensures.value)

pub returns-in-Column-clause-value : goal.returns-in-Column-clause-value
returns-in-Column-clause-value c =
    rw c.in-Column.is (motion_makes c.args.profile.now c.size-size.result.rows c.size-size.result.columns c.args.spot c.args.pen c.moved_to_column.result c.motion-in-Column.result (λ rows columns state. moved_to_column rows columns state c.in-Column.column) c.size-size.ensures.rows c.size-size.ensures.columns c.moved_to_column.ensures.value c.motion-in-Column.ensures.value)

pub returns-in-Line-clause-value : goal.returns-in-Line-clause-value
returns-in-Line-clause-value c =
    rw c.in-Line.is (motion_makes c.args.profile.now c.size-size.result.rows c.size-size.result.columns c.args.spot c.args.pen c.moved_to_row.result c.motion-in-Line.result (λ rows columns state. moved_to_row rows columns state c.in-Line.row) c.size-size.ensures.rows c.size-size.ensures.columns c.moved_to_row.ensures.value c.motion-in-Line.ensures.value)

pub returns-in-UpBy-clause-value : goal.returns-in-UpBy-clause-value
returns-in-UpBy-clause-value c =
    rw c.in-UpBy.is (motion_makes c.args.profile.now c.size-size.result.rows c.size-size.result.columns c.args.spot c.args.pen c.moved_up-in-UpBy.result c.motion-in-UpBy.result (λ rows columns state. moved_up rows columns state c.in-UpBy.count) c.size-size.ensures.rows c.size-size.ensures.columns c.moved_up-in-UpBy.ensures.value c.motion-in-UpBy.ensures.value)

pub returns-in-DownBy-clause-value : goal.returns-in-DownBy-clause-value
returns-in-DownBy-clause-value c =
    rw c.in-DownBy.is (motion_makes c.args.profile.now c.size-size.result.rows c.size-size.result.columns c.args.spot c.args.pen c.moved_down-in-DownBy.result c.motion-in-DownBy.result (λ rows columns state. moved_down rows columns state c.in-DownBy.count) c.size-size.ensures.rows c.size-size.ensures.columns c.moved_down-in-DownBy.ensures.value c.motion-in-DownBy.ensures.value)

pub returns-in-LeftBy-clause-value : goal.returns-in-LeftBy-clause-value
returns-in-LeftBy-clause-value c =
    rw c.in-LeftBy.is (motion_makes c.args.profile.now c.size-size.result.rows c.size-size.result.columns c.args.spot c.args.pen c.moved_left-in-LeftBy.result c.motion-in-LeftBy.result (λ rows columns state. moved_left rows columns state c.in-LeftBy.count) c.size-size.ensures.rows c.size-size.ensures.columns c.moved_left-in-LeftBy.ensures.value c.motion-in-LeftBy.ensures.value)

pub returns-in-RightBy-clause-value : goal.returns-in-RightBy-clause-value
returns-in-RightBy-clause-value c =
    rw c.in-RightBy.is (motion_makes c.args.profile.now c.size-size.result.rows c.size-size.result.columns c.args.spot c.args.pen c.moved_right-in-RightBy.result c.motion-in-RightBy.result (λ rows columns state. moved_right rows columns state c.in-RightBy.count) c.size-size.ensures.rows c.size-size.ensures.columns c.moved_right-in-RightBy.ensures.value c.motion-in-RightBy.ensures.value)
