use Rattle.scr_term.proofs.ProfileLaws.{entered_is_within, set_is_within}
use Rattle.scr_term.proofs.ShownPenLaws.{more_is_shown, plain_is_shown, set_is_shown, shown_is_pen}
use Rattle.scr_term.proofs.operations.laws.shown_pen_laws.Goals as goal

pub returns : goal.returns
returns c = record {
  plain = plain_is_shown;
  set = set_is_shown;
  more = more_is_shown;
  pen = shown_is_pen;
  entered = entered_is_within;
  chosen = set_is_within;
}
