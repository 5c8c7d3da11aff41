use Rattle.scr_term.proofs.LookGridLaws.{all_blank, down_is_look, filled_all, formed_all, is_blank, left_is_look, put_all, put_is_grid, right_is_look, up_is_look}
use Rattle.scr_term.proofs.operations.laws.look_grid_laws.Goals as goal

pub returns : goal.returns
returns c = record {
  blank_size = is_blank;
  blank_looks = all_blank;
  put_size = λ rows columns lines r c look. put_is_grid rows columns lines r c look;
  put_looks = put_all;
  formed_looks = formed_all;
  filled_looks = filled_all;
  up_looks = up_is_look;
  down_looks = down_is_look;
  left_looks = left_is_look;
  right_looks = right_is_look;
}
