use Rattle.std.proofs.Common.{◌≡◌, ◌≤◌, ◌-◌, filter, option_map}
use Rattle.std.specs.List.{flat_map}
use Rattle.scr_plan.specs.Code.Joinings.{Continues, IsAfter}
use Rattle.scr_plan.specs.Code.Painters.{part_places, pen_before, row_differs, row_paints}
use Rattle.scr_plan.proofs.drafts.Draft.join_part.Given as goal

abbrev pub invariant-loop-column : goal.invariant-loop-column
invariant-loop-column l = record {
  from : l.from ≤ l.column;
  end : l.column ≤ l.end;
  left : l.left ≡ pen_before l.scene.painter l.scene.picture.now (option_map (λ looks. looks.now) l.line.before) l.line.row l.column;
  after : IsAfter l.scene.picture.now.columns l.self l.line.row l.column l.left;
  all : Continues l.scene.profile.now l.fn.self l.self (flat_map (row_paints l.scene.painter l.scene.picture.now (option_map (λ looks. looks.now) l.line.before)) (filter (row_differs l.scene.painter l.scene.picture.now (option_map (λ looks. looks.now) l.line.before)) (part_places l.from (l.column - l.from) l.line.row)));
}

abbrev pub decreases-loop-column : goal.decreases-loop-column
decreases-loop-column l = l.end - l.column
