use Rattle.std.proofs.Common.{◌∙◌, sym}
use Rattle.scr_windows.proofs.ChildLaws.{screen_place}
use Rattle.scr_windows.proofs.desks.Desk.new_window.Goals as goal

pub add_root-requires : goal.add_root-requires
add_root-requires c =
    screen_place c.args.self.now c.screen_area-screen.result c.in-Some.area c.args.rows c.args.columns c.args.row c.args.column c.screen_area-screen.ensures.size c.screen_area-screen.ensures.area (sym c.part_of.ensures ∙ c.in-Some.is)
