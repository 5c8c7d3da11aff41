use Rattle.std.proofs.Common.{ℕ, ◌∙◌, sym, subst, Option, ap}
use Rattle.scr_windows.specs.Code.NewFrames.{IsRootPlace}
use Rattle.scr_windows.proofs.ChildLaws.{screen_place}
use Rattle.scr_windows.proofs.DeskLaws.{frame_of}
use Rattle.scr_windows.proofs.desks.Desk.root_size.Goals as goal

pub returns-in-Some-part_of-clause-place : goal.returns-in-Some-part_of-clause-place
returns-in-Some-part_of-clause-place c =
    let P : Option (ℕ × ℕ) → Type 0 = λ o. IsRootPlace c.args.self.now c.in-Some-part_of.area.rows c.in-Some-part_of.area.columns o in
    subst P (sym c.in-Some.is ∙ ap (λ f. f.origin) (c.frame.ensures ∙ ap frame_of c.window_at.ensures.window))
    (screen_place c.args.self.now c.screen_area-screen.result c.in-Some-part_of.area c.args.rows c.args.columns c.in-Some.origin.0 c.in-Some.origin.1 c.screen_area-screen.ensures.size c.screen_area-screen.ensures.area (sym c.part_of.ensures ∙ c.in-Some-part_of.is))
