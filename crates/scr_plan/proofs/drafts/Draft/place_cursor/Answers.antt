use Rattle.std.proofs.Common.{refl, rules, sym, subst, IfSome}
use Rattle.scr_cells.specs.PictureViews.{IsPlace}
use Rattle.scr_plan.specs.Code.Joinings.{Continues}
use Rattle.scr_plan.specs.Scratch.{places_cursor}
use Rattle.scr_plan.proofs.JoiningLaws.{counted, cursor_goes}
use Rattle.scr_plan.proofs.drafts.Draft.place_cursor.Goals as goal

pub returns : goal.returns
returns c =
    subst (λ wish. Continues c.args.scene.now.profile.now c.args.self.now c.count.new.self (places_cursor wish)) (sym c.in-Some.is)
    (cursor_goes c.run_laws.ensures c.profiles_have.ensures _ c.size-size.ensures.profile (c.in-Some.row, c.in-Some.column) (subst (λ wish. IfSome wish (IsPlace c.args.scene.now.profile.now.rows c.args.scene.now.profile.now.columns)) c.in-Some.is c.requires.wish)
    c.args.self.now c.count.new.self c.requires.plain (counted c.args.scene.now.profile.now c.args.self.now _ c.count.new.self c.len-begun.result _ _ _ (search rules) c.in_ok-move_unless_there.ensures refl refl c.count.ensures))
