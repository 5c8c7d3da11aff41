use Rattle.std.proofs.Common.{◌≡◌, ℕ, ◌∙◌, ap, false, subst, sym}
use Rattle.scr_windows.specs.DeskViews.{DeskView}
use Rattle.scr_windows.specs.Calls.Removing.{has_children}
use Rattle.scr_windows.proofs.LawLaws.{found_number}
use Rattle.scr_windows.proofs.desks.Desk.delete.Goals as goal

pub remove-requires-clause-alone : goal.remove-requires-clause-alone
remove-requires-clause-alone c =
    let P : ℕ → Type 0 = λ n. has_children n c.args.self.now.windows ≡ false in
    let windows = sym (ap (λ (d : DeskView). d.windows) c.self.view_is) ∙ sym c.deref.ensures.value in
    subst P (sym (found_number c.args.self.now c.args.win.0 c.in_ok-index.index (sym c.in_ok-index.ensures.index)).1) (ap (has_children c.args.win.0) windows ∙ sym c.has_children.ensures ∙ c.if-has_children.false)
