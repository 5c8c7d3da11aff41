use Rattle.std.proofs.Common.{◌∙◌, sym, ap, Some}
use Rattle.scr_windows.specs.Calls.Removing.{has_children}
use Rattle.scr_windows.proofs.DeskLaws.{frame_of}
use Rattle.scr_windows.proofs.LawLaws.{found_number}
use Rattle.scr_windows.proofs.desks.Desk.resize_window.Goals as goal

pub set_root_size-requires-clause-alone : goal.set_root_size-requires-clause-alone
set_root_size-requires-clause-alone c =
    ap (λ n. has_children n c.args.self.now.windows) (found_number c.args.self.now _ _ (sym c.in_ok-index.ensures.index)).1 ∙ sym (ap (λ v. has_children c.args.win.0 v.windows) c.self.view_is)
    ∙ sym (ap (has_children c.args.win.0) c.deref.ensures.value) ∙ sym c.has_children.ensures ∙ c.if-has_children.false

pub resize_sub-requires-clause-parent : goal.resize_sub-requires-clause-parent
resize_sub-requires-clause-parent c =
    sym (ap (λ f. f.parent) (c.frame.ensures ∙ ap frame_of c.window_at.ensures.window)) ∙ c.in-Some.is ∙ sym (ap Some (found_number c.args.self.now _ _ (sym c.in_ok-above-in-Some.ensures.index)).1)

pub resize_sub-requires-clause-alone : goal.resize_sub-requires-clause-alone
resize_sub-requires-clause-alone c =
    ap (λ n. has_children n c.args.self.now.windows) (found_number c.args.self.now _ _ (sym c.in_ok-index.ensures.index)).1 ∙ sym (ap (λ v. has_children c.args.win.0 v.windows) c.self.view_is)
    ∙ sym (ap (has_children c.args.win.0) c.deref.ensures.value) ∙ sym c.has_children.ensures ∙ c.if-has_children.false
