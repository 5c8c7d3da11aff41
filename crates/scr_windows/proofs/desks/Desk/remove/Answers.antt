use Rattle.std.proofs.Common.{◌≡◌, ◌≢◌, ◌<◌, ◌∙◌, ap, length, sym, subst, None, false}
use Rattle.std.specs.Prelude.{All}
use Rattle.scr_windows.specs.declared.frames.Frame.{Frame}
use Rattle.scr_windows.specs.DeskViews.{DeskView, IsDesk, WindowView, window_at}
use Rattle.scr_windows.specs.Calls.Removing.{has_children, others}
use Rattle.scr_windows.proofs.DeskLaws.{draws_on, frame_read}
use Rattle.scr_windows.proofs.RemovingLaws.{left_apart}
use Rattle.scr_windows.proofs.desks.Desk.remove.Goals as goal

pub remove_window-requires : goal.remove_window-requires
remove_window-requires c =
    let P : Frame → Type 0 = λ f. has_children f.number c.args.self.now.windows ≡ false in
    subst P (sym (frame_read _ _ c.args.index _ _ (record { is = c.self.view_is; desk = c.self.invariant; here = c.requires.here; window = c.index.ensures; frame_is = c.frame-frame.ensures }))) c.requires.alone

pub remove_surface-requires-clause-there : goal.remove_surface-requires-clause-there
remove_surface-requires-clause-there c =
    let P : DeskView → Type 0 = λ d. c.frame-frame.result.surface < length d.surfaces in
    subst P (sym c.remove_window.ensures) (subst P c.self.view_is (draws_on _ _ c.args.index _ _ (record { is = c.self.view_is; desk = c.self.invariant; here = c.requires.here; window = c.index.ensures; frame_is = c.frame-frame.ensures })))

pub remove_surface-requires-clause-free : goal.remove_surface-requires-clause-free
remove_surface-requires-clause-free c =
    let frame : c.frame-frame.result ≡ (window_at c.args.self.now c.args.index).frame = frame_read _ _ c.args.index _ _ (record { is = c.self.view_is; desk = c.self.invariant; here = c.requires.here; window = c.index.ensures; frame_is = c.frame-frame.ensures }) in
    let root : (window_at c.args.self.now c.args.index).frame.parent ≡ None = ap (λ (f : Frame). f.parent) (sym frame) ∙ c.in-None.is in
    let I : DeskView → Type 0 = λ d. IsDesk d in
    let P : Frame → Type 0 = λ f. All (λ (w : WindowView). w.frame.surface ≢ f.surface) (others f.number c.args.self.now.windows) in
    let Q : DeskView → Type 0 = λ d. All (λ (w : WindowView). w.frame.surface ≢ c.frame-frame.result.surface) d.windows in
    subst Q (sym c.remove_window.ensures) (subst P (sym frame) (left_apart c.args.self.now c.args.index (subst I c.self.view_is c.self.invariant) c.requires.here root c.requires.alone))
