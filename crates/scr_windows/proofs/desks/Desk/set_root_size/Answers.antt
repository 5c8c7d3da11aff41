use Rattle.std.proofs.Common.{◌∙◌, ap, arith, inl, Ok}
use Rattle.scr_windows.specs.declared.frames.WindowState.{WindowState}
use Rattle.scr_windows.specs.Surfaces.SurfaceViews.{resized_surface}
use Rattle.scr_windows.specs.Calls.Resizing.{with_root_size}
use Rattle.scr_windows.proofs.DeskLaws.{draws_on, draws_part}
use Rattle.scr_windows.proofs.ResizingLaws.{root_path, root_set}
use Rattle.scr_windows.proofs.desks.Desk.set_root_size.Goals as goal

pub index-requires : goal.index-requires
index-requires c = omega (arith, draws_on _ _ c.args.index _ _ (record { is = c.self.view_is; desk = c.self.invariant; here = c.requires.here; window = c.index-window.ensures; frame_is = c.frame-frame.ensures }))

pub index_mut-requires : goal.index_mut-requires
index_mut-requires c = omega (arith, draws_on _ _ c.args.index _ _ (record { is = c.self.view_is; desk = c.self.invariant; here = c.requires.here; window = c.index-window.ensures; frame_is = c.frame-frame.ensures }))

pub resized-requires-2-clause-part : goal.resized-requires-2-clause-part
resized-requires-2-clause-part c = draws_part _ _ c.args.index _ _ _ (record { is = c.self.view_is; desk = c.self.invariant; here = c.requires.here; window = c.index-window.ensures; frame_is = c.frame-frame.ensures }) c.index.ensures

pub invariant_of-self : goal.invariant_of-self
invariant_of-self c =
    root_set c.surface_laws.ensures _ _ c.args.index _ _ _ _ _ c.args.rows c.args.columns (record { is = c.self.view_is; desk = c.self.invariant; here = c.requires.here; window = c.index-window.ensures; frame_is = c.frame-frame.ensures }) c.index.ensures c.in_ok-window.ensures (c.in_ok-surface.ensures ∙ ap (λ (s : WindowState). resized_surface c.index.result.now c.frame-frame.result.area c.args.rows c.args.columns s.background) c.state-state.ensures)
    c.requires.root c.requires.alone c.requires.place

pub returns : goal.returns
returns c =
    let path = root_path _ _ c.args.index _ _ _ _ _ c.args.rows c.args.columns (record { is = c.self.view_is; desk = c.self.invariant; here = c.requires.here; window = c.index-window.ensures; frame_is = c.frame-frame.ensures }) c.index.ensures c.in_ok-window.ensures (c.in_ok-surface.ensures ∙ ap (λ (s : WindowState). resized_surface c.index.result.now c.frame-frame.result.area c.args.rows c.args.columns s.background) c.state-state.ensures)
    ∙ ap (λ v. with_root_size v c.args.index c.args.rows c.args.columns) c.self.view_is in
    inl (λ j. (path j, Ok tt))
