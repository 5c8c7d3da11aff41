use Rattle.std.proofs.Common.{◌≡◌, ◌+◌, ◌<◌, ◌∷◌, ◌∙◌, [], None, arith, sym, subst, refl, length}
use Rattle.std.proofs.lemmas.Slice.{pushed}
use Rattle.scr_cells.specs.CellViews.{blank_cell}
use Rattle.scr_windows.specs.DeskViews.{DeskView, fresh_window, no_attributes}
use Rattle.scr_windows.specs.Calls.Making.{root_frame}
use Rattle.scr_windows.proofs.ChildLaws.{root_added}
use Rattle.scr_windows.proofs.desks.Desk.push_root.Goals as goal

pub invariant_of-self-2 : goal.invariant_of-self-2
invariant_of-self-2 c =
    let Few : DeskView → Type 0 = λ d. length d.windows < 1000 in
    let Made : DeskView → Type 0 = λ d. d.made < 4294967295 in
    let many : c.len.result ≡ length c.self.inside.surfaces.items = omega (arith, c.len.ensures, c.self.inside.surfaces.ok.0) in
    let new : c.in_ok-window.window ≡ fresh_window (root_frame (record { rows = c.self.inside.rows; columns = c.self.inside.columns; surfaces = c.self.inside.surfaces.items; windows = c.self.inside.windows.items; made = c.self.inside.made }) c.args.rows c.args.columns c.args.origin) no_attributes 0 blank_cell
    = c.in_ok-window.ensures ∙ (λ j. fresh_window (record { number = c.self.inside.made + 1; surface = many j; area = record { top = 0; left = 0; rows = c.args.rows; columns = c.args.columns }; parent = None; origin = c.args.origin }) no_attributes 0 (c.blank-2.ensures j)) in
    root_added c.surface_laws.ensures _ _ c.self.view_is c.args.rows c.args.columns c.args.origin c.in_ok-surface.surface c.in_ok-window.window _ _ c.self.invariant c.requires.place c.in_ok-surface.ensures new
    (pushed (c.in_ok-surface.surface ∷ []) refl c.in_ok-push.was c.push.ensures.items)
    (pushed (c.in_ok-window.window ∷ []) c.reserve.ensures.items c.in_ok-push-2.was c.push-2.ensures.items) (subst Few (sym c.self.view_is) c.requires.few) (subst Made (sym c.self.view_is) c.requires.made)
