use Rattle.std.proofs.Common.{◌≡◌, ◌∙◌, ap, sym, subst, ◌∷◌, []}
use Rattle.std.proofs.lemmas.Slice.{pushed}
use Rattle.scr_cells.specs.CellViews.{blank_cell}
use Rattle.scr_windows.specs.Surfaces.SurfaceViews.{blank_surface}
use Rattle.scr_windows.specs.DeskViews.{DeskView, IsDesk, fresh_window, first_frame, no_attributes}
use Rattle.scr_windows.proofs.MakingLaws.{first_is_desk}
use Rattle.scr_windows.proofs.desks.Desk.new.Goals as goal

pub invariant_of-result : goal.invariant_of-result
invariant_of-result c =
    let rows = c.args.size.rows in
    let columns = c.args.size.columns in
    let surfaces : c.push.new.self.items ≡ blank_surface rows columns ∷ []
    = pushed (c.in_ok-surface.surface ∷ []) c.new-surfaces.ensures.items c.in_ok-push.was c.push.ensures.items ∙ ap (λ s. s ∷ []) c.in_ok-surface.ensures in
    let windows : c.push-2.new.self.items ≡ fresh_window (first_frame rows columns) no_attributes 0 blank_cell ∷ [] = pushed (c.in_ok-fresh.field-0 ∷ []) c.new-windows.ensures.items c.in_ok-push-2.was c.push-2.ensures.items ∙ ap (λ w. w ∷ []) (c.in_ok-fresh.ensures ∙ ap (λ b. fresh_window (first_frame rows columns) no_attributes 0 b) c.blank-2.ensures) in
    let P : DeskView → Type 0 = λ d. IsDesk d in
    let is : record { rows = rows; columns = columns; surfaces = c.push.new.self.items; windows = c.push-2.new.self.items; made = 0 } ≡ record { rows = rows; columns = columns; surfaces = blank_surface rows columns ∷ []; windows = fresh_window (first_frame rows columns) no_attributes 0 blank_cell ∷ []; made = 0 }
    = (λ i. record { rows = rows; columns = columns; surfaces = surfaces i; windows = windows i; made = 0 }) in
    subst P (sym is) (first_is_desk c.surface_laws.ensures rows columns c.args.size.in_range)
