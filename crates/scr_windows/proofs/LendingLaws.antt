-- A window that is lent.
use Rattle.std.proofs.Common.{◌≡◌, ℕ, ◌<◌, ◌∙◌, ap, arith, subst, sym, List, [], map, get_or}
use Rattle.std.specs.List.{range_with_len}
use Rattle.std.proofs.lemmas.List.FromFn.{get_or-map-range_with_len, length-map-range_with_len}
use Rattle.scr_cells.specs.CellViews.{CellView}
use Rattle.scr_windows.specs.declared.surfaces.areas.Area.{Area}
use Rattle.scr_windows.specs.Surfaces.SurfaceViews.{SurfaceView, inside_at}
use Rattle.scr_windows.specs.DeskViews.{WindowView, IsWindow}
use Rattle.scr_windows.specs.Lending.{LentView, IsLent, lines_in}

abbrev shown : WindowView → SurfaceView → LentView
shown window surface = record { window = window; lines = lines_in surface window.frame.area }

pub is_lent : (window : WindowView) (surface : SurfaceView) (lent : LentView) → shown window surface ≡ lent → IsWindow window → IsLent lent
is_lent window surface lent is h =
    let P : LentView → Type 0 = λ v. IsLent v in
    subst P is (record { window = h; rows = length-map-range_with_len (λ r. map (inside_at surface window.frame.area r) (range_with_len 0 window.frame.area.columns)) 0 window.frame.area.rows })

-- a line of an area is the one of this number
pub line_of : (surface : SurfaceView) (area : Area) (row : ℕ) → row < area.rows → get_or (lines_in surface area) row [] ≡ map (inside_at surface area row) (range_with_len 0 area.columns)
line_of surface area row h = get_or-map-range_with_len (λ r. map (inside_at surface area r) (range_with_len 0 area.columns)) 0 area.rows row row [] h (omega arith)

pub line_lent : (window : WindowView) (surface : SurfaceView) (lent : LentView) (area : Area) (row : ℕ) (cells : List CellView) → shown window surface ≡ lent → area ≡ window.frame.area → row < lent.window.frame.area.rows
    → cells ≡ map (inside_at surface area row) (range_with_len 0 area.columns) → cells ≡ get_or lent.lines row []
line_lent window surface lent area row cells is area_is h cells_is =
    let P : LentView → Type 0 = λ v. row < v.window.frame.area.rows in
    let here : row < window.frame.area.rows = subst P (sym is) h in
    cells_is ∙ ap (λ (a : Area). map (inside_at surface a row) (range_with_len 0 a.columns)) area_is ∙ sym (line_of surface window.frame.area row here) ∙ ap (λ (v : LentView). get_or v.lines row []) is
