use Rattle.std.proofs.Common.{◌≡◌, ◌+◌, ◌<◌, ◌∙◌, [], ◌∷◌, ℕ, zero, suc, ap, arith, refl, get_or, length}
use Rattle.scr_cells.specs.CellViews.{CellView, blank_cell}
use Rattle.scr_windows.specs.Surfaces.SurfaceViews.{SurfaceView}
use Rattle.scr_windows.proofs.RunLaws.{put_is_run, run_of}
use Rattle.scr_windows.proofs.surfaces.Surface.put_place.Goals as goal

-- the one element of a run
one : (cell : CellView) (k : ℕ) → k < length (cell ∷ []) → get_or (cell ∷ []) k blank_cell ≡ cell
one cell zero h = refl
one cell (suc k) h = absurd (omega (arith, h))

pub returns : goal.returns
returns c =
    let rows = ap (λ (s : SurfaceView). s.rows) c.self.view_is in
    let columns = ap (λ (s : SurfaceView). s.columns) c.self.view_is in
    run_of c.grid_laws.ensures c.self.inside.grid c.put.new.self c.args.self.now c.args.row c.args.column (c.args.column + 1) (c.args.cell ∷ []) (λ _. c.args.cell) c.self.view_is c.self.invariant
    (c.put.ensures ∙ ap (λ ls. record c.self.inside.grid { lines = ls }) (put_is_run c.grid_laws.ensures c.self.inside.grid c.args.row c.args.column c.args.cell c.self.invariant (omega (arith, c.requires.row, rows)) (omega (arith, c.requires.column, columns))))
    c.requires.row (omega arith) (omega (arith, c.requires.column)) (one c.args.cell)

pub invariant_of-self : goal.invariant_of-self
invariant_of-self c =
    let rows = ap (λ (s : SurfaceView). s.rows) c.self.view_is in
    let columns = ap (λ (s : SurfaceView). s.columns) c.self.view_is in
    (run_of c.grid_laws.ensures c.self.inside.grid c.put.new.self c.args.self.now c.args.row c.args.column (c.args.column + 1) (c.args.cell ∷ []) (λ _. c.args.cell) c.self.view_is c.self.invariant
    (c.put.ensures ∙ ap (λ ls. record c.self.inside.grid { lines = ls }) (put_is_run c.grid_laws.ensures c.self.inside.grid c.args.row c.args.column c.args.cell c.self.invariant (omega (arith, c.requires.row, rows)) (omega (arith, c.requires.column, columns))))
    c.requires.row (omega arith) (omega (arith, c.requires.column)) (one c.args.cell)).surface
