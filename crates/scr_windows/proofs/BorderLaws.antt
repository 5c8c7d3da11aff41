-- A border is drawn run after run.
use Rattle.std.proofs.Common.{◌≡◌, ℕ, ◌+◌, ◌-◌, ◌<◌, ◌≤◌, subst, refl, arith, cond, ltb, leb, ◌==◌, ◌&&◌}
use Rattle.std.proofs.lemmas.Bool.Decides.{nat_tests}
use Rattle.scr_cells.specs.CellViews.{CellView}
use Rattle.scr_windows.specs.declared.surfaces.areas.Area.{Area}
use Rattle.scr_windows.specs.declared.surfaces.borders.Border.{Border}
use Rattle.scr_windows.specs.Surfaces.SurfaceViews.{SurfaceView, IsSurface, IsPart, inside_at}
use Rattle.scr_windows.specs.Surfaces.Formulas.{bordered}
use Rattle.scr_windows.specs.Code.Steps.{RunIs, Changes, sides_put}
use Rattle.scr_windows.proofs.RunLaws.{then_run, unchanged}

abbrev Formula : Type 0
Formula = (ℕ → ℕ → CellView) → ℕ → ℕ → CellView

-- a run of one cell, at places of the surface
then_put : (old mid new : SurfaceView) (area : Area) (f g : Formula) (cell : CellView) (row from end r0 f0 e0 : ℕ) → r0 ≡ area.top + row → f0 ≡ area.left + from → e0 ≡ area.left + end
    → IsPart old area → Changes old mid area f → RunIs mid new r0 f0 e0 (λ _. cell) → row < area.rows → end ≤ area.columns
    → ((r c : ℕ) → r < area.rows → c < area.columns → cond (r == row && leb from c && ltb c end) cell (f (inside_at old area) r c) ≡ g (inside_at old area) r c)
    → Changes old new area g
then_put old mid new area f g cell row from end r0 f0 e0 r_is f_is e_is part h run row_in end_in is =
    let P : ℕ → Type 0 = λ x. RunIs mid new x f0 e0 (λ _. cell) in
    let Q : ℕ → Type 0 = λ x. RunIs mid new (area.top + row) x e0 (λ _. cell) in
    let R : ℕ → Type 0 = λ x. RunIs mid new (area.top + row) (area.left + from) x (λ _. cell) in
    then_run old mid new area f g row from end (λ _. cell) part h (subst R e_is (subst Q f_is (subst P r_is run))) row_in end_in is

pub sides_begun : (old : SurfaceView) (area : Area) (left right : CellView) → IsSurface old → Changes old old area (sides_put area.columns 0 left right)
sides_begun old area left right surface = unchanged old area (sides_put area.columns 0 left right) surface (λ r c h k. none_case (inside_at old area) area.columns left right r c)
  where
    none_case : (at : ℕ → ℕ → CellView) (columns : ℕ) (left right : CellView) (r c : ℕ) → at r c ≡ sides_put columns 0 left right at r c
    none_case at columns left right r c = grind (arith, nat_tests)

-- the first column of a row more
abbrev left_put : ℕ → ℕ → CellView → CellView → Formula
left_put columns row left right at r c = cond (r == row && leb 0 c && ltb c 1) left (sides_put columns row left right at r c)

pub sides_more : (old mid one new : SurfaceView) (area : Area) (row : ℕ) (left right : CellView) → IsPart old area → row < area.rows → Changes old mid area (sides_put area.columns row left right)
    → RunIs mid one (area.top + row) area.left (area.left + 1) (λ _. left)
    → RunIs one new (area.top + row) (area.left + area.columns - 1) (area.left + area.columns - 1 + 1) (λ _. right)
    → Changes old new area (sides_put area.columns (row + 1) left right)
sides_more old mid one new area row left right part row_in h run1 run2 =
    let some : 1 ≤ area.columns = part.some_columns in
    let first : Changes old one area (left_put area.columns row left right) = then_put old mid one area (sides_put area.columns row left right) (left_put area.columns row left right) left row 0 1 _ _ _ refl (omega arith) refl part h run1 row_in some (λ r c b k. refl) in
    then_put old one new area (left_put area.columns row left right) (sides_put area.columns (row + 1) left right) right row (area.columns - 1) area.columns _ _ _ refl (omega (arith, some)) (omega (arith, some)) part first run2 row_in (omega arith)
    (λ r c b k. side_case (inside_at old area) area.columns row left right r c k)
  where
    side_case : (at : ℕ → ℕ → CellView) (columns row : ℕ) (left right : CellView) (r c : ℕ) → c < columns
        → cond (r == row && leb (columns - 1) c && ltb c columns) right (left_put columns row left right at r c) ≡ sides_put columns (row + 1) left right at r c
    side_case at columns row left right r c k = grind (arith, nat_tests)

-- what has been drawn after each run
abbrev with_top : ℕ → ℕ → Border → Formula
with_top rows columns b at r c = cond (r == 0) b.top (cond (c + 1 == columns) b.right (cond (c == 0) b.left (at r c)))

abbrev with_bottom : ℕ → ℕ → Border → Formula
with_bottom rows columns b at r c = cond (r + 1 == rows) b.bottom (with_top rows columns b at r c)

abbrev with_top_left : ℕ → ℕ → Border → Formula
with_top_left rows columns b at r c = cond (r == 0 && c == 0) b.top_left (with_bottom rows columns b at r c)

abbrev with_top_right : ℕ → ℕ → Border → Formula
with_top_right rows columns b at r c = cond (r == 0 && c + 1 == columns) b.top_right (with_top_left rows columns b at r c)

abbrev with_bottom_left : ℕ → ℕ → Border → Formula
with_bottom_left rows columns b at r c = cond (r + 1 == rows && c == 0) b.bottom_left (with_top_right rows columns b at r c)

pub border_drawn : (old s0 s1 s2 s3 s4 s5 s6 : SurfaceView) (area : Area) (b : Border) → IsPart old area
    → Changes old s0 area (sides_put area.columns area.rows b.left b.right)
    → RunIs s0 s1 area.top area.left (area.left + area.columns - 1 + 1) (λ _. b.top)
    → RunIs s1 s2 (area.top + area.rows - 1) area.left (area.left + area.columns - 1 + 1) (λ _. b.bottom)
    → RunIs s2 s3 area.top area.left (area.left + 1) (λ _. b.top_left)
    → RunIs s3 s4 area.top (area.left + area.columns - 1) (area.left + area.columns - 1 + 1) (λ _. b.top_right)
    → RunIs s4 s5 (area.top + area.rows - 1) area.left (area.left + 1) (λ _. b.bottom_left)
    → RunIs s5 s6 (area.top + area.rows - 1) (area.left + area.columns - 1) (area.left + area.columns - 1 + 1) (λ _. b.bottom_right)
    → Changes old s6 area (bordered area.rows area.columns b)
border_drawn old s0 s1 s2 s3 s4 s5 s6 area b part h r1 r2 r3 r4 r5 r6 =
    let high : 1 ≤ area.rows = part.some_rows in
    let wide : 1 ≤ area.columns = part.some_columns in
    let rows : ℕ = area.rows in
    let columns : ℕ = area.columns in
    let at : ℕ → ℕ → CellView = inside_at old area in
    let h1 : Changes old s1 area (with_top rows columns b) = then_put old s0 s1 area _ (with_top rows columns b) b.top 0 0 columns _ _ _ (omega arith) (omega arith) (omega (arith, wide)) part h r1 high (omega arith) (λ r c u k. top_case at rows columns r c b u k) in
    let h2 : Changes old s2 area (with_bottom rows columns b) = then_put old s1 s2 area _ (with_bottom rows columns b) b.bottom (rows - 1) 0 columns _ _ _ (omega (arith, high)) (omega arith) (omega (arith, wide)) part h1 r2 (omega (arith, high)) (omega arith) (λ r c u k. bottom_case at rows columns r c b u k) in
    let h3 : Changes old s3 area (with_top_left rows columns b) = then_put old s2 s3 area _ (with_top_left rows columns b) b.top_left 0 0 1 _ _ _ (omega arith) (omega arith) refl part h2 r3 high wide (λ r c u k. top_left_case (with_bottom rows columns b at r c) b.top_left r c) in
    let h4 : Changes old s4 area (with_top_right rows columns b) = then_put old s3 s4 area _ (with_top_right rows columns b) b.top_right 0 (columns - 1) columns _ _ _ (omega arith) (omega (arith, wide)) (omega (arith, wide)) part h3 r4 high (omega arith) (λ r c u k. top_right_case (with_top_left rows columns b at r c) b.top_right columns r c k) in
    let h5 : Changes old s5 area (with_bottom_left rows columns b) = then_put old s4 s5 area _ (with_bottom_left rows columns b) b.bottom_left (rows - 1) 0 1 _ _ _ (omega (arith, high)) (omega arith) refl part h4 r5 (omega (arith, high)) wide (λ r c u k. bottom_left_case (with_top_right rows columns b at r c) b.bottom_left rows r c u) in
    then_put old s5 s6 area _ (bordered rows columns b) b.bottom_right (rows - 1) (columns - 1) columns _ _ _ (omega (arith, high)) (omega (arith, wide)) (omega (arith, wide)) part h5 r6 (omega (arith, high)) (omega arith) (λ r c u k. last_case at rows columns r c b u k)
  where
    top_case : (at : ℕ → ℕ → CellView) (rows columns r c : ℕ) (b : Border) → r < rows → c < columns
        → cond (r == 0 && leb 0 c && ltb c columns) b.top (sides_put columns rows b.left b.right at r c) ≡ with_top rows columns b at r c
    top_case at rows columns r c b u k = grind (arith, nat_tests)

    bottom_case : (at : ℕ → ℕ → CellView) (rows columns r c : ℕ) (b : Border) → r < rows → c < columns
        → cond (r == rows - 1 && leb 0 c && ltb c columns) b.bottom (with_top rows columns b at r c) ≡ with_bottom rows columns b at r c
    bottom_case at rows columns r c b u k = grind (arith, nat_tests)

    top_left_case : (x cell : CellView) (r c : ℕ) → cond (r == 0 && leb 0 c && ltb c 1) cell x ≡ cond (r == 0 && c == 0) cell x
    top_left_case x cell r c = grind (arith, nat_tests)

    top_right_case : (x cell : CellView) (columns r c : ℕ) → c < columns → cond (r == 0 && leb (columns - 1) c && ltb c columns) cell x ≡ cond (r == 0 && c + 1 == columns) cell x
    top_right_case x cell columns r c k = grind (arith, nat_tests)

    bottom_left_case : (x cell : CellView) (rows r c : ℕ) → r < rows → cond (r == rows - 1 && leb 0 c && ltb c 1) cell x ≡ cond (r + 1 == rows && c == 0) cell x
    bottom_left_case x cell rows r c u = grind (arith, nat_tests)

    last_case : (at : ℕ → ℕ → CellView) (rows columns r c : ℕ) (b : Border) → r < rows → c < columns
        → cond (r == rows - 1 && leb (columns - 1) c && ltb c columns) b.bottom_right (with_bottom_left rows columns b at r c) ≡ bordered rows columns b at r c
    last_case at rows columns r c b u k = grind (arith, nat_tests)
