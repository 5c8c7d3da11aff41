-- Texts that are added: the characters that a text begins with, written in one go.
use Rattle.std.proofs.Common.{◌≡◌, ℕ, zero, suc, ◌+◌, ◌-◌, ◌<◌, ◌≤◌, ◌∙◌, ap, refl, sym, subst, arith, List, [], ◌∷◌, length, take, drop, get_or, map, Some, None, Bool, true, false, cond, ◌==◌, ◌&&◌, leb, ltb}
use Rattle.std.specs.Prelude.{slice_set}
use Rattle.std.specs.Char.{is_control}
use Rattle.std.specs.List.{range_with_len}
use Rattle.std.proofs.lemmas.Bool.Decides.{nat_tests}
use Rattle.std.proofs.lemmas.List.{get_or-drop, get_or-set_same, get_or-take, length-drop, length-set, length-take, length-take-le, set-set, take-take, take_all}
use Rattle.std.proofs.lemmas.List.FromFn.{get_or-map-range_with_len, length-map-range_with_len}
use Rattle.scr_cells.specs.CellViews.{CellView, blank_cell}
use Rattle.scr_cells.specs.Characters.{is_ascii}
use Rattle.scr_cells.specs.Grids.{GridLaws, GridView, grid_with_run}
use Rattle.scr_cells.specs.MadeRuns.{before, made_while}
use Rattle.scr_windows.specs.declared.faults.Added.{Added}
use Rattle.scr_windows.specs.declared.faults.Added.TheVariants.{Done}
use Rattle.scr_windows.specs.declared.frames.WindowState.{WindowState}
use Rattle.scr_windows.specs.declared.surfaces.areas.Area.{Area}
use Rattle.scr_windows.specs.Surfaces.Formulas.{run_put}
use Rattle.scr_windows.specs.Surfaces.SurfaceLaws.{SurfaceLaws}
use Rattle.scr_windows.specs.Surfaces.SurfaceViews.{SurfaceView, IsPart, IsSurface, filled, inside_at, is_inside}
use Rattle.scr_windows.specs.DeskViews.{DeskView, IsThere, WindowView, no_attributes, no_surface, no_window, surface_at, window_at}
use Rattle.scr_windows.specs.Changes.{fill, marked, marked_lines, write}
use Rattle.scr_windows.specs.Calls.Adding.{cell_added, code_added, character_added, gone_to, line_begun, text_added, written_form}
use Rattle.scr_windows.specs.Calls.Settings.{cursor_at}
use Rattle.scr_windows.specs.Code.Steps.{Changes, RunIs}
use Rattle.scr_windows.specs.Code.Stretches.{characters_first, form_of, forms_from, row_laid, cell_beside}
use Rattle.scr_windows.proofs.AddedLaws.{then_added}
use Rattle.scr_windows.proofs.ChangeLaws.{run_at}
use Rattle.scr_windows.proofs.FilledLaws.{map_range}
use Rattle.scr_windows.proofs.RunLaws.{run_of, surface_of, then_run, unchanged}

-- ---- the cells of the characters that a text begins with

pub first_fits : (text : List ℕ) → characters_first text ≤ length text
first_fits [] = omega arith
first_fits (byte ∷ text) = by (is_ascii byte) (first_fits text)
  where
    by : (t : Bool) → characters_first text ≤ length text → cond t (suc (characters_first text)) 0 ≤ suc (length text)
    by true h = omega (arith, h)
    by false h = omega arith

made_are : (blank : CellView) (text : List ℕ) → length (made_while (form_of blank) text) ≡ characters_first text
made_are blank [] = refl
made_are blank (byte ∷ text) = by (is_ascii byte) (made_are blank text)
  where
    by : (t : Bool) → length (made_while (form_of blank) text) ≡ characters_first text
        → length (before (cond t (Some (cell_beside blank byte)) None) (made_while (form_of blank) text)) ≡ cond t (suc (characters_first text)) 0
    by true h = ap suc h
    by false h = refl

made_at : (blank : CellView) (text : List ℕ) (k : ℕ) → k < length (made_while (form_of blank) text)
    → get_or (made_while (form_of blank) text) k blank_cell ≡ cell_beside blank (get_or text k 0)
made_at blank [] k h = absurd (omega (arith, h))
made_at blank (byte ∷ text) k h = by (is_ascii byte) k h (λ n. made_at blank text n)
  where
    run : List CellView
    run = made_while (form_of blank) text

    by : (t : Bool) (k : ℕ) → k < length (before (cond t (Some (cell_beside blank byte)) None) run)
        → ((n : ℕ) → n < length run → get_or run n blank_cell ≡ cell_beside blank (get_or text n 0))
        → get_or (before (cond t (Some (cell_beside blank byte)) None) run) k blank_cell ≡ cell_beside blank (get_or (byte ∷ text) k 0)
    by false k h rest = absurd (omega (arith, h))
    by true zero h rest = refl
    by true (suc k) h rest = rest k (omega (arith, h))

-- a row of a surface with these cells
pub text_run : GridLaws CellView → (g new : GridView CellView) (s : SurfaceView) (row from count : ℕ) (text : List ℕ) (blank : CellView)
    → surface_of g ≡ s → IsSurface (surface_of g) → count ≡ characters_first text
    → new ≡ record g { lines = grid_with_run g.lines row from (made_while (form_of blank) (take (g.columns - from) text)) }
    → row < s.rows → from + length text ≤ s.columns → RunIs s (surface_of new) row from (from + count) (forms_from blank from text)
text_run laws g new s row from count text blank is surface count_is new_is row_in end_in =
    let run : List CellView = made_while (form_of blank) text in
    let wide : g.columns ≡ s.columns = ap (λ (v : SurfaceView). v.columns) is in
    let all : take (g.columns - from) text ≡ text = take_all (g.columns - from) text (omega arith) in
    let many : length run ≡ characters_first text = made_are blank text in
    let few = first_fits text in
    run_of laws g new s row from (from + count) run (forms_from blank from text) is surface
    (new_is ∙ ap (λ xs. record g { lines = grid_with_run g.lines row from (made_while (form_of blank) xs) }) all)
    row_in (omega arith) (omega arith)
    (λ k h. let e : k ≡ from + k - from = omega arith in made_at blank text k h ∙ ap (λ n. cell_beside blank (get_or text n 0)) e)

pub text_count : (columns from n : ℕ) (text : List ℕ) (blank : CellView) → from + length text ≤ columns → n ≡ length (made_while (form_of blank) (take (columns - from) text)) → n ≡ characters_first text
text_count columns from n text blank end_in is =
    is ∙ ap (λ xs. length (made_while (form_of blank) xs)) (take_all (columns - from) text (omega arith)) ∙ made_are blank text

-- a row of an area with these cells
pub text_laid : (old new : SurfaceView) (area : Area) (row column count : ℕ) (text : List ℕ) (blank : CellView) → IsSurface old → IsPart old area → row < area.rows → column + count ≤ area.columns
    → RunIs old new (area.top + row) (area.left + column) (area.left + column + count) (forms_from blank (area.left + column) text)
    → Changes old new area (row_laid row column (column + count) (forms_from blank column text))
text_laid old new area row column count text blank surface part row_in end_in run =
    let e : area.left + column + count ≡ area.left + (column + count) = omega arith in
    then_run old old new area (λ at. at) (row_laid row column (column + count) (forms_from blank column text)) row column (column + count) (forms_from blank (area.left + column) text) part
    (unchanged old area (λ at. at) surface (λ r c h k. refl)) (run_at _ _ refl e run) row_in end_in
    (λ r c h k. let e : area.left + c - (area.left + column) ≡ c - column = omega arith in
    ap (λ n. cond (r == row && leb column c && ltb c (column + count)) (cell_beside blank (get_or text n 0)) (inside_at old area r c)) e)

-- ---- a surface that is filled twice, and lines that are marked twice

cond_twice : {X : Type 0} (t : Bool) (x z : X) → cond t x (cond t x z) ≡ cond t x z
cond_twice true x z = refl
cond_twice false x z = refl

cond_rest : {X : Type 0} (t : Bool) (x y z v : X) → v ≡ cond t y z → cond t x v ≡ cond t x z
cond_rest true x y z v e = refl
cond_rest false x y z v e = e

filled_twice : SurfaceLaws → (s : SurfaceView) (area : Area) (f g : ℕ → ℕ → CellView) → IsSurface s → filled (filled s area f) area g ≡ filled s area g
filled_twice laws s area f g h =
    let mid : SurfaceView = filled s area f in
    let rows : mid.rows ≡ s.rows = laws.filled_rows s area f in
    let columns : mid.columns ≡ s.columns = laws.filled_columns s area f in
    let rows2 : (filled mid area g).rows ≡ mid.rows = laws.filled_rows mid area g in
    let columns2 : (filled mid area g).columns ≡ mid.columns = laws.filled_columns mid area g in
    laws.same (filled mid area g) (filled s area g) (laws.filled_surface mid area g (laws.filled_surface s area f h)) (laws.filled_surface s area g h)
    (rows2 ∙ rows ∙ sym (laws.filled_rows s area g)) (columns2 ∙ columns ∙ sym (laws.filled_columns s area g))
    (λ r c b k.
    laws.filled_at mid area g r c (omega (arith, rows2)) (omega (arith, columns2))
    ∙ cond_rest (is_inside area r c) _ _ _ _ (laws.filled_at s area f r c (omega (arith, rows2, rows)) (omega (arith, columns2, columns)))
    ∙ sym (laws.filled_at s area g r c (omega (arith, rows2, rows)) (omega (arith, columns2, columns))))

inside_filled : SurfaceLaws → (s : SurfaceView) (area : Area) (f : ℕ → ℕ → CellView) → IsPart s area → (r c : ℕ) → r < area.rows → c < area.columns → inside_at (filled s area f) area r c ≡ f r c
inside_filled laws s area f part r c b k =
    laws.filled_at s area f (area.top + r) (area.left + c) (omega (arith, part.below)) (omega (arith, part.right)) ∙ within area.top area.left area.rows area.columns _ b k
  where
    within : (top left rows columns : ℕ) (other : CellView) → r < rows → c < columns
        → cond (leb top (top + r) && ltb (top + r) (top + rows) && leb left (left + c) && ltb (left + c) (left + columns)) (f (top + r - top) (left + c - left)) other ≡ f r c
    within top left rows columns other b k =
        let y : top + r - top ≡ r = omega arith in
        let x : left + c - left ≡ c = omega arith in
        let t : (leb top (top + r) && ltb (top + r) (top + rows) && leb left (left + c) && ltb (left + c) (left + columns)) ≡ true = grind (arith, nat_tests) in
        ap (λ t. cond t (f (top + r - top) (left + c - left)) other) t ∙ (λ j. f (y j) (x j))

-- one cell more of a row
laid_more : SurfaceLaws → (s : SurfaceView) (area : Area) (y x end : ℕ) (value : ℕ → CellView) (cell : CellView) → IsSurface s → IsPart s area → x ≤ end → value end ≡ cell
    → filled (filled s area (row_laid y x end value (inside_at s area))) area (run_put y end (end + 1) cell (inside_at (filled s area (row_laid y x end value (inside_at s area))) area))
    ≡ filled s area (row_laid y x (end + 1) value (inside_at s area))
laid_more laws s area y x end value cell h part le is =
    filled_twice laws s area _ _ h
    ∙ laws.filled_same s area _ _ (λ r c b k. ap (λ v. cond (r == y && leb end c && ltb c (end + 1)) cell v) (inside_filled laws s area _ part r c b k) ∙ joined r c (inside_at s area r c))
  where
    joined : (r c : ℕ) (was : CellView) → cond (r == y && leb end c && ltb c (end + 1)) cell (cond (r == y && leb x c && ltb c end) (value c) was) ≡ cond (r == y && leb x c && ltb c (end + 1)) (value c) was
    joined r c was = grind (arith, nat_tests)

marks_twice : (first end : ℕ) (marks : List Bool) → marked_lines first end true (marked_lines first end true marks) ≡ marked_lines first end true marks
unfolding marked_lines
marks_twice first end marks =
    let f : ℕ → Bool = λ r. cond (leb first r && ltb r end) true (get_or marks r false) in
    let once : List Bool = map f (range_with_len 0 (length marks)) in
    let many : length once ≡ length marks = length-map-range_with_len f 0 (length marks) in
    ap (λ n. map (λ r. cond (leb first r && ltb r end) true (get_or once r false)) (range_with_len 0 n)) many
    ∙ map_range _ _ 0 (length marks) (λ r z b.
    ap (λ v. cond (leb first r && ltb r end) true v) (get_or-map-range_with_len f 0 (length marks) r r false (omega arith) (omega arith)) ∙ cond_twice (leb first r && ltb r end) true (get_or marks r false))

-- ---- characters that are written before the last column

-- a window with its cursor in another column, and with the cursor's line touched
abbrev moved : WindowView → ℕ → WindowView
moved w column = record w { state = cursor_at (w.state.cursor.0, column) w.state; touched = marked_lines w.state.cursor.0 (w.state.cursor.0 + 1) true w.touched }

-- a desk where the cursor's row is drawn in by a formula, and the cursor is in another column
abbrev drawn_desk : DeskView → ℕ → WindowView → ℕ → ((ℕ → ℕ → CellView) → ℕ → ℕ → CellView) → DeskView
drawn_desk d i w column f =
    record d {
      surfaces = slice_set d.surfaces w.frame.surface (filled (surface_at d w.frame.surface) w.frame.area (f (inside_at (surface_at d w.frame.surface) w.frame.area)));
      windows = slice_set d.windows i (moved w column);
    }

-- the same where cells are laid from the cursor up to that column
abbrev laid_desk : DeskView → ℕ → ℕ → (ℕ → CellView) → DeskView
laid_desk d i end value = drawn_desk d i (window_at d i) end (row_laid (window_at d i).state.cursor.0 (window_at d i).state.cursor.1 end value)

-- the cursor moves after its row was written
written_desk : (d : DeskView) (i column : ℕ) (f : (ℕ → ℕ → CellView) → ℕ → ℕ → CellView) → i < length d.windows
    → (gone_to (write d i (window_at d i).state.cursor.0 ((window_at d i).state.cursor.0 + 1) f) i ((window_at d i).state.cursor.0, column)).0 ≡ drawn_desk d i (window_at d i) column f
unfolding write
written_desk d i column f here =
    let w : WindowView = window_at d i in
    let y : ℕ = w.state.cursor.0 in
    let m : WindowView = marked y (y + 1) true w in
    let at : get_or (slice_set d.windows i m) i no_window ≡ m = get_or-set_same d.windows i m no_window here in
    (λ j. record (fill d i f) { windows = slice_set (slice_set d.windows i m) i (record (at j) { state = cursor_at (y, column) (at j).state }) })
    ∙ (λ j. record (fill d i f) { windows = set-set d.windows i m (moved w column) j })

-- a character is added, by what is known of the window
abbrev character_by : DeskView → ℕ → ℕ → WindowView → DeskView × Added
character_by d i byte w =
    let y : ℕ = w.state.cursor.0 in
    let x : ℕ = w.state.cursor.1 in
    let put : DeskView = write d i y (y + 1) (run_put y x (x + 1) (written_form byte no_attributes w.state)) in
    cond (ltb (x + 1) w.frame.area.columns) (gone_to put i (y, x + 1)) (line_begun put i)

character_is : (d : DeskView) (i byte : ℕ) → character_added d i byte no_attributes ≡ character_by d i byte (window_at d i)
unfolding character_added cell_added
character_is d i byte = refl

-- the desk with a character before the last column
abbrev put_desk : DeskView → ℕ → ℕ → WindowView → DeskView
put_desk d i byte w = drawn_desk d i w (w.state.cursor.1 + 1) (run_put w.state.cursor.0 w.state.cursor.1 (w.state.cursor.1 + 1) (written_form byte no_attributes w.state))

below_is : (a b : ℕ) → a < b → ltb a b ≡ true
below_is a b h = grind (arith, nat_tests)

character_put : (d : DeskView) (i byte : ℕ) (w : WindowView) → i < length d.windows → window_at d i ≡ w → w.state.cursor.1 + 1 < w.frame.area.columns
    → ◌≡◌ {A = DeskView × Added} (character_added d i byte no_attributes) (put_desk d i byte w, Done)
character_put d i byte w here is =
    let P : WindowView → Type 0 = λ v. v.state.cursor.1 + 1 < v.frame.area.columns → ◌≡◌ {A = DeskView × Added} (character_added d i byte no_attributes) (put_desk d i byte v, Done) in
    subst P is at
  where
    at : (window_at d i).state.cursor.1 + 1 < (window_at d i).frame.area.columns → ◌≡◌ {A = DeskView × Added} (character_added d i byte no_attributes) (put_desk d i byte (window_at d i), Done)
    at room =
        let w : WindowView = window_at d i in
        let y : ℕ = w.state.cursor.0 in
        let x : ℕ = w.state.cursor.1 in
        let f : (ℕ → ℕ → CellView) → ℕ → ℕ → CellView = run_put y x (x + 1) (written_form byte no_attributes w.state) in
        let put : DeskView = write d i y (y + 1) f in
        character_is d i byte ∙ ap (λ t. cond t (gone_to put i (y, x + 1)) (line_begun put i)) (below_is (x + 1) w.frame.area.columns room) ∙ (λ j. (written_desk d i (x + 1) f here j, Done))

ascii_is_added : (d : DeskView) (i byte : ℕ) → is_ascii byte ≡ true → code_added d i byte no_attributes ≡ character_added d i byte no_attributes
unfolding code_added
ascii_is_added d i byte is = last _ _ _ _ _ _
  where
    last : (a b c e f g : DeskView × Added) → cond (byte == 10) a (cond (byte == 9) b (cond (byte == 8) c (cond (byte == 13) e (cond (is_control byte) f g)))) ≡ g
    last a b c e f g = grind (arith, nat_tests, is)

-- what the first character of a stretch, and each further one, leaves
first_laid : SurfaceLaws → (d : DeskView) (i byte : ℕ) (value : ℕ → CellView) → i < length d.windows → is_ascii byte ≡ true → (window_at d i).state.cursor.1 + 1 < (window_at d i).frame.area.columns
    → value (window_at d i).state.cursor.1 ≡ written_form byte no_attributes (window_at d i).state
    → ◌≡◌ {A = DeskView × Added} (code_added d i byte no_attributes) (laid_desk d i ((window_at d i).state.cursor.1 + 1) value, Done)
first_laid laws d i byte value here is room cell =
    let w : WindowView = window_at d i in
    let y : ℕ = w.state.cursor.0 in
    let x : ℕ = w.state.cursor.1 in
    let s : SurfaceView = surface_at d w.frame.surface in
    let same : filled s w.frame.area (run_put y x (x + 1) (written_form byte no_attributes w.state) (inside_at s w.frame.area)) ≡ filled s w.frame.area (row_laid y x (x + 1) value (inside_at s w.frame.area))
    = laws.filled_same s w.frame.area _ _ (λ r c b k. alike y x r c (written_form byte no_attributes w.state) (inside_at s w.frame.area r c) cell) in
    ascii_is_added d i byte is ∙ character_put d i byte w here refl room
    ∙ (λ j. (record d { surfaces = slice_set d.surfaces w.frame.surface (same j); windows = slice_set d.windows i (moved w (x + 1)) }, Done))
  where
    alike : (y x r c : ℕ) (cell was : CellView) → value x ≡ cell → cond (r == y && leb x c && ltb c (x + 1)) cell was ≡ cond (r == y && leb x c && ltb c (x + 1)) (value c) was
    alike y x r c cell was e = grind (arith, nat_tests)

next_laid : SurfaceLaws → (d : DeskView) (i byte end : ℕ) (value : ℕ → CellView) → IsThere d i → is_ascii byte ≡ true → (window_at d i).state.cursor.1 ≤ end → end + 1 < (window_at d i).frame.area.columns
    → value end ≡ written_form byte no_attributes (window_at d i).state
    → ◌≡◌ {A = DeskView × Added} (code_added (laid_desk d i end value) i byte no_attributes) (laid_desk d i (end + 1) value, Done)
next_laid laws d i byte end value h is from room cell =
    let w : WindowView = window_at d i in
    let y : ℕ = w.state.cursor.0 in
    let x : ℕ = w.state.cursor.1 in
    let k : ℕ = w.frame.surface in
    let area : Area = w.frame.area in
    let s : SurfaceView = surface_at d k in
    let mid : SurfaceView = filled s area (row_laid y x end value (inside_at s area)) in
    let v : WindowView = moved w end in
    let here : i < length (slice_set d.windows i v) = omega (arith, h.here, length-set d.windows i v) in
    let put : (ℕ → ℕ → CellView) → ℕ → ℕ → CellView = run_put y end (end + 1) (written_form byte no_attributes w.state) in
    let found : surface_at (laid_desk d i end value) k ≡ mid = get_or-set_same d.surfaces k mid no_surface h.surface in
    let surfaces : slice_set (slice_set d.surfaces k mid) k (filled (surface_at (laid_desk d i end value) k) area (put (inside_at (surface_at (laid_desk d i end value) k) area)))
    ≡ slice_set d.surfaces k (filled s area (row_laid y x (end + 1) value (inside_at s area)))
    = (λ j. slice_set (slice_set d.surfaces k mid) k (filled (found j) area (put (inside_at (found j) area)))) ∙ set-set d.surfaces k mid _
    ∙ ap (slice_set d.surfaces k) (laid_more laws s area y x end value _ h.whole h.part from cell) in
    let windows : slice_set (slice_set d.windows i v) i (moved v (end + 1)) ≡ slice_set d.windows i (moved w (end + 1))
    = set-set d.windows i v (moved v (end + 1)) ∙ ap (λ marks. slice_set d.windows i (record (moved w (end + 1)) { touched = marks })) (marks_twice y (y + 1) w.touched) in
    ascii_is_added (laid_desk d i end value) i byte is ∙ character_put (laid_desk d i end value) i byte v here (get_or-set_same d.windows i v no_window h.here) room
    ∙ (λ j. (record d { surfaces = surfaces j; windows = windows j }, Done))

-- the characters that a text begins with, after some that were laid
rest_laid : SurfaceLaws → (text : List ℕ) (d : DeskView) (i end : ℕ) (value : ℕ → CellView) → IsThere d i → (window_at d i).state.cursor.1 ≤ end → end + length text < (window_at d i).frame.area.columns
    → ((k : ℕ) → value (end + k) ≡ written_form (get_or text k 0) no_attributes (window_at d i).state)
    → ◌≡◌ {A = DeskView × Added} (text_added (laid_desk d i end value) i (take (characters_first text) text)) (laid_desk d i (end + characters_first text) value, Done)
rest_laid laws [] d i end value h from room cells = let z : end ≡ end + 0 = omega arith in (λ j. (laid_desk d i (z j) value, Done))
rest_laid laws (byte ∷ text) d i end value h from room cells =
    by (is_ascii byte) refl (rest_laid laws text d i (end + 1) value h (omega arith) (omega arith) (λ k. let e : end + 1 + k ≡ end + suc k = omega arith in ap value e ∙ cells (suc k)))
  where
    by : (t : Bool) → is_ascii byte ≡ t
        → ◌≡◌ {A = DeskView × Added} (text_added (laid_desk d i (end + 1) value) i (take (characters_first text) text)) (laid_desk d i (end + 1 + characters_first text) value, Done)
        → ◌≡◌ {A = DeskView × Added} (text_added (laid_desk d i end value) i (take (cond t (suc (characters_first text)) 0) (byte ∷ text))) (laid_desk d i (end + cond t (suc (characters_first text)) 0) value, Done)
    by false is rest = let z : end ≡ end + 0 = omega arith in (λ j. (laid_desk d i (z j) value, Done))
    by true is rest =
        let n : ℕ = characters_first text in
        let z : end + 0 ≡ end = omega arith in
        let e : end + 1 + n ≡ end + suc n = omega arith in
        let first = next_laid laws d i byte end value h is from (omega arith) (ap value (sym z) ∙ cells 0) in
        (λ j. then_added (first j) i (take n text)) ∙ rest ∙ (λ j. (laid_desk d i (e j) value, Done))

-- the characters that a text begins with, where there is room for all of the text before the last column
stretch_laid : SurfaceLaws → (text : List ℕ) (d : DeskView) (i : ℕ) (value : ℕ → CellView) → IsThere d i → 1 ≤ characters_first text → (window_at d i).state.cursor.1 + length text < (window_at d i).frame.area.columns
    → ((k : ℕ) → value ((window_at d i).state.cursor.1 + k) ≡ written_form (get_or text k 0) no_attributes (window_at d i).state)
    → ◌≡◌ {A = DeskView × Added} (text_added d i (take (characters_first text) text)) (laid_desk d i ((window_at d i).state.cursor.1 + characters_first text) value, Done)
stretch_laid laws [] d i value h some room cells = absurd (omega (arith, some))
stretch_laid laws (byte ∷ text) d i value h some room cells = by (is_ascii byte) refl some
  where
    by : (t : Bool) → is_ascii byte ≡ t → 1 ≤ cond t (suc (characters_first text)) 0
        → ◌≡◌ {A = DeskView × Added} (text_added d i (take (cond t (suc (characters_first text)) 0) (byte ∷ text))) (laid_desk d i ((window_at d i).state.cursor.1 + cond t (suc (characters_first text)) 0) value, Done)
    by false is some = absurd (omega (arith, some))
    by true is some =
        let n : ℕ = characters_first text in
        let x : ℕ = (window_at d i).state.cursor.1 in
        let z : x + 0 ≡ x = omega arith in
        let e : x + 1 + n ≡ x + suc n = omega arith in
        let first = first_laid laws d i byte value h.here is (omega arith) (ap value (sym z) ∙ cells 0) in
        let rest = rest_laid laws text d i (x + 1) value h (omega arith) (omega arith) (λ k. let e : x + 1 + k ≡ x + suc k = omega arith in ap value e ∙ cells (suc k)) in
        (λ j. then_added (first j) i (take n text)) ∙ rest ∙ (λ j. (laid_desk d i (e j) value, Done))

-- the cells of characters beside the written form of a blank are their written forms
beside_is_written : (state : WindowState) (byte : ℕ) → cell_beside (written_form 32 no_attributes state) byte ≡ written_form byte no_attributes state
beside_is_written state byte = by (byte == 32)
  where
    by : (t : Bool) → cond t (written_form 32 no_attributes state) (record (written_form 32 no_attributes state) { character = byte }) ≡ record (written_form 32 no_attributes state) { character = cond t state.background.character byte }
    by true = refl
    by false = refl

-- a stretch that is written in one go is its characters one after another
pub stretch_added : SurfaceLaws → (d put new : DeskView) (i count : ℕ) (text : List ℕ) (blank : CellView) (state : WindowState) → IsThere d i → state ≡ (window_at d i).state → 1 ≤ characters_first text
    → (window_at d i).state.cursor.1 + length text < (window_at d i).frame.area.columns
    → blank ≡ written_form 32 no_attributes state → count ≡ characters_first text
    → put ≡ write d i state.cursor.0 (state.cursor.0 + 1) (row_laid state.cursor.0 state.cursor.1 (state.cursor.1 + count) (forms_from blank state.cursor.1 text))
    → new ≡ (gone_to put i (state.cursor.0, state.cursor.1 + count)).0
    → ◌≡◌ {A = DeskView × Added} (new, Done) (text_added d i (take count text))
stretch_added laws d put new i count text blank state h is some room blank_is count_is put_is new_is =
    let w : WindowState = (window_at d i).state in
    let x : ℕ = w.cursor.1 in
    let value : ℕ → CellView = forms_from blank x text in
    let n : ℕ = characters_first text in
    let here : new ≡ laid_desk d i (x + count) value
    = new_is ∙ ap (λ v. (gone_to v i (state.cursor.0, state.cursor.1 + count)).0) put_is
    ∙ ap (λ (st : WindowState). (gone_to (write d i st.cursor.0 (st.cursor.0 + 1) (row_laid st.cursor.0 st.cursor.1 (st.cursor.1 + count) (forms_from blank st.cursor.1 text))) i (st.cursor.0, st.cursor.1 + count)).0) is
    ∙ written_desk d i (x + count) (row_laid w.cursor.0 x (x + count) value) h.here in
    let all : ◌≡◌ {A = DeskView × Added} (text_added d i (take n text)) (laid_desk d i (x + n) value, Done)
    = stretch_laid laws text d i value h some room (λ k.
    let e : x + k - x ≡ k = omega arith in
    (λ j. cell_beside ((blank_is ∙ ap (written_form 32 no_attributes) is) j) (get_or text (e j) 0)) ∙ beside_is_written w (get_or text k 0)) in
    (λ j. (here j, Done)) ∙ (λ j. (laid_desk d i (x + count_is j) value, Done)) ∙ sym all ∙ ap (λ n. text_added d i (take n text)) (sym count_is)

-- ---- a part of a text

begins : (text : List ℕ) → 1 ≤ length text → is_ascii (get_or text 0 0) ≡ true → 1 ≤ characters_first text
begins [] some is = absurd (omega (arith, some))
begins (byte ∷ text) some is = let e : cond (is_ascii byte) (suc (characters_first text)) 0 ≡ suc (characters_first text) = ap (λ t. cond t (suc (characters_first text)) 0) is in omega (arith, e)

pub part_begins : (text : List ℕ) (at n : ℕ) → 1 ≤ n → at + n ≤ length text → is_ascii (get_or text at 0) ≡ true → 1 ≤ characters_first (take n (drop at text))
part_begins text at n some fits is =
    let rest : length (drop at text) ≡ length text - at = length-drop at text in
    let long : length (take n (drop at text)) ≡ n = length-take-le n (drop at text) (omega arith) in
    let z : at + 0 ≡ at = omega arith in
    let first : get_or (take n (drop at text)) 0 0 ≡ get_or text at 0 = get_or-take n (drop at text) 0 0 some ∙ get_or-drop at text 0 0 ∙ ap (λ k. get_or text k 0) z in
    begins (take n (drop at text)) (omega arith) (ap is_ascii first ∙ is)

-- the characters that a part begins with are in the text
pub part_fits : (text : List ℕ) (at n count : ℕ) → at + n ≤ length text → count ≡ characters_first (take n (drop at text)) → (count ≤ n) × (take count (take n (drop at text)) ≡ take count (drop at text))
part_fits text at n count fits is =
    let few = first_fits (take n (drop at text)) in
    let short : length (take n (drop at text)) ≤ n = omega (arith, length-take n (drop at text)) in
    let within : count ≤ n = omega arith in
    (within, take-take count n (drop at text) within)
