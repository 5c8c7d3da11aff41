-- The laws of virtual screens.
use Rattle.std.proofs.Common.{◌≡◌, ◌⊎◌, inl, inr, ℕ, Bool, true, false, ◌+◌, ◌-◌, ◌<◌, ◌≤◌, ◌==◌, ◌&&◌, ◌||◌, sym, ◌∙◌, ap, refl, arith, subst, List, length, get_or, cond, leb, ltb, replicate, None, Some, Option, Result, Ok, Err}
use Rattle.std.specs.Prelude.{IfSome, min, max}
use Rattle.std.proofs.lemmas.Bool.Decides.{nat_tests}
use Rattle.std.proofs.lemmas.List.{get_or-replicate, get_or_past, length-replicate}
use Rattle.scr_cells.specs.CellViews.{CellView, blank_cell}
use Rattle.scr_cells.specs.Grids.{GridLaws}
use Rattle.scr_cells.specs.LookViews.{seen}
use Rattle.scr_windows.specs.declared.faults.WinFault.{WinFault}
use Rattle.scr_windows.specs.declared.faults.WinFault.TheVariants.{BadColour, BadPair, NotPad, OffScreen, OutOfWindow}
use Rattle.scr_windows.specs.declared.frames.WindowState.{WindowState}
use Rattle.scr_windows.specs.Calls.Reading.{at}
use Rattle.scr_windows.specs.Calls.Settings.{with_state}
use Rattle.scr_windows.specs.Calls.Touching.{take_lines_call}
use Rattle.scr_windows.specs.Changes.{index_of, marked, on_window, with_window}
use Rattle.scr_windows.specs.DeskViews.{DeskView, WindowView, window_at}
use Rattle.scr_virtual.specs.declared.parts.ShownPart.{ShownPart}
use Rattle.scr_virtual.specs.Laws.{HoldsChanges, IsOutside, OutsideStays, RangesHoldChanges, SameSizes, SizesStay, UntouchedChangesNothing, cell_at}
use Rattle.scr_virtual.specs.Pairs.{is_no_colour, set_pair_of_call, with_pair}
use Rattle.scr_virtual.specs.Taking.{columns_unlike, is_copied, on_ok, pad_part, part_at, part_call, part_cell, part_copied, part_taken, take_pad_call, take_window_call, taken, touched_line, window_part}
use Rattle.scr_virtual.specs.Ranges.{AreRanges, IsRange, in_range, joined, joined_by, ranges_with}
use Rattle.scr_virtual.specs.VirtualViews.{IsVirtual, VirtualView, marked_rows}
use Rattle.scr_virtual.proofs.CopyLaws.{grid_same}
use Rattle.scr_virtual.proofs.RangeLaws.{Range, range_of}
use Rattle.scr_virtual.proofs.UnlikeLaws.{all_grow, joined_grows, outside_is_same}

-- what holds where the call is refused and where a part is taken holds after the call
call_holds : (v : VirtualView) (desk : DeskView) (win : ℕ) (part_of : WindowView → Result ShownPart WinFault) (lines : WindowView → ℕ → Bool) (P : VirtualView × DeskView → Type 0) → P (v, desk)
    → ((i : ℕ) (part : ShownPart) → index_of desk win ≡ Ok i → part_of (window_at desk i) ≡ Ok part → P (taken v desk win i part (lines (window_at desk i)))) → P (part_call v desk win part_of lines).0
call_holds v desk win part_of lines P stays takes = by_index (index_of desk win) refl
  where
    by_part : (i : ℕ) → index_of desk win ≡ Ok i → (o : Result ShownPart WinFault) → part_of (window_at desk i) ≡ o → P (on_ok v desk o (λ part. (taken v desk win i part (lines (window_at desk i)), Ok tt))).0
    by_part i found (Err fault) e = stays
    by_part i found (Ok part) e = takes i part found e

    by_index : (o : Result ℕ WinFault) → index_of desk win ≡ o → P (on_ok v desk o (λ i. on_ok v desk (part_of (window_at desk i)) (λ part. (taken v desk win i part (lines (window_at desk i)), Ok tt)))).0
    by_index (Err fault) e = stays
    by_index (Ok i) e = by_part i e (part_of (window_at desk i)) refl

less_or_not : (a b : ℕ) → (a < b) ⊎ (b ≤ a)
less_or_not a b = grind arith

-- ranges whose rows are changed lose no column, where what a range becomes holds it
grown : (rows : ℕ → Bool) (f : ℕ → Range → Range) (ranges : List Range) (r c : ℕ) → (r < length ranges → in_range (get_or ranges r None) c ≡ true → in_range (f r (get_or ranges r None)) c ≡ true)
    → in_range (get_or ranges r None) c ≡ true → in_range (get_or (ranges_with rows f ranges) r None) c ≡ true
grown rows f ranges r c more was = elim (less_or_not r (length ranges)) [
  | inl h ↦ ap (λ range. in_range range c) (range_of rows f ranges r None h) ∙ either (rows r) (f r (get_or ranges r None)) (get_or ranges r None) (more h was) was
  | inr h ↦ absurd (nowhere (ap (λ range. in_range range c) (sym (get_or_past ranges r None h)) ∙ was))
]
  where
    either : (t : Bool) (new range : Range) → in_range new c ≡ true → in_range range c ≡ true → in_range (cond t new range) c ≡ true
    either true new range p q = p
    either false new range p q = q

    nowhere : false ≡ true → ⊥
    nowhere e = (let z : ⊥ = (cc) in z)

-- a range that a part's columns were joined to holds each of them
outside_joined : (left columns c : ℕ) (range : Range) → in_range (joined (Some (left, left + columns - 1)) range) c ≡ false → (leb left c && ltb c (left + columns)) ≡ false
outside_joined left columns c None e = none left columns c e
  where
    none : (left columns c : ℕ) → (leb left c && leb c (left + columns - 1)) ≡ false → (leb left c && ltb c (left + columns)) ≡ false
    none left columns c e = grind (arith, nat_tests)
outside_joined left columns c (Some range) e = some left columns range.0 range.1 c e
  where
    some : (left columns a b c : ℕ) → (leb (min left a) c && leb c (max (left + columns - 1) b)) ≡ false → (leb left c && ltb c (left + columns)) ≡ false
    some left columns a b c e = grind (arith, nat_tests)

-- the cell of a place after a part was taken
cell_taken : GridLaws CellView → (v : VirtualView) (part : ShownPart) (lines : ℕ → Bool) (cells : ℕ → ℕ → CellView) (state : WindowState) (r c : ℕ) → r < v.picture.rows → c < v.picture.columns
    → cell_at (part_taken part lines cells state v) r c ≡ cond (is_copied part lines r && leb part.left c && ltb c (part.left + part.columns)) (part_cell part cells r c) (cell_at v r c)
unfolding part_copied
cell_taken laws v part lines cells state r c h b =
    laws.formula blank_cell v.picture.rows v.picture.columns (λ r c. cond (is_copied part lines r && leb part.left c && ltb c (part.left + part.columns)) (cells (part.row + (r - part.top)) (part.column + (c - part.left))) (cell_at v r c)) r c h b

-- what becomes of a row's range when a part is taken: it loses no column, and outside it every place of the part has its cell already
record Covers (v : VirtualView) (part : ShownPart) (cells : ℕ → ℕ → CellView) (f : ℕ → Range → Range) : Type 0 where
  grows : (r c : ℕ) (range : Range) → in_range range c ≡ true → in_range (f r range) c ≡ true
  same : (r c : ℕ) (range : Range) → in_range (f r range) c ≡ false → (leb part.left c && ltb c (part.left + part.columns)) ≡ true → part_cell part cells r c ≡ cell_at v r c

-- all columns of the part
all_cover : (v : VirtualView) (part : ShownPart) (cells : ℕ → ℕ → CellView) → Covers v part cells (λ _. joined (Some (part.left, part.left + part.columns - 1)))
all_cover v part cells = record {
  grows = λ r c range. joined_grows (Some (part.left, part.left + part.columns - 1)) range c;
  same = λ r c range out is. absurd (nowhere (sym is ∙ outside_joined part.left part.columns c range out));
}
  where
    nowhere : true ≡ false → ⊥
    nowhere e = (let z : ⊥ = (cc) in z)

-- those that get another cell
unlike_cover : (v : VirtualView) (part : ShownPart) (cells : ℕ → ℕ → CellView) → Covers v part cells (λ r. joined_by (columns_unlike (cell_at v r) (part_cell part cells r) part.left part.columns))
unlike_cover v part cells = record {
  grows = λ r c range. all_grow (columns_unlike (cell_at v r) (part_cell part cells r) part.left part.columns) range c;
  same = λ r c range out is. outside_is_same (cell_at v r) (part_cell part cells r) part.left part.columns c range (from part.left part.columns c is) (to part.left part.columns c is) out;
}
  where
    from : (left columns c : ℕ) → (leb left c && ltb c (left + columns)) ≡ true → left ≤ c
    from left columns c e = grind (arith, nat_tests)

    to : (left columns c : ℕ) → (leb left c && ltb c (left + columns)) ≡ true → c < left + columns
    to left columns c e = grind (arith, nat_tests)

-- then a place outside the new range of its row has the cell that it had
cells_held : GridLaws CellView → (v : VirtualView) (part : ShownPart) (lines : ℕ → Bool) (cells : ℕ → ℕ → CellView) (state : WindowState) (f : ℕ → Range → Range) (ranges : List Range) → Covers v part cells f → length ranges ≡ v.picture.rows
    → (r c : ℕ) → r < v.picture.rows → c < v.picture.columns → in_range (get_or (ranges_with (is_copied part lines) f ranges) r None) c ≡ false → cell_at (part_taken part lines cells state v) r c ≡ cell_at v r c
cells_held laws v part lines cells state f ranges covers many r c h b out =
    cell_taken laws v part lines cells state r c h b
    ∙ kept (is_copied part lines r) (f r (get_or ranges r None)) (get_or ranges r None) (leb part.left c) (ltb c (part.left + part.columns)) (part_cell part cells r c) (cell_at v r c)
    (ap (λ range. in_range range c) (sym (range_of (is_copied part lines) f ranges r None (omega (arith, many)))) ∙ out) (λ left is. covers.same r c (get_or ranges r None) left is)
  where
    kept : (t : Bool) (new was : Range) (u v : Bool) (x y : CellView) → in_range (cond t new was) c ≡ false → (in_range new c ≡ false → (u && v) ≡ true → x ≡ y) → cond (t && u && v) x y ≡ y
    kept true new was true true x y e same = same e refl
    kept true new was true false x y e same = refl
    kept true new was false v x y e same = refl
    kept false new was u v x y e same = refl

taking_holds : GridLaws CellView → (v : VirtualView) (part : ShownPart) (lines : ℕ → Bool) (cells : ℕ → ℕ → CellView) (state : WindowState) → IsVirtual v → HoldsChanges v (part_taken part lines cells state v)
unfolding part_copied
taking_holds laws v part lines cells state is =
    let all : ℕ → Range → Range = λ _. joined (Some (part.left, part.left + part.columns - 1)) in
    let unlike : ℕ → Range → Range = λ r. joined_by (columns_unlike (cell_at v r) (part_cell part cells r) part.left part.columns) in
    let all_are : Covers v part cells all = all_cover v part cells in
    let unlike_are : Covers v part cells unlike = unlike_cover v part cells in
    record {
      changed = record {
        grows = λ r c was. grown (is_copied part lines) all v.changed r c (λ h e. all_are.grows r c (get_or v.changed r None) e) was;
        cells = cells_held laws v part lines cells state all v.changed all_are is.rows;
        holds = λ charset mask colours r c h b out. ap (seen charset mask colours v.picture.pairs) (cells_held laws v part lines cells state all v.changed all_are is.rows r c h b out);
      };
      altered = record {
        grows = λ r c was. grown (is_copied part lines) unlike v.altered r c (λ h e. unlike_are.grows r c (get_or v.altered r None) e) was;
        cells = cells_held laws v part lines cells state unlike v.altered unlike_are is.altered_rows;
        holds = λ charset mask colours r c h b out. ap (seen charset mask colours v.picture.pairs) (cells_held laws v part lines cells state unlike v.altered unlike_are is.altered_rows r c h b out);
      };
    }

-- a range of columns ends before the last one
whole_range : (columns : ℕ) (ranges : List Range) (r c : ℕ) → AreRanges columns ranges → r < length ranges → in_range (get_or ranges r None) c ≡ true → in_range (Some (0, columns - 1)) c ≡ true
whole_range columns ranges r c are h was = inside (get_or ranges r None) (are r None h) was
  where
    ends : (a b c : ℕ) → b < columns → (leb a c && leb c b) ≡ true → (leb 0 c && leb c (columns - 1)) ≡ true
    ends a b c l e = grind (arith, nat_tests)

    inside : (range : Range) → IfSome range (IsRange columns) → in_range range c ≡ true → in_range (Some (0, columns - 1)) c ≡ true
    inside None h e = absurd (let z : ⊥ = (cc) in z)
    inside (Some range) h e = ends range.0 range.1 c h.1 e

-- whole rows hold what their ranges held
marked_grows : (columns first n : ℕ) (ranges : List Range) (r c : ℕ) → AreRanges columns ranges → in_range (get_or ranges r None) c ≡ true → in_range (get_or (ranges_with (λ r. leb first r && ltb r (first + n)) (λ _ _. Some (0, columns - 1)) ranges) r None) c ≡ true
marked_grows columns first n ranges r c are was = grown (λ r. leb first r && ltb r (first + n)) (λ _ _. Some (0, columns - 1)) ranges r c (λ h e. whole_range columns ranges r c are h e) was

marking_holds : (v : VirtualView) (first n : ℕ) → IsVirtual v → HoldsChanges v (marked_rows first n v)
unfolding marked_rows
marking_holds v first n is = record {
  changed = record { grows = λ r c was. marked_grows v.picture.columns first n v.changed r c is.ranges was; cells = λ r c h b out. refl; holds = λ charset mask colours r c h b out. refl };
  altered = record { grows = λ r c was. marked_grows v.picture.columns first n v.altered r c is.altered_ranges was; cells = λ r c h b out. refl; holds = λ charset mask colours r c h b out. refl };
}

-- where every row is whole, no column is outside
nothing_outside : (rows columns : ℕ) (ranges : List Range) (r c : ℕ) → length ranges ≡ rows → r < rows → c < columns → in_range (get_or (ranges_with (λ r. leb 0 r && ltb r (0 + rows)) (λ _ _. Some (0, columns - 1)) ranges) r None) c ≡ false → ⊥
nothing_outside rows columns ranges r c many h b out =
    nowhere (sym (everywhere columns c b) ∙ ap (λ range. in_range range c) (sym (range_of (λ r. leb 0 r && ltb r (0 + rows)) (λ _ _. Some (0, columns - 1)) ranges r None (omega (arith, many)) ∙ ap (λ t. cond t (Some (0, columns - 1)) (get_or ranges r None)) (all_rows rows r h))) ∙ out)
  where
    everywhere : (columns c : ℕ) → c < columns → (leb 0 c && leb c (columns - 1)) ≡ true
    everywhere columns c b = grind (arith, nat_tests)

    nowhere : true ≡ false → ⊥
    nowhere e = (let z : ⊥ = (cc) in z)

    all_rows : (rows r : ℕ) → r < rows → (leb 0 r && ltb r (0 + rows)) ≡ true
    all_rows rows r h = grind (arith, nat_tests)

pair_holds : (v : VirtualView) (pair : ℕ) (foreground background : Option ℕ) → IsVirtual v → HoldsChanges v (with_pair v pair foreground background)
unfolding marked_rows
pair_holds v pair foreground background is = record {
  changed = record {
    grows = λ r c was. marked_grows v.picture.columns 0 v.picture.rows v.changed r c is.ranges was;
    cells = λ r c h b out. refl;
    holds = λ charset mask colours r c h b out. absurd (nothing_outside v.picture.rows v.picture.columns v.changed r c is.rows h b out);
  };
  altered = record {
    grows = λ r c was. marked_grows v.picture.columns 0 v.picture.rows v.altered r c is.altered_ranges was;
    cells = λ r c h b out. refl;
    holds = λ charset mask colours r c h b out. absurd (nothing_outside v.picture.rows v.picture.columns v.altered r c is.altered_rows h b out);
  };
}

nothing_holds : (v : VirtualView) → HoldsChanges v v
nothing_holds v = record {
  changed = record { grows = λ r c was. was; cells = λ r c h b out. refl; holds = λ charset mask colours r c h b out. refl };
  altered = record { grows = λ r c was. was; cells = λ r c h b out. refl; holds = λ charset mask colours r c h b out. refl };
}

-- a call that refuses two things, or does one
either_of : {X : Type 0} (P : X → Type 0) (a b : Bool) (x y z : X) → P x → P y → P z → P (cond a x (cond b y z))
either_of P true b x y z p q r = p
either_of P false true x y z p q r = q
either_of P false false x y z p q r = r

setting_holds : (v : VirtualView) (pair : ℕ) (foreground background : Option ℕ) → IsVirtual v → HoldsChanges v (set_pair_of_call v pair foreground background).0
unfolding set_pair_of_call
setting_holds v pair foreground background is =
    let P : VirtualView × Result (Unit {0}) WinFault → Type 0 = λ x. HoldsChanges v x.0 in
    either_of P (pair == 0 || ltb 63 pair) (is_no_colour foreground || is_no_colour background) (v, Err BadPair) (v, Err BadColour) (with_pair v pair foreground background, Ok tt) (nothing_holds v) (nothing_holds v) (pair_holds v pair foreground background is)

window_holds : GridLaws CellView → (v : VirtualView) (desk : DeskView) (win : ℕ) → IsVirtual v → HoldsChanges v (take_window_call v desk win).0.0
unfolding take_window_call
window_holds laws v desk win is =
    call_holds v desk win window_part touched_line (λ (x : VirtualView × DeskView). HoldsChanges v x.0) (nothing_holds v) (λ i part found e. taking_holds laws v part (touched_line (window_at desk i)) (at desk i) (window_at desk i).state is)

pad_holds : GridLaws CellView → (v : VirtualView) (desk : DeskView) (win row column top left bottom right : ℕ) → IsVirtual v → HoldsChanges v (take_pad_call v desk win row column top left bottom right).0.0
unfolding take_pad_call
pad_holds laws v desk win row column top left bottom right is =
    call_holds v desk win (pad_part desk.rows desk.columns row column top left bottom right) (λ _ _. true) (λ (x : VirtualView × DeskView). HoldsChanges v x.0) (nothing_holds v) (λ i part found e. taking_holds laws v part (λ _. true) (at desk i) (window_at desk i).state is)

abbrev the_none : Range
the_none = None

-- no row has a range among none
none_left : (count r : ℕ) → get_or (replicate count the_none) r the_none ≡ the_none
none_left count r = elim (less_or_not r count) [
  | inl h ↦ get_or-replicate count r the_none the_none h
  | inr h ↦ get_or_past (replicate count the_none) r the_none (let e : length (replicate count the_none) ≡ count = length-replicate count the_none in omega (arith, e))
]

pub holding : GridLaws CellView → RangesHoldChanges
holding laws = record { window = window_holds laws; pad = pad_holds laws; pair = setting_holds; mark = marking_holds; settle = λ v r. (none_left (length v.changed) r, none_left (length v.altered) r) }

-- a place outside a part that is taken
part_outside : GridLaws CellView → (v : VirtualView) (part : ShownPart) (lines : ℕ → Bool) (cells : ℕ → ℕ → CellView) (state : WindowState) (r c : ℕ) → r < v.picture.rows → c < v.picture.columns → IsOutside part.top part.left part.rows part.columns r c
    → cell_at (part_taken part lines cells state v) r c ≡ cell_at v r c
part_outside laws v part lines cells state r c h b out =
    cell_taken laws v part lines cells state r c h b ∙ kept part.top part.left part.rows part.columns r c (lines (part.row + (r - part.top))) _ _ out
  where
    kept : (top left rows columns r c : ℕ) (t : Bool) (x y : CellView) → IsOutside top left rows columns r c → cond ((leb top r && ltb r (top + rows) && t) && leb left c && ltb c (left + columns)) x y ≡ y
    kept top left rows columns r c t x y (inl (inl o)) = grind (arith, nat_tests)
    kept top left rows columns r c t x y (inl (inr o)) = grind (arith, nat_tests)
    kept top left rows columns r c t x y (inr (inl o)) = grind (arith, nat_tests)
    kept top left rows columns r c t x y (inr (inr o)) = grind (arith, nat_tests)

ok_is : {A : Type 0} (x y : A) (o : Result A WinFault) → o ≡ Ok x → o ≡ Ok y → x ≡ y
ok_is x y o e f = (cc)

window_outside : GridLaws CellView → (v : VirtualView) (desk : DeskView) (win i : ℕ) (place : ℕ × ℕ) (r c : ℕ) → index_of desk win ≡ Ok i → (window_at desk i).frame.origin ≡ Some place → r < v.picture.rows → c < v.picture.columns
    → IsOutside place.0 place.1 (window_at desk i).frame.area.rows (window_at desk i).frame.area.columns r c → cell_at (take_window_call v desk win).0.0 r c ≡ cell_at v r c
unfolding take_window_call
window_outside laws v desk win i place r c here origin h b out =
    call_holds v desk win window_part touched_line (λ (x : VirtualView × DeskView). cell_at x.0 r c ≡ cell_at v r c) refl (λ k part found e.
    let same : i ≡ k = ok_is i k (index_of desk win) here found in
    let P : ℕ → Type 0 = λ n. IsOutside place.0 place.1 (window_at desk n).frame.area.rows (window_at desk n).frame.area.columns r c in
    let there : (window_at desk k).frame.origin ≡ Some place = ap (λ n. (window_at desk n).frame.origin) (sym same) ∙ origin in
    let whole : ShownPart = record { row = 0; column = 0; rows = (window_at desk k).frame.area.rows; columns = (window_at desk k).frame.area.columns; top = place.0; left = place.1 } in
    let is : whole ≡ part = ok_is whole part (window_part (window_at desk k)) (ap (part_at (window_at desk k).frame.area) there) e in
    let Q : ShownPart → Type 0 = λ p. IsOutside p.top p.left p.rows p.columns r c in
    part_outside laws v part (touched_line (window_at desk k)) (at desk k) (window_at desk k).state r c h b (subst Q is (subst P same out)))

-- what a pad's part is where nothing is refused
part_is : (a b c d : Bool) (made part : ShownPart) → cond a (Err NotPad) (cond b (Err OffScreen) (cond c (Err OutOfWindow) (cond d (Err OffScreen) (Ok made)))) ≡ Ok part → made ≡ part
part_is true b c d made part e = absurd (let z : ⊥ = (cc) in z)
part_is false true c d made part e = absurd (let z : ⊥ = (cc) in z)
part_is false false true d made part e = absurd (let z : ⊥ = (cc) in z)
part_is false false false true made part e = absurd (let z : ⊥ = (cc) in z)
part_is false false false false made part e = (cc)

pad_outside : GridLaws CellView → (v : VirtualView) (desk : DeskView) (win row column top left bottom right r c : ℕ) → r < v.picture.rows → c < v.picture.columns → IsOutside top left (bottom + 1 - top) (right + 1 - left) r c
    → cell_at (take_pad_call v desk win row column top left bottom right).0.0 r c ≡ cell_at v r c
unfolding take_pad_call pad_part
pad_outside laws v desk win row column top left bottom right r c h b out =
    call_holds v desk win (pad_part desk.rows desk.columns row column top left bottom right) (λ _ _. true) (λ (x : VirtualView × DeskView). cell_at x.0 r c ≡ cell_at v r c) refl (λ k part found e.
    let made : ShownPart = record { row = row; column = column; rows = bottom + 1 - top; columns = right + 1 - left; top = top; left = left } in
    let Q : ShownPart → Type 0 = λ p. IsOutside p.top p.left p.rows p.columns r c in
    part_outside laws v part (λ _. true) (at desk k) (window_at desk k).state r c h b (subst Q (part_is _ _ _ _ made part e) out))

pub leaving : GridLaws CellView → OutsideStays
leaving laws = record { window = window_outside laws; pad = pad_outside laws }

-- no line is copied where none is touched
pub changing_nothing : GridLaws CellView → UntouchedChangesNothing
unfolding take_window_call part_copied
changing_nothing laws v desk win i is here untouched =
    call_holds v desk win window_part touched_line (λ (x : VirtualView × DeskView). x.0.picture.lines ≡ v.picture.lines) refl (λ k part found e.
    let same : i ≡ k = ok_is i k (index_of desk win) here found in
    let none : (line : ℕ) → touched_line (window_at desk k) line ≡ false = λ line. ap (λ n. touched_line (window_at desk n) line) (sym same) ∙ untouched line in
    grid_same v.picture.rows v.picture.columns _ _ (λ r c h b. kept part.top part.left part.rows part.columns r c (touched_line (window_at desk k) (part.row + (r - part.top))) _ _ (none (part.row + (r - part.top))))
    ∙ sym (laws.places blank_cell v.picture.rows v.picture.columns v.picture.lines is.picture.grid))
  where
    kept : (top left rows columns r c : ℕ) (t : Bool) (x y : CellView) → t ≡ false → cond ((leb top r && ltb r (top + rows) && t) && leb left c && ltb c (left + columns)) x y ≡ y
    kept top left rows columns r c t x y e = grind (arith, nat_tests)

-- the size of a desk of which lines were taken
lines_keep_size : (desk : DeskView) (win first n : ℕ) → ((take_lines_call desk win first n).0.rows ≡ desk.rows) × ((take_lines_call desk win first n).0.columns ≡ desk.columns)
unfolding take_lines_call
lines_keep_size desk win first n = by_index (index_of desk win)
  where
    body : ℕ → DeskView × Result Bool WinFault
    body i =
        let w : WindowView = window_at desk i in
        cond (leb (first + n) w.frame.area.rows) (with_state (with_window desk i (marked first (first + n) false w)) i (record w.state { clear_ok = false }), Ok w.state.clear_ok) (desk, Err OutOfWindow)

    either : (t : Bool) (i : ℕ) → let w : WindowView = window_at desk i in let x : DeskView × Result Bool WinFault = cond t (with_state (with_window desk i (marked first (first + n) false w)) i (record w.state { clear_ok = false }), Ok w.state.clear_ok) (desk, Err OutOfWindow) in (x.0.rows ≡ desk.rows) × (x.0.columns ≡ desk.columns)
    either true i = (refl, refl)
    either false i = (refl, refl)

    by_index : (o : Result ℕ WinFault) → ((on_window desk o body).0.rows ≡ desk.rows) × ((on_window desk o body).0.columns ≡ desk.columns)
    by_index (Err fault) = (refl, refl)
    by_index (Ok i) = either (leb (first + n) (window_at desk i).frame.area.rows) i

same_sizes : (v : VirtualView) (desk : DeskView) → SameSizes (v, desk) (v, desk)
same_sizes v desk = record { rows = refl; columns = refl; desk_rows = refl; desk_columns = refl }

taken_sizes : (v : VirtualView) (desk : DeskView) (win i : ℕ) (part : ShownPart) (lines : ℕ → Bool) → SameSizes (v, desk) (taken v desk win i part lines)
unfolding part_copied
taken_sizes v desk win i part lines = let kept = lines_keep_size desk win part.row part.rows in record { rows = refl; columns = refl; desk_rows = kept.0; desk_columns = kept.1 }

window_sizes : (v : VirtualView) (desk : DeskView) (win : ℕ) → SameSizes (v, desk) (take_window_call v desk win).0
unfolding take_window_call
window_sizes v desk win = call_holds v desk win window_part touched_line (λ (x : VirtualView × DeskView). SameSizes (v, desk) x) (same_sizes v desk) (λ i part found e. taken_sizes v desk win i part (touched_line (window_at desk i)))

pad_sizes : (v : VirtualView) (desk : DeskView) (win row column top left bottom right : ℕ) → SameSizes (v, desk) (take_pad_call v desk win row column top left bottom right).0
unfolding take_pad_call
pad_sizes v desk win row column top left bottom right =
    call_holds v desk win (pad_part desk.rows desk.columns row column top left bottom right) (λ _ _. true) (λ (x : VirtualView × DeskView). SameSizes (v, desk) x) (same_sizes v desk) (λ i part found e. taken_sizes v desk win i part (λ _. true))

marked_sizes : (v : VirtualView) (desk : DeskView) (first n : ℕ) → SameSizes (v, desk) (marked_rows first n v, desk)
unfolding marked_rows
marked_sizes v desk first n = record { rows = refl; columns = refl; desk_rows = refl; desk_columns = refl }

pair_sizes : (v : VirtualView) (desk : DeskView) (pair : ℕ) (foreground background : Option ℕ) → SameSizes (v, desk) ((set_pair_of_call v pair foreground background).0, desk)
unfolding set_pair_of_call marked_rows
pair_sizes v desk pair foreground background =
    let P : VirtualView × Result (Unit {0}) WinFault → Type 0 = λ x. SameSizes (v, desk) (x.0, desk) in
    either_of P (pair == 0 || ltb 63 pair) (is_no_colour foreground || is_no_colour background) (v, Err BadPair) (v, Err BadColour) (with_pair v pair foreground background, Ok tt) (same_sizes v desk) (same_sizes v desk)
    (record { rows = refl; columns = refl; desk_rows = refl; desk_columns = refl })

pub keeping : SizesStay
keeping = record { window = window_sizes; pad = pad_sizes; pair = pair_sizes; mark = marked_sizes }
