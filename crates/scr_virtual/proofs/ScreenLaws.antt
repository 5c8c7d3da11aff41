-- Steps on a virtual screen, and what holds of every one after them.
use Rattle.std.proofs.Common.{◌≡◌, ℕ, Bool, ◌+◌, ◌-◌, ◌<◌, sym, ◌∙◌, ap, arith, subst, List, length, get_or, set, None, Some, leb, ltb, ◌&&◌}
use Rattle.std.proofs.lemmas.List.{length-set}
use Rattle.std.proofs.lemmas.List.Elements.{All-set}
use Rattle.std.proofs.lemmas.Bool.Decides.{nat_tests}
use Rattle.std.specs.Prelude.{IfSome, min}
use Rattle.scr_cells.specs.CellViews.{CellView}
use Rattle.scr_cells.specs.Grids.{grid_with_run}
use Rattle.scr_cells.specs.PictureViews.{IsPicture, PictureView}
use Rattle.scr_virtual.specs.Code.Lines.{line_copied, line_unlike}
use Rattle.scr_virtual.specs.Ranges.{AreRanges, IsRange, joined, joined_by, ranges_with}
use Rattle.scr_virtual.specs.VirtualViews.{IsVirtual, VirtualView, marked_rows}
use Rattle.scr_virtual.proofs.RangeLaws.{Range, as_many, joined_is_range, ranges_are_ranges, rows_alike}

abbrev pub made : PictureView → Bool → (changed altered : List Range) → VirtualView
made picture repaint changed altered = record { picture = picture; repaint = repaint; changed = changed; altered = altered }

-- a row's range that holds another too is one
row_joined : (columns row : ℕ) (other : Range) (ranges new : List Range) → AreRanges columns ranges → IfSome other (IsRange columns) → row < length ranges → new ≡ set ranges row (joined other (get_or ranges row None)) → AreRanges columns new
row_joined columns row other ranges new h o row_in is =
    let P : Range → Type 0 = λ r. IfSome r (IsRange columns) in
    let Q : List Range → Type 0 = λ xs. AreRanges columns xs in
    subst Q (sym is) (All-set P ranges row (joined other (get_or ranges row None)) (joined_is_range columns other (get_or ranges row None) o (h row None row_in)) h)

pub copied_line_is_virtual : (picture new : PictureView) (repaint : Bool) (changed altered now_changed now_altered : List Range) (row : ℕ) (column : ℕ) (cells : List CellView) (copied unlike : Range) → IsVirtual (made picture repaint changed altered)
    → IsPicture new → new ≡ record picture { lines = grid_with_run picture.lines row column cells } → IfSome copied (IsRange picture.columns) → IfSome unlike (IsRange picture.columns) → row < picture.rows
    → now_changed ≡ set changed row (joined copied (get_or changed row None)) → now_altered ≡ set altered row (joined unlike (get_or altered row None)) → IsVirtual (made new repaint now_changed now_altered)
copied_line_is_virtual picture new repaint changed altered now_changed now_altered row column cells copied unlike h good new_is is_copied is_unlike row_in changed_is altered_is =
    let rows : picture.rows ≡ new.rows = sym (ap (λ (p : PictureView). p.rows) new_is) in
    let columns : picture.columns ≡ new.columns = sym (ap (λ (p : PictureView). p.columns) new_is) in
    record {
      picture = good;
      rows = ap length changed_is ∙ length-set changed row _ ∙ h.rows ∙ rows;
      ranges = subst (λ n. AreRanges n now_changed) columns (row_joined picture.columns row copied changed now_changed h.ranges is_copied (omega (arith, h.rows)) changed_is);
      altered_rows = ap length altered_is ∙ length-set altered row _ ∙ h.altered_rows ∙ rows;
      altered_ranges = subst (λ n. AreRanges n now_altered) columns (row_joined picture.columns row unlike altered now_altered h.altered_ranges is_unlike (omega (arith, h.altered_rows)) altered_is);
    }

pub copied_line : (picture new : PictureView) (repaint : Bool) (changed altered now_changed now_altered : List Range) (v : VirtualView) (row column last : ℕ) (cells : List CellView) (unlike : Range) → made picture repaint changed altered ≡ v
    → new ≡ record picture { lines = grid_with_run picture.lines row column cells } → last ≡ column + (length cells - 1) → now_changed ≡ set changed row (joined (Some (column, last)) (get_or changed row None))
    → now_altered ≡ set altered row (joined unlike (get_or altered row None)) → ((range : Range) → joined unlike range ≡ joined_by (line_unlike row column cells v) range) → made new repaint now_changed now_altered ≡ line_copied row column cells v
unfolding line_copied
copied_line picture new repaint changed altered now_changed now_altered v row column last cells unlike is new_is last_is changed_is altered_is same =
    let of_screen : joined_by (line_unlike row column cells v) (get_or altered row None) ≡ joined_by (line_unlike row column cells (made picture repaint changed altered)) (get_or altered row None) = ap (λ w. joined_by (line_unlike row column cells w) (get_or altered row None)) (sym is) in
    let wider : now_changed ≡ set changed row (joined (Some (column, column + (length cells - 1))) (get_or changed row None)) = changed_is ∙ ap (λ n. set changed row (joined (Some (column, n)) (get_or changed row None))) last_is in
    let other : now_altered ≡ set altered row (joined_by (line_unlike row column cells (made picture repaint changed altered)) (get_or altered row None)) = altered_is ∙ ap (set altered row) (same (get_or altered row None) ∙ of_screen) in
    (λ i. made (new_is i) repaint (wider i) (other i)) ∙ ap (line_copied row column cells) is

-- so many rows from one on, as many as there are
rows_there : (row n first end rows r : ℕ) → first ≡ min row rows → end ≡ first + min n (rows - first) → r < rows → (leb first r && ltb r end) ≡ (leb row r && ltb r (row + n))
rows_there row n first end rows r first_is end_is h = grind (arith, nat_tests)

pub marked_screen : (picture : PictureView) (repaint : Bool) (changed altered now_changed now_altered : List Range) (v : VirtualView) (row n first count rows columns : ℕ) → made picture repaint changed altered ≡ v → IsVirtual (made picture repaint changed altered)
    → rows ≡ picture.rows → columns ≡ picture.columns → first ≡ min row rows → count ≡ min n (rows - first) → now_changed ≡ ranges_with (λ r. leb first r && ltb r (first + count)) (λ _ _. Some (0, columns - 1)) changed
    → now_altered ≡ ranges_with (λ r. leb first r && ltb r (first + count)) (λ _ _. Some (0, columns - 1)) altered → made picture repaint now_changed now_altered ≡ marked_rows row n v
unfolding marked_rows
marked_screen picture repaint changed altered now_changed now_altered v row n first count rows columns is h rows_is columns_is first_is count_is changed_is altered_is =
    let there : (ranges now : List Range) → length ranges ≡ picture.rows → now ≡ ranges_with (λ r. leb first r && ltb r (first + count)) (λ _ _. Some (0, columns - 1)) ranges → now ≡ ranges_with (λ r. leb row r && ltb r (row + n)) (λ _ _. Some (0, picture.columns - 1)) ranges
    = λ ranges now many now_is.
    now_is ∙ rows_alike (λ r. leb first r && ltb r (first + count)) (λ r. leb row r && ltb r (row + n)) (λ _ _. Some (0, columns - 1)) ranges (λ r l. rows_there row n first (first + count) rows r first_is (omega (arith, count_is)) (omega (arith, many, rows_is)))
    ∙ ap (λ c. ranges_with (λ r. leb row r && ltb r (row + n)) (λ _ _. Some (0, c - 1)) ranges) columns_is in
    let ranges = there changed now_changed h.rows changed_is in
    let others = there altered now_altered h.altered_rows altered_is in
    (λ i. made picture repaint (ranges i) (others i)) ∙ ap (marked_rows row n) is

-- every range is one still after whole rows were put
marked_is_virtual : (v : VirtualView) (row n : ℕ) → IsVirtual v → IsVirtual (marked_rows row n v)
unfolding marked_rows
marked_is_virtual v row n h = record {
  picture = h.picture;
  rows = as_many (λ r. leb row r && ltb r (row + n)) (λ _ _. Some (0, v.picture.columns - 1)) v.changed ∙ h.rows;
  ranges = ranges_are_ranges v.picture.columns (λ r. leb row r && ltb r (row + n)) (λ _ _. Some (0, v.picture.columns - 1)) v.changed (λ r range is. whole) h.ranges;
  altered_rows = as_many (λ r. leb row r && ltb r (row + n)) (λ _ _. Some (0, v.picture.columns - 1)) v.altered ∙ h.altered_rows;
  altered_ranges = ranges_are_ranges v.picture.columns (λ r. leb row r && ltb r (row + n)) (λ _ _. Some (0, v.picture.columns - 1)) v.altered (λ r range is. whole) h.altered_ranges;
}
  where
    whole : IsRange v.picture.columns (0, v.picture.columns - 1)
    whole = (omega arith, omega (arith, h.picture.size.some_columns))

pub marked_screen_is_virtual : (picture : PictureView) (repaint : Bool) (changed altered now_changed now_altered : List Range) (v : VirtualView) (row n first count rows columns : ℕ) → made picture repaint changed altered ≡ v → IsVirtual (made picture repaint changed altered)
    → rows ≡ picture.rows → columns ≡ picture.columns → first ≡ min row rows → count ≡ min n (rows - first) → now_changed ≡ ranges_with (λ r. leb first r && ltb r (first + count)) (λ _ _. Some (0, columns - 1)) changed
    → now_altered ≡ ranges_with (λ r. leb first r && ltb r (first + count)) (λ _ _. Some (0, columns - 1)) altered → IsVirtual (made picture repaint now_changed now_altered)
marked_screen_is_virtual picture repaint changed altered now_changed now_altered v row n first count rows columns is h rows_is columns_is first_is count_is changed_is altered_is =
    let P : VirtualView → Type 0 = λ u. IsVirtual u in
    subst P (sym (marked_screen picture repaint changed altered now_changed now_altered v row n first count rows columns is h rows_is columns_is first_is count_is changed_is altered_is)) (marked_is_virtual v row n (subst P is h))
