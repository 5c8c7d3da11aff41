-- The rows that differ, from the top.
use Rattle.std.proofs.Common.{◌≡◌, ℕ, zero, suc, ◌+◌, ◌-◌, ◌<◌, ◌≤◌, ◌==◌, ltb, Bool, true, false, not, ◌&&◌, refl, sym, ◌∙◌, ap, subst, arith, List, [], ◌∷◌, ◌++◌, length, length-append, filter, Option, Some, ◌⊎◌, inl, inr, if◌then◌else◌}
use Rattle.std.specs.List.{flat_map}
use Rattle.std.proofs.lemmas.Bool.Decides.{nat_tests}
use Rattle.std.proofs.lemmas.List.{get_or_push, get_or_append_left}
use Rattle.scr_cells.specs.Grids.{grid_row}
use Rattle.scr_cells.specs.LookViews.{LookView}
use Rattle.scr_cells.specs.PictureViews.{PictureView}
use Rattle.scr_memory.specs.Memories.{MemoryView, is_known_row}
use Rattle.scr_planner.specs.declared.rows.RowChange.{RowChange}
use Rattle.scr_term.specs.Operations.Profiles.{ProfileView}
use Rattle.scr_virtual.specs.Ranges.{in_range}
use Rattle.scr_virtual.specs.VirtualViews.{VirtualView}
use Rattle.scr_plan.proofs.JoinLaws.{differs_same, known_row}
use Rattle.scr_plan.proofs.JoinedRowLaws.{all_of, left_or_not, rows_go}
use Rattle.scr_plan.proofs.PartLaws.{look_refl, none_in_part, outside_above, outside_below, rows_same}
use Rattle.scr_plan.specs.Code.Joinings.{Continues, joined_at}
use Rattle.scr_plan.specs.Code.Painters.{painter_of, row_differs}
use Rattle.scr_plan.specs.Code.Planning.{AreChanges, IsChange, IsSameRow, change_at, row_after, row_at}
use Rattle.scr_plan.specs.Repaints.{ShowsOutside, differing, differs, is_none_left, look_eq, look_in}
use Rattle.scr_plan.specs.Scratch.{look_at, places, row_places}
use Rattle.scr_plan.specs.declared.painting.Painter.{Painter}
use Rattle.scr_plan.specs.declared.drafts.Draft.{Draft}

before_or_not : (r row : ℕ) (A : Type 0) → (r < row → A) → (row ≤ r → A) → A
before_or_not r row A before behind = by (ltb r row) refl
  where
    by : (b : Bool) → ltb r row ≡ b → A
    by true e = before (grind (arith, nat_tests))
    by false e = behind (grind (arith, nat_tests))

-- ---- finding them

pub no_changes : (profile : ProfileView) (picture : PictureView) (memory : MemoryView) → AreChanges profile picture memory [] 0
no_changes profile picture memory = record {
  each = λ k below. absurd (omega (arith, below));
  order = λ k below. absurd (omega (arith, below));
  same = none;
  last = omega arith;
}
  where
    none : (k r : ℕ) → k ≤ 0 → row_after [] k ≤ r → r < row_at [] 0 k → IsSameRow profile picture memory r
    none zero r few low high = absurd (omega (arith, high))
    none (suc k) r few low high = absurd (omega (arith, few))

-- rows that do not differ
pub changes_further : (profile : ProfileView) (picture : PictureView) (memory : MemoryView) (changes : List RowChange) (m n : ℕ) → m ≤ n → ((r : ℕ) → m ≤ r → r < n → IsSameRow profile picture memory r)
    → AreChanges profile picture memory changes m → AreChanges profile picture memory changes n
changes_further profile picture memory changes m n more none are = record {
  each = are.each;
  order = are.order;
  same = λ k r few low high. by k r few low (ltb k (length changes)) refl high;
  last = omega (arith, are.last, more);
}
  where
    by : (k r : ℕ) → k ≤ length changes → row_after changes k ≤ r → (b : Bool) → ltb k (length changes) ≡ b → r < (if b then (change_at changes k).row else n) → IsSameRow profile picture memory r
    by k r few low true is high = are.same k r few low (subst (λ b. r < (if b then (change_at changes k).row else m)) (sym is) high)
    by k r few low false is high = before_or_not r m (IsSameRow profile picture memory r) (λ under. are.same k r few low (subst (λ b. r < (if b then (change_at changes k).row else m)) (sym is) under)) (λ over. none r over high)

-- one that differs
pub changes_more : (profile : ProfileView) (picture : PictureView) (memory : MemoryView) (changes : List RowChange) (m : ℕ) (change : RowChange) → change.row ≡ m → IsChange profile picture memory change
    → AreChanges profile picture memory changes m → AreChanges profile picture memory (changes ++ change ∷ []) (m + 1)
changes_more profile picture memory changes m change at is are = record {
  each = λ k below. before_or_not k n (IsChange profile picture memory (change_at all k)) (λ under. subst (IsChange profile picture memory) (sym (old k under)) (are.each k under)) (λ over. subst (IsChange profile picture memory) (sym (new k (omega (arith, over, below, whole)))) is);
  order = λ k below. before_or_not k n (row_after all k ≤ (change_at all k).row) (λ under. subst (λ a. a ≤ (change_at all k).row) (sym (after k (omega (arith, under)))) (subst (λ (c : RowChange). row_after changes k ≤ c.row) (sym (old k under)) (are.order k under)))
      (λ over. let here : n ≡ k = omega (arith, over, below, whole) in subst (λ k. row_after all k ≤ (change_at all k).row) here (subst (λ (c : RowChange). row_after all n ≤ c.row) (sym (new n refl)) (subst (λ a. a ≤ change.row) (sym (after n (omega arith))) (omega (arith, at, are.last)))));
  same = λ k r few low high. before_or_not k n (IsSameRow profile picture memory r)
      (λ under. are.same k r (omega (arith, under)) (subst (λ a. a ≤ r) (after k (omega (arith, under))) low) (subst (λ a. r < a) (inner k under) high))
      (λ over. last k r few over low high);
  last = omega (arith, at_last);
}
  where
    n : ℕ
    n = length changes

    all : List RowChange
    all = changes ++ change ∷ []

    whole : length all ≡ n + 1
    whole = length-append changes (change ∷ [])

    old : (k : ℕ) → k < n → change_at all k ≡ change_at changes k
    old k under = get_or_append_left changes (change ∷ []) (record { row = 0; start = 0; end = 0 }) k under

    new : (k : ℕ) → n ≡ k → change_at all k ≡ change
    new k here = get_or_push changes change (record { row = 0; start = 0; end = 0 }) k here

    after : (k : ℕ) → k ≤ n → row_after all k ≡ row_after changes k
    after zero few = refl
    after (suc k) few = ap (λ (c : RowChange). c.row + 1) (old k (omega (arith, few)))

    at_last : row_after all (length all) ≡ m + 1
    at_last =
        let more : length all ≡ suc n = omega (arith, whole) in
        ap (row_after all) more ∙ ap (λ (c : RowChange). c.row + 1) (new n refl) ∙ ap (λ r. r + 1) at

    inner : (k : ℕ) → k < n → row_at all (m + 1) k ≡ row_at changes m k
    inner k under =
        let one : ltb k (length all) ≡ true = grind (arith, nat_tests, whole) in
        let other : ltb k n ≡ true = grind (arith, nat_tests) in
        ap (λ b. if b then (change_at all k).row else m + 1) one ∙ ap (λ (c : RowChange). c.row) (old k under) ∙ sym (ap (λ b. if b then (change_at changes k).row else m) other)

    last : (k r : ℕ) → k ≤ length all → n ≤ k → row_after all k ≤ r → r < row_at all (m + 1) k → IsSameRow profile picture memory r
    last k r few over low high = by (ltb k (length all)) refl high
      where
        by : (b : Bool) → ltb k (length all) ≡ b → r < (if b then (change_at all k).row else m + 1) → IsSameRow profile picture memory r
        by true inside high =
            let here : n ≡ k = grind (arith, nat_tests, whole) in
            let none : ltb n n ≡ false = grind (arith, nat_tests) in
            let under : r < m = omega (arith, subst (λ (c : RowChange). r < c.row) (new k here) high, at) in
            are.same n r (omega arith) (subst (λ a. a ≤ r) (after n (omega arith)) (subst (λ k. row_after all k ≤ r) (sym here) low)) (subst (λ b. r < (if b then (change_at changes n).row else m)) (sym none) under)
        by false outside high =
            let end : k ≡ length all = grind (arith, nat_tests) in
            absurd (omega (arith, low, high, subst (λ k. row_after all k ≡ m + 1) (sym end) at_last))

-- how a row differs that is known, and is looked at between two columns
pub change_is : (ranges : VirtualView → ℕ → Option (ℕ × ℕ)) (profile : ProfileView) (memory : MemoryView) (virtual : VirtualView) → ShowsOutside ranges profile memory virtual → (painter : Painter) → painter ≡ painter_of profile
    → (r from last start : ℕ) (looks : List LookView) → r < virtual.picture.rows → last < virtual.picture.columns → is_known_row memory r ≡ true → ranges virtual r ≡ Some (from, last) → looks ≡ grid_row memory.state.grid r → start < last + 1
    → ((c : ℕ) → from ≤ c → c < start → row_differs painter virtual.picture (Some looks) (r, c) ≡ false) → row_differs painter virtual.picture (Some looks) (r, start) ≡ true
    → IsChange profile virtual.picture memory (record { row = r; start = start; end = last + 1 })
change_is ranges profile memory virtual same painter who r from last start looks high narrow known range are some before first = record {
  row = high;
  some = some;
  inside = omega (arith, narrow);
  first = here start ∙ first;
  outside = by;
}
  where
    d : ℕ → Bool
    d c = differs profile virtual.picture memory (r, c)

    here : (c : ℕ) → d c ≡ row_differs painter virtual.picture (Some looks) (r, c)
    here c = sym (ap (λ p. row_differs p virtual.picture (Some looks) (r, c)) who ∙ differs_same profile virtual.picture memory r (Some looks) (known_row memory r looks known are) c)

    shown : (c : ℕ) → c < virtual.picture.columns → in_range (Some (from, last)) c ≡ false → d c ≡ false
    shown c wide out =
        ap (λ b. not (b && look_eq (look_in memory (r, c)) (look_at profile virtual.picture (r, c)))) known
        ∙ ap (λ look. not (look_eq look (look_at profile virtual.picture (r, c)))) (same r c high wide known (ap (λ range. in_range range c) range ∙ out))
        ∙ ap not (look_refl (look_at profile virtual.picture (r, c)))

    by : (c : ℕ) → (c < start) ⊎ (last + 1 ≤ c) → c < virtual.picture.columns → d c ≡ false
    by c (inr over) wide = shown c wide (outside_above from last c (omega (arith, over)))
    by c (inl under) wide = before_or_not c from (d c ≡ false) (λ below. shown c wide (outside_below from last c below)) (λ over. here c ∙ before c over under)

-- ---- going through them

pub after_next : (changes : List RowChange) (k : ℕ) → row_after changes (k + 1) ≡ (change_at changes k).row + 1
after_next changes k = let next : k + 1 ≡ suc k = omega arith in ap (row_after changes) next

-- what they add to the joined repaint, after what the rows before them do
gap_goes : (profile : ProfileView) (picture : PictureView) (memory : MemoryView) (m n : ℕ) → m ≤ n → ((r : ℕ) → m ≤ r → r < n → IsSameRow profile picture memory r) → (old mid : Draft)
    → Continues profile old mid (flat_map (joined_at profile picture memory) (filter (differs profile picture memory) (places m picture.columns)))
    → Continues profile old mid (flat_map (joined_at profile picture memory) (filter (differs profile picture memory) (places n picture.columns)))
gap_goes profile picture memory m n more same old mid goes =
    let d : ℕ × ℕ → Bool = differs profile picture memory in
    let whole : n ≡ m + (n - m) = omega (arith, more) in
    all_of profile picture memory n m picture.columns old mid
    (ap (λ k. filter d (places k picture.columns)) whole ∙ rows_same d m (n - m) picture.columns (λ r low below. none_in_part d 0 picture.columns r (λ c l wide. same r low (omega (arith, below, more)) c (omega (arith, wide))))) goes

pub change_goes : (profile : ProfileView) (picture : PictureView) (memory : MemoryView) (changes : List RowChange) (end : ℕ) → AreChanges profile picture memory changes end → (k : ℕ) → k < length changes → (old mid new : Draft)
    → Continues profile old mid (flat_map (joined_at profile picture memory) (filter (differs profile picture memory) (places (row_after changes k) picture.columns)))
    → Continues profile mid new (flat_map (joined_at profile picture memory) (filter (differs profile picture memory) (row_places picture.columns (change_at changes k).row)))
    → Continues profile old new (flat_map (joined_at profile picture memory) (filter (differs profile picture memory) (places (row_after changes (k + 1)) picture.columns)))
change_goes profile picture memory changes end are k inside old mid new before own =
    let row : ℕ = (change_at changes k).row in
    let one : ltb k (length changes) ≡ true = grind (arith, nat_tests) in
    subst (λ n. Continues profile old new (flat_map (joined_at profile picture memory) (filter (differs profile picture memory) (places n picture.columns)))) (sym (after_next changes k))
    (rows_go profile picture memory row picture.columns old mid new
    (gap_goes profile picture memory (row_after changes k) row (are.order k inside) (λ r low high. are.same k r (omega (arith, inside)) low (subst (λ b. r < (if b then row else end)) (sym one) high)) old mid before) own)

pub changes_go : (profile : ProfileView) (picture : PictureView) (memory : MemoryView) (changes : List RowChange) (end : ℕ) → AreChanges profile picture memory changes end → (old mid : Draft)
    → Continues profile old mid (flat_map (joined_at profile picture memory) (filter (differs profile picture memory) (places (row_after changes (length changes)) picture.columns)))
    → Continues profile old mid (flat_map (joined_at profile picture memory) (filter (differs profile picture memory) (places end picture.columns)))
changes_go profile picture memory changes end are old mid goes =
    let none : ltb (length changes) (length changes) ≡ false = grind (arith, nat_tests) in
    gap_goes profile picture memory (row_after changes (length changes)) end are.last (λ r low high. are.same (length changes) r (omega arith) low (subst (λ b. r < (if b then (change_at changes (length changes)).row else end)) (sym none) high)) old mid goes

-- the rows before a change are rows of the screen
pub few_rows : (profile : ProfileView) (picture : PictureView) (memory : MemoryView) (changes : List RowChange) → AreChanges profile picture memory changes picture.rows → (k : ℕ) → k < length changes → row_after changes k ≤ picture.rows
few_rows profile picture memory changes are k inside = omega (arith, are.order k inside, (are.each k inside).row)

-- whether anything differs
pub changes_left : (profile : ProfileView) (picture : PictureView) (memory : MemoryView) (changes : List RowChange) → AreChanges profile picture memory changes picture.rows → is_none_left (differing profile picture memory) ≡ (length changes == 0)
changes_left profile picture memory [] are = left_or_not profile picture memory false (λ e r c high wide. are.same 0 r (omega arith) (omega arith) high c wide) (λ e. (cc))
changes_left profile picture memory (change ∷ more) are =
    let is = are.each 0 (omega arith) in
    let some : false ≡ (length (change ∷ more) == 0) = grind (arith, nat_tests) in
    left_or_not profile picture memory true (λ e. (cc)) (λ e. (change.row, change.start, is.row, omega (arith, is.some, is.inside), is.first)) ∙ some
