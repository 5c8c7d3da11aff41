-- Columns in which two rows of cells differ, and the range that holds them.
use Rattle.std.proofs.Common.{◌≡◌, ◌≢◌, ◌⊎◌, inl, inr, ℕ, Bool, true, false, ◌+◌, ◌-◌, ◌<◌, ◌≤◌, ◌==◌, ◌&&◌, sym, ◌∙◌, ap, refl, arith, subst, zero, suc, List, [], ◌∷◌, length, get_or, cond, leb, not, None, Some, drop, take}
use Rattle.std.specs.Prelude.{max, min, filter}
use Rattle.std.specs.List.{range_with_len}
use Rattle.std.proofs.lemmas.List.{get_or-drop, get_or-take, length-drop, length-take, length-take-le}
use Rattle.std.proofs.lemmas.Bool.Decides.{nat_tests}
use Rattle.scr_cells.specs.CellViews.{CellView, blank_cell}
use Rattle.scr_cells.specs.Differences.{IsFirstDifference, IsLastDifference, IsSameAt, DiffersAt}
use Rattle.scr_virtual.specs.Ranges.{IsRange, in_range, joined, joined_by}
use Rattle.scr_virtual.specs.Taking.{cell_eq, columns_unlike}
use Rattle.scr_virtual.proofs.RangeLaws.{Range, same_or_not}

-- ---- cells

pub same_cell : (a b : CellView) → a ≡ b → cell_eq a b ≡ true
same_cell a b e = ap (λ c. cell_eq a c) (sym e) ∙ alike a.character a.attrs a.pair
  where
    alike : (x y z : ℕ) → (x == x && y == y && z == z) ≡ true
    alike x y z = grind (arith, nat_tests)

pub one_cell : (a b : CellView) → cell_eq a b ≡ true → a ≡ b
one_cell a b e =
    let characters : a.character ≡ b.character = first a.character b.character a.attrs b.attrs a.pair b.pair e in
    let attrs : a.attrs ≡ b.attrs = second a.character b.character a.attrs b.attrs a.pair b.pair e in
    let pairs : a.pair ≡ b.pair = third a.character b.character a.attrs b.attrs a.pair b.pair e in
    λ i. record { character = characters i; attrs = attrs i; pair = pairs i }
  where
    first : (x y u v s t : ℕ) → (x == y && u == v && s == t) ≡ true → x ≡ y
    first x y u v s t e = grind (arith, nat_tests)

    second : (x y u v s t : ℕ) → (x == y && u == v && s == t) ≡ true → u ≡ v
    second x y u v s t e = grind (arith, nat_tests)

    third : (x y u v s t : ℕ) → (x == y && u == v && s == t) ≡ true → s ≡ t
    third x y u v s t e = grind (arith, nat_tests)

nowhere : true ≡ false → ⊥
nowhere e = (let z : ⊥ = (cc) in z)

-- cells that differ are found to
pub unlike_cell : (a b : CellView) → a ≢ b → not (cell_eq a b) ≡ true
unlike_cell a b n = either (cell_eq a b) refl
  where
    either : (t : Bool) → cell_eq a b ≡ t → not t ≡ true
    either true e = absurd (n (one_cell a b e))
    either false e = refl

-- ---- a range that holds each of some columns

abbrev told : (ℕ → Bool) → (a n : ℕ) → List ℕ
told t a n = filter t (range_with_len a n)

-- one column more in front
told_or_not : {X : Type 0} (f : List ℕ → X) (t : Bool) (c : ℕ) (more : List ℕ) (x : X) → (t ≡ true → f (c ∷ more) ≡ x) → (t ≡ false → f more ≡ x) → f (cond t (c ∷ more) more) ≡ x
told_or_not f true c more x y n = y refl
told_or_not f false c more x y n = n refl

none_told : (t : ℕ → Bool) (a n : ℕ) (range : Range) → ((c : ℕ) → a ≤ c → c < a + n → t c ≡ false) → joined_by (told t a n) range ≡ range
none_told t a zero range h = refl
none_told t a (suc n) range h =
    told_or_not (λ list. joined_by list range) (t a) a (told t (a + 1) n) range (λ e. absurd (nowhere (sym e ∙ h a (omega arith) (omega arith)))) (λ e. none_told t (a + 1) n range (λ c l m. h c (omega arith) (omega arith)))

-- the range begins before these columns, and ends after the last of them that the test picks
rest_told : (t : ℕ → Bool) (a n last x y : ℕ) → x ≤ a → a ≤ last → last < a + n → t last ≡ true → ((c : ℕ) → last < c → c < a + n → t c ≡ false) → joined_by (told t a n) (Some (x, y)) ≡ Some (x, max last y)
rest_told t a zero last x y before from end is after = absurd (let z : ⊥ = omega arith in z)
rest_told t a (suc n) last x y before from end is after = elim (same_or_not a last) [
  | inl e ↦
      told_or_not (λ list. joined_by list (Some (x, y))) (t a) a (told t (a + 1) n) (Some (x, max last y))
      (λ _. none_told t (a + 1) n (joined (Some (a, a)) (Some (x, y))) (λ c l m. after c (omega arith) (omega arith)) ∙ ends a last x y before e)
      (λ f. absurd (nowhere (sym (ap t e ∙ is) ∙ f)))
  | inr d ↦
      told_or_not (λ list. joined_by list (Some (x, y))) (t a) a (told t (a + 1) n) (Some (x, max last y))
      (λ _. ap (λ low. joined_by (told t (a + 1) n) (Some (low, max a y))) (low a x before) ∙ rest_told t (a + 1) n last x (max a y) (omega arith) (omega arith) (omega arith) is (λ c l m. after c l (omega arith)) ∙ ap (λ high. Some (x, high)) (high a last y from))
      (λ _. rest_told t (a + 1) n last x y (omega arith) (omega arith) (omega arith) is (λ c l m. after c l (omega arith)))
]
  where
    low : (a x : ℕ) → x ≤ a → min a x ≡ x
    low a x b = omega arith

    high : (a last y : ℕ) → a ≤ last → max last (max a y) ≡ max last y
    high a last y f = omega arith

    held : ℕ → ℕ → Range
    held low high = Some (low, high)

    ends : (a last x y : ℕ) → x ≤ a → a ≡ last → held (min a x) (max a y) ≡ held x (max last y)
    ends a last x y b e =
        let low : min a x ≡ x = omega arith in
        let high : max a y ≡ max last y = omega arith in
        λ i. held (low i) (high i)

-- it holds those that the test picks, from the first to the last
pub joined_told : (t : ℕ → Bool) (a n first last : ℕ) (range : Range) → a ≤ first → first ≤ last → last < a + n → t first ≡ true → t last ≡ true → ((c : ℕ) → a ≤ c → c < first → t c ≡ false) → ((c : ℕ) → last < c → c < a + n → t c ≡ false)
    → joined_by (told t a n) range ≡ joined (Some (first, last)) range
joined_told t a zero first last range from order end begins ends before after = absurd (let z : ⊥ = omega arith in z)
joined_told t a (suc n) first last range from order end begins ends before after = elim (same_or_not a first) [
  | inl e ↦
      told_or_not (λ list. joined_by list range) (t a) a (told t (a + 1) n) (joined (Some (first, last)) range)
      (λ _. elim (same_or_not a last) [
        | inl f ↦ none_told t (a + 1) n (joined (Some (a, a)) range) (λ c l m. after c (omega arith) (omega arith)) ∙ (λ i. joined (Some (e i, f i)) range)
        | inr d ↦ wider t a n last range (omega arith) (omega arith) ends (λ c l m. after c l (omega arith)) ∙ ap (λ b. joined (Some (b, last)) range) e
      ])
      (λ f. absurd (nowhere (sym (ap t e ∙ begins) ∙ f)))
  | inr d ↦
      told_or_not (λ list. joined_by list range) (t a) a (told t (a + 1) n) (joined (Some (first, last)) range)
      (λ f. absurd (nowhere (sym f ∙ before a (omega arith) (omega arith))))
      (λ _. joined_told t (a + 1) n first last range (omega arith) order (omega arith) begins ends (λ c l m. before c (omega arith) m) (λ c l m. after c l (omega arith)))
]
  where
    wider : (t : ℕ → Bool) (a n last : ℕ) (range : Range) → a + 1 ≤ last → last < a + 1 + n → t last ≡ true → ((c : ℕ) → last < c → c < a + 1 + n → t c ≡ false) → joined_by (told t (a + 1) n) (joined (Some (a, a)) range) ≡ joined (Some (a, last)) range
    wider t a n last None from end is after =
        let high : max last a ≡ last = omega arith in
        rest_told t (a + 1) n last a a (omega arith) from end is after ∙ ap (λ h. Some (a, h)) high
    wider t a n last (Some range) from end is after =
        let high : max last (max a range.1) ≡ max last range.1 = omega arith in
        rest_told t (a + 1) n last (min a range.0) (max a range.1) (omega arith) from end is after ∙ ap (λ h. Some (min a range.0, h)) high

-- ---- what a range holds

pub joined_grows : (other range : Range) (c : ℕ) → in_range range c ≡ true → in_range (joined other range) c ≡ true
joined_grows None range c e = e
joined_grows (Some other) None c e = absurd (nowhere (sym e))
joined_grows (Some other) (Some range) c e = more other.0 other.1 range.0 range.1 c e
  where
    more : (first last a b c : ℕ) → (leb a c && leb c b) ≡ true → (leb (min first a) c && leb c (max last b)) ≡ true
    more first last a b c e = grind (arith, nat_tests)

pub all_grow : (list : List ℕ) (range : Range) (c : ℕ) → in_range range c ≡ true → in_range (joined_by list range) c ≡ true
all_grow [] range c e = e
all_grow (x ∷ more) range c e = all_grow more (joined (Some (x, x)) range) c (joined_grows (Some (x, x)) range c e)

holds_it : (c : ℕ) (range : Range) → in_range (joined (Some (c, c)) range) c ≡ true
holds_it c None = alone c
  where
    alone : (c : ℕ) → (leb c c && leb c c) ≡ true
    alone c = grind (arith, nat_tests)
holds_it c (Some range) = among c range.0 range.1
  where
    among : (c a b : ℕ) → (leb (min c a) c && leb c (max c b)) ≡ true
    among c a b = grind (arith, nat_tests)

-- a column that the test picks is held
pub told_is_held : (t : ℕ → Bool) (a n c : ℕ) (range : Range) → a ≤ c → c < a + n → t c ≡ true → in_range (joined_by (told t a n) range) c ≡ true
told_is_held t a zero c range from end is = absurd (let z : ⊥ = omega arith in z)
told_is_held t a (suc n) c range from end is = elim (same_or_not a c) [
  | inl e ↦
      told_or_not (λ list. in_range (joined_by list range) c) (t a) a (told t (a + 1) n) true
      (λ _. all_grow (told t (a + 1) n) (joined (Some (a, a)) range) c (ap (λ x. in_range (joined (Some (x, x)) range) c) e ∙ holds_it c range))
      (λ f. absurd (nowhere (sym (ap t e ∙ is) ∙ f)))
  | inr d ↦
      told_or_not (λ list. in_range (joined_by list range) c) (t a) a (told t (a + 1) n) true
      (λ _. told_is_held t (a + 1) n c (joined (Some (a, a)) range) (omega arith) (omega arith) is)
      (λ _. told_is_held t (a + 1) n c range (omega arith) (omega arith) is)
]

-- ---- rows of cells

-- rows that are alike in these columns differ in the same ones
pub unlike_alike : (f g p q : ℕ → CellView) (a n : ℕ) → ((c : ℕ) → a ≤ c → c < a + n → f c ≡ p c) → ((c : ℕ) → a ≤ c → c < a + n → g c ≡ q c) → columns_unlike f g a n ≡ columns_unlike p q a n
unlike_alike f g p q a zero h k = refl
unlike_alike f g p q a (suc n) h k =
    let rest : columns_unlike f g (a + 1) n ≡ columns_unlike p q (a + 1) n = unlike_alike f g p q (a + 1) n (λ c l m. h c (omega arith) (omega arith)) (λ c l m. k c (omega arith) (omega arith)) in
    let here : cell_eq (f a) (g a) ≡ cell_eq (p a) (q a) = λ i. cell_eq (h a (omega arith) (omega arith) i) (k a (omega arith) (omega arith) i) in
    λ i. cond (not (here i)) (a ∷ rest i) (rest i)

-- a column outside the range that holds those in which two rows differ has the same cell in both
pub outside_is_same : (f g : ℕ → CellView) (a n c : ℕ) (range : Range) → a ≤ c → c < a + n → in_range (joined_by (columns_unlike f g a n) range) c ≡ false → g c ≡ f c
outside_is_same f g a n c range from end out = sym (one_cell (f c) (g c) (either (cell_eq (f c) (g c)) refl))
  where
    either : (t : Bool) → cell_eq (f c) (g c) ≡ t → t ≡ true
    either true e = refl
    either false e = absurd (nowhere (sym (told_is_held (λ k. not (cell_eq (f k) (g k))) a n c range from end (ap not e)) ∙ out))

-- ---- where runs of cells differ first and last

-- a run is what a row has from a column on
part_at : (row : List CellView) (column n j : ℕ) → j < n → get_or (take n (drop column row)) j blank_cell ≡ get_or row (column + j) blank_cell
part_at row column n j h = get_or-take n (drop column row) j blank_cell h ∙ get_or-drop column row j blank_cell

back : (column c : ℕ) → column ≤ c → column + (c - column) ≡ c
back column c l = omega arith

abbrev row_told : List CellView → List CellView → ℕ → ℕ → Bool
row_told row cells column c = not (cell_eq (get_or row c blank_cell) (get_or cells (c - column) blank_cell))

long : (row : List CellView) (column n : ℕ) → column + n ≤ length row → length (take n (drop column row)) ≡ n
long row column n end = let rest : length (drop column row) ≡ length row - column = length-drop column row in length-take-le n (drop column row) (omega (arith, rest))

not_told : (row cells : List CellView) (column n c : ℕ) → n ≡ length cells → column ≤ c → c < column + length cells → IsSameAt (take n (drop column row)) cells (c - column) → row_told row cells column c ≡ false
not_told row cells column n c n_is from end same =
    ap not (same_cell (get_or row c blank_cell) (get_or cells (c - column) blank_cell) (sym (ap (λ k. get_or row k blank_cell) (back column c from)) ∙ sym (part_at row column n (c - column) (omega (arith, n_is))) ∙ same blank_cell))

is_told : (row cells : List CellView) (column n c : ℕ) → n ≡ length cells → column ≤ c → c < column + length cells → DiffersAt (take n (drop column row)) cells (c - column) → row_told row cells column c ≡ true
is_told row cells column n c n_is from end differs =
    unlike_cell (get_or row c blank_cell) (get_or cells (c - column) blank_cell) (λ e. differs blank_cell (part_at row column n (c - column) (omega (arith, n_is)) ∙ ap (λ k. get_or row k blank_cell) (back column c from) ∙ e))

-- the first place in which they differ is not after the last
in_order : (xs ys : List CellView) (first last : ℕ) → IsFirstDifference xs ys (Some first) → IsLastDifference xs ys (Some last) → first ≤ last
in_order xs ys first last begins ends = elim (less_or_not last first) [
  | inl below ↦ absurd (ends.differs blank_cell (begins.before last below blank_cell))
  | inr fine ↦ fine
]
  where
    less_or_not : (a b : ℕ) → (a < b) ⊎ (b ≤ a)
    less_or_not a b = grind arith

-- they are columns of a row
pub unlike_is_range : (row cells : List CellView) (column n first last columns : ℕ) → n ≡ length cells → column + length cells ≤ columns
    → IsFirstDifference (take n (drop column row)) cells (Some first) → IsLastDifference (take n (drop column row)) cells (Some last) → IsRange columns (column + first, column + last)
unlike_is_range row cells column n first last columns n_is end begins ends =
    let order : first ≤ last = in_order (take n (drop column row)) cells first last begins ends in
    let many : length (take n (drop column row)) ≡ min n (length (drop column row)) = length-take n (drop column row) in
    (omega (arith, order), omega (arith, ends.inside, many, n_is, end))

-- rows that are the same everywhere, and rows that differ
pub none_unlike : (row cells : List CellView) (column n : ℕ) (range : Range) → n ≡ length cells → column + length cells ≤ length row → IsFirstDifference (take n (drop column row)) cells None
    → range ≡ joined_by (columns_unlike (λ c. get_or row c blank_cell) (λ c. get_or cells (c - column) blank_cell) column (length cells)) range
none_unlike row cells column n range n_is end same =
    sym (none_told (row_told row cells column) column (length cells) range (λ c from to. not_told row cells column n c n_is from to (same (c - column) (let many = long row column n (omega (arith, n_is, end)) in omega (arith, many, n_is)))))

pub some_unlike : (row cells : List CellView) (column n first last : ℕ) (range : Range) → n ≡ length cells → column + length cells ≤ length row
    → IsFirstDifference (take n (drop column row)) cells (Some first) → IsLastDifference (take n (drop column row)) cells (Some last)
    → joined (Some (column + first, column + last)) range ≡ joined_by (columns_unlike (λ c. get_or row c blank_cell) (λ c. get_or cells (c - column) blank_cell) column (length cells)) range
some_unlike row cells column n first last range n_is end begins ends =
    let order : first ≤ last = in_order (take n (drop column row)) cells first last begins ends in
    let many : length (take n (drop column row)) ≡ n = long row column n (omega (arith, n_is, end)) in
    let inside : last < length cells = omega (arith, ends.inside, many, n_is) in
    sym (joined_told (row_told row cells column) column (length cells) (column + first) (column + last) range (omega arith) (omega arith) (omega arith)
    (is_told row cells column n (column + first) n_is (omega arith) (omega arith) (at_place first begins.differs))
    (is_told row cells column n (column + last) n_is (omega arith) (omega arith) (at_place last ends.differs))
    (λ c from below. not_told row cells column n c n_is from (omega arith) (begins.before (c - column) (omega arith)))
    (λ c above to. not_told row cells column n c n_is (omega arith) to (ends.after (c - column) (omega arith) (omega (arith, many, n_is)))))
  where
    at_place : (i : ℕ) → DiffersAt (take n (drop column row)) cells i → DiffersAt (take n (drop column row)) cells (column + i - column)
    at_place i differs =
        let there : i ≡ column + i - column = omega arith in
        subst (DiffersAt (take n (drop column row)) cells) there differs
