-- Ranges of columns, one or none for each row.
use Rattle.std.proofs.Common.{◌≡◌, ◌≢◌, ◌⊎◌, inl, inr, ℕ, Bool, true, false, ◌+◌, ◌<◌, ◌≤◌, ◌&&◌, sym, ◌∙◌, ap, refl, arith, subst, List, length, set, get_or, cond, ltb, leb, replicate, Option, None, Some}
use Rattle.std.specs.Prelude.{IfSome}
use Rattle.std.proofs.lemmas.List.{same_lists, get_or_default, get_or-replicate, get_or-set_same, get_or-set_other, length-set, length-replicate}
use Rattle.std.proofs.lemmas.List.FromFn.{get_or-map-range_with_len, length-map-range_with_len}
use Rattle.std.proofs.lemmas.Bool.Decides.{nat_tests}
use Rattle.scr_virtual.specs.Ranges.{AreNoneOutside, AreRanges, IsRange, joined, ranges_with}

pub same_or_not : (a b : ℕ) → (a ≡ b) ⊎ (a ≢ b)
same_or_not a b = grind arith

abbrev pub Range : Type 0
Range = Option (ℕ × ℕ)

-- what becomes of a row's range
abbrev pub made_of : (ℕ → Bool) → (ℕ → Range → Range) → ℕ → Range → Range
made_of rows f r range = cond (rows r) (f r range) range

-- the range of a row after those of some rows were changed
pub range_of : (rows : ℕ → Bool) (f : ℕ → Range → Range) (ranges : List Range) (r : ℕ) (d : Range) → r < length ranges → get_or (ranges_with rows f ranges) r d ≡ made_of rows f r (get_or ranges r None)
range_of rows f ranges r d h = get_or-map-range_with_len (λ k. made_of rows f k (get_or ranges k None)) 0 (length ranges) r r d h (omega arith)

pub as_many : (rows : ℕ → Bool) (f : ℕ → Range → Range) (ranges : List Range) → length (ranges_with rows f ranges) ≡ length ranges
as_many rows f ranges = length-map-range_with_len _ 0 (length ranges)

-- what has these ranges is the list of them
pub ranges_are : (rows : ℕ → Bool) (f : ℕ → Range → Range) (ranges new : List Range) → length new ≡ length ranges
    → ((r : ℕ) (d : Range) → r < length ranges → get_or new r d ≡ made_of rows f r (get_or ranges r None)) → new ≡ ranges_with rows f ranges
ranges_are rows f ranges new len same =
    same_lists new (ranges_with rows f ranges) (len ∙ sym (as_many rows f ranges)) (λ r d h. same r d (omega (arith, len)) ∙ sym (range_of rows f ranges r d (omega (arith, len))))

-- rows that two tests pick alike
pub rows_alike : (rows more : ℕ → Bool) (f : ℕ → Range → Range) (ranges : List Range) → ((r : ℕ) → r < length ranges → rows r ≡ more r) → ranges_with rows f ranges ≡ ranges_with more f ranges
rows_alike rows more f ranges same =
    ranges_are more f ranges (ranges_with rows f ranges) (as_many rows f ranges) (λ r d h. range_of rows f ranges r d h ∙ ap (λ t. cond t (f r (get_or ranges r None)) (get_or ranges r None)) (same r h))

-- functions that do alike
pub made_alike : (rows : ℕ → Bool) (f g : ℕ → Range → Range) (ranges : List Range) → ((r : ℕ) (range : Range) → r < length ranges → rows r ≡ true → f r range ≡ g r range) → ranges_with rows f ranges ≡ ranges_with rows g ranges
made_alike rows f g ranges same =
    ranges_are rows g ranges (ranges_with rows f ranges) (as_many rows f ranges) (λ r d h. range_of rows f ranges r d h ∙ either (rows r) (f r (get_or ranges r None)) (g r (get_or ranges r None)) (get_or ranges r None) (same r (get_or ranges r None) h))
  where
    either : (t : Bool) (a b x : Range) → (t ≡ true → a ≡ b) → cond t a x ≡ cond t b x
    either true a b x e = e refl
    either false a b x e = refl

-- the range of one more row is changed
pub range_put : (rows more : ℕ → Bool) (f : ℕ → Range → Range) (ranges : List Range) (k : ℕ) (value : Range) → k < length ranges → value ≡ f k (get_or ranges k None) → more k ≡ true → ((r : ℕ) → r ≢ k → more r ≡ rows r)
    → set (ranges_with rows f ranges) k value ≡ ranges_with more f ranges
range_put rows more f ranges k value row_in is now others =
    let before : List Range = ranges_with rows f ranges in
    let len : length before ≡ length ranges = as_many rows f ranges in
    ranges_are more f ranges (set before k value) (length-set before k value ∙ len) (λ r d h.
    elim (same_or_not r k) [
      | inl e ↦ ap (λ n. get_or (set before k value) n d) e ∙ get_or-set_same before k value d (omega (arith, len)) ∙ is ∙ ap (λ n. f n (get_or ranges n None)) (sym e)
          ∙ ap (λ b. cond b (f r (get_or ranges r None)) (get_or ranges r None)) (sym (ap more e ∙ now))
      | inr n ↦ get_or-set_other before k r value d n ∙ range_of rows f ranges r d h ∙ ap (λ b. cond b (f r (get_or ranges r None)) (get_or ranges r None)) (sym (others r n))
    ])

-- no row's range is another yet
pub none_put : (rows : ℕ → Bool) (f : ℕ → Range → Range) (ranges : List Range) → ((r : ℕ) → rows r ≡ false) → ranges ≡ ranges_with rows f ranges
none_put rows f ranges none =
    ranges_are rows f ranges ranges refl (λ r d h. get_or_default ranges r d None h ∙ sym (ap (λ t. cond t (f r (get_or ranges r None)) (get_or ranges r None)) (none r)))

-- the ranges of rows from one up to another are filled, a row at a time
pub fill_begun : (first : ℕ) (f : ℕ → Range → Range) (ranges : List Range) → ranges ≡ ranges_with (λ r. leb first r && ltb r first) f ranges
fill_begun first f ranges = none_put _ f ranges (λ r. none first r)
  where
    none : (first r : ℕ) → (leb first r && ltb r first) ≡ false
    none first r = grind (arith, nat_tests)

pub fill_more : (first row : ℕ) (value : Range) (ranges : List Range) → first ≤ row → row < length ranges
    → set (ranges_with (λ r. leb first r && ltb r row) (λ _ _. value) ranges) row value ≡ ranges_with (λ r. leb first r && ltb r (row + 1)) (λ _ _. value) ranges
fill_more first row value ranges order row_in =
    range_put (λ r. leb first r && ltb r row) (λ r. leb first r && ltb r (row + 1)) (λ _ _. value) ranges row value row_in refl (here first row order) (λ r n. other first row r n)
  where
    here : (first row : ℕ) → first ≤ row → (leb first row && ltb row (row + 1)) ≡ true
    here first row order = grind (arith, nat_tests)

    other : (first row r : ℕ) → r ≢ row → (leb first r && ltb r (row + 1)) ≡ (leb first r && ltb r row)
    other first row r n = grind (arith, nat_tests)

-- where the others have none, emptying the ranges of some rows leaves none
pub emptied : (first end : ℕ) (ranges : List Range) → AreNoneOutside ranges first end → ranges_with (λ r. leb first r && ltb r end) (λ _ _. None) ranges ≡ replicate (length ranges) None
emptied first end ranges others =
    let none : Range = None in
    same_lists (ranges_with (λ r. leb first r && ltb r end) (λ _ _. none) ranges) (replicate (length ranges) none) (as_many (λ r. leb first r && ltb r end) (λ _ _. none) ranges ∙ sym (length-replicate (length ranges) none)) (λ r d h.
    let row_in : r < length ranges = omega (arith, as_many (λ r. leb first r && ltb r end) (λ _ _. none) ranges) in
    range_of (λ r. leb first r && ltb r end) (λ _ _. none) ranges r d row_in
    ∙ either first end r (get_or ranges r None) (others r)
    ∙ sym (get_or-replicate (length ranges) r none d row_in))
  where
    before_or_not : (a b : ℕ) → (a < b) ⊎ (b ≤ a)
    before_or_not a b = grind arith

    both : (first end r : ℕ) → first ≤ r → r < end → (leb first r && ltb r end) ≡ true
    both first end r f b = grind (arith, nat_tests)

    in_or_out : (first end r : ℕ) → ((leb first r && ltb r end) ≡ true) ⊎ ((r < first) ⊎ (end ≤ r))
    in_or_out first end r = elim (before_or_not r first) [
      | inl b ↦ inr (inl b)
      | inr f ↦ elim (before_or_not r end) [
        | inl b ↦ inl (both first end r f b)
        | inr e ↦ inr (inr e)
      ]
    ]

    still : (t : Bool) (range : Range) → range ≡ None → cond t None range ≡ None
    still true range e = refl
    still false range e = e

    either : (first end r : ℕ) (range : Range) → ((r < first) ⊎ (end ≤ r) → range ≡ None) → cond (leb first r && ltb r end) None range ≡ None
    either first end r range h = elim (in_or_out first end r) [
      | inl e ↦ ap (λ t. cond t None range) e
      | inr out ↦ still (leb first r && ltb r end) range (h out)
    ]

-- what two ranges of columns hold between them is one
pub joined_is_range : (columns : ℕ) (other range : Range) → IfSome other (IsRange columns) → IfSome range (IsRange columns) → IfSome (joined other range) (IsRange columns)
joined_is_range columns None range o h = h
joined_is_range columns (Some other) None o h = o
joined_is_range columns (Some other) (Some range) o h = (omega (arith, o.0, h.0), omega (arith, o.1, h.1))

-- where what a function makes of a range is one, all are ranges
pub ranges_are_ranges : (columns : ℕ) (rows : ℕ → Bool) (f : ℕ → Range → Range) (ranges : List Range) → ((r : ℕ) (range : Range) → IfSome range (IsRange columns) → IfSome (f r range) (IsRange columns))
    → AreRanges columns ranges → AreRanges columns (ranges_with rows f ranges)
ranges_are_ranges columns rows f ranges kept h r d b =
    let row_in : r < length ranges = omega (arith, as_many rows f ranges) in
    let P : Range → Type 0 = λ range. IfSome range (IsRange columns) in
    subst P (sym (range_of rows f ranges r d row_in)) (either (rows r) (f r (get_or ranges r None)) (get_or ranges r None) (kept r _ (h r None row_in)) (h r None row_in))
  where
    either : (t : Bool) (new range : Range) → IfSome new (IsRange columns) → IfSome range (IsRange columns) → IfSome (cond t new range) (IsRange columns)
    either true new range p q = p
    either false new range p q = q
